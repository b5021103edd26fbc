-- Why a run ends where a storage does not serve.
use Rattle.graph_model.specs.declared.ask.StorageFault.{StorageFault}
use Rattle.graph_model.specs.declared.ask.StorageFault.TheVariants as storage
use Rattle.store_run.specs.declared.stop.Stop.{Stop}
use Rattle.store_run.specs.declared.stop.Stop.TheVariants as stop

abbrev pub storage_stop : StorageFault → Stop
storage_stop storage.NoMemory = stop.NoMemory
storage_stop storage.Fault = stop.StorageFault
storage_stop (storage.Full number) = stop.Full
storage_stop (storage.Broken id) = stop.StorageFault
