-- The status of a run that ends before its input does.
use Rattle.store_run.specs.declared.status.Status.{Status}
use Rattle.store_run.specs.declared.status.Status.TheVariants as status
use Rattle.store_run.specs.declared.stop.Stop.{Stop}
use Rattle.store_run.specs.declared.stop.Stop.TheVariants as stop

abbrev pub status_of : Stop → Status
status_of stop.ReadFault = status.ReadFault
status_of stop.WriteFault = status.WriteFault
status_of stop.StorageFault = status.StorageFault
status_of stop.NoMemory = status.NoMemory
status_of stop.InputTooLong = status.InputTooLong
status_of stop.Full = status.Full
