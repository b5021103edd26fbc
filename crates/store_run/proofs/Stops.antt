-- Why a run ends, where a call has failed.
use Rattle.std.proofs.Common.{◌≡◌, ◌≢◌, ℕ, List, Result, Ok, Err, IfErr, IsErrAnd, IsErrOf, inl, inr, refl, ap, sym, subst}
use Rattle.graph_model.specs.declared.ask.Ask.{Ask}
use Rattle.graph_model.specs.declared.ask.Ask.TheVariants as asks
use Rattle.graph_model.specs.declared.ask.StorageFault.{StorageFault}
use Rattle.graph_model.specs.declared.ask.StorageFault.TheVariants as storage
use Rattle.plain_storage.specs.Keeping.{IsOverFull}
use Rattle.plain_storage.specs.Logs.{HasFullLog}
use Rattle.store_run.specs.Faults.{storage_stop}
use Rattle.store_run.specs.declared.stop.Stop.{Stop}
use Rattle.store_run.specs.declared.stop.Stop.TheVariants as stop

-- what holds of the stop that is answered
pub if_stopped : {T : Type 0} (r : Result T Stop) (is : Stop) (P : Stop → Type 0) → IsErrAnd r (λ e. e ≡ is) → P is → IfErr r P
if_stopped (Ok x) is P answered holds = tt
if_stopped (Err e) is P answered holds = subst P (sym answered) holds

-- what was answered is this
pub stopped_is : {T : Type 0} (r : Result T Stop) (is s : Stop) → IsErrAnd r (λ e. e ≡ is) → IsErrOf r s → is ≡ s
stopped_is (Ok x) is s answered told = absurd answered
stopped_is (Err e) is s answered told = cc

-- what is asked has no room in one of the logs
pub some_full : (ask : Ask) (reads : ℕ → List ℕ) → IsOverFull ask reads → HasFullLog reads
some_full (asks.Store op) reads over = inl over
some_full (asks.KeepType text) reads over = inr over
some_full (asks.Look x) reads over = absurd over
some_full (asks.Hold xs) reads over = absurd over
some_full (asks.Release xs) reads over = absurd over
some_full asks.Collect reads over = absurd over
some_full asks.Tidy reads over = absurd over

-- a run is full where its storage is
pub storage_full : (fault : StorageFault) (P : Type 0) → storage_stop fault ≡ stop.Full → ((number : ℕ) → fault ≡ storage.Full number → P) → P
storage_full storage.NoMemory P is then = absurd cc
storage_full storage.Fault P is then = absurd cc
storage_full (storage.Full number) P is then = then number refl
storage_full (storage.Broken id) P is then = absurd cc

-- a storage stops a run neither by the sink nor by the source
pub not_of_storage : (fault : StorageFault) → (storage_stop fault ≢ stop.WriteFault) × ((storage_stop fault ≢ stop.ReadFault) × (storage_stop fault ≢ stop.InputTooLong))
not_of_storage storage.NoMemory = ((λ is. cc), ((λ is. cc), (λ is. cc)))
not_of_storage storage.Fault = ((λ is. cc), ((λ is. cc), (λ is. cc)))
not_of_storage (storage.Full number) = ((λ is. cc), ((λ is. cc), (λ is. cc)))
not_of_storage (storage.Broken id) = ((λ is. cc), ((λ is. cc), (λ is. cc)))

-- a run ends with a fault of its storage where the storage failed, which never finds an entity broken
pub storage_failed : (fault : StorageFault) (P : Type 0) → storage_stop fault ≡ stop.StorageFault → (fault ≡ storage.Fault → P) → ((id : ℕ) → fault ≡ storage.Broken id → ⊥) → P
storage_failed storage.NoMemory P is failed broken = absurd cc
storage_failed storage.Fault P is failed broken = failed refl
storage_failed (storage.Full number) P is failed broken = absurd cc
storage_failed (storage.Broken id) P is failed broken = absurd (broken id refl)

pub failed_so : {T E : Type 0} (e f : E) → e ≡ f → IsErrOf {T = T} {E = E} (Err e) f
failed_so e f is = ap (λ (x : _). Err x) is

pub memory_is_not_full : stop.NoMemory ≢ stop.Full
memory_is_not_full is = cc
