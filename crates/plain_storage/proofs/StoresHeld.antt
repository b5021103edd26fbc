-- Files that hold stores.
use Rattle.std.proofs.Common.{⊎_elim, ◌⊎◌, ◌≢◌, ◌<◌, [], ℕ, List, length, take, ap, subst, ◌∙◌, arith}
use Rattle.std.proofs.lemmas.List.{take_at}
use Rattle.graph_model.specs.Graph.{Graph}
use Rattle.gated_log.specs.Log.{payloads_of, IsNoLog}
use Rattle.plain_storage.specs.Logs.{IsLogFile}
use Rattle.plain_storage.specs.Reading.{AreStores, AreStoresHeld}
use Rattle.plain_storage.specs.Stores.{plain_header, payloads_of_stores}
use Rattle.plain_storage.proofs.Opening.{file_payloads}

-- the payloads of a file that holds stores are these
pub stores_of_file : (file : List ℕ) (next_id : ℕ) (graph : Graph) → AreStoresHeld file next_id graph → AreStores 1 1024 (payloads_of file) next_id [] graph
stores_of_file file next_id graph held = record {
  stores = held.stores;
  follow = held.log.follow;
  spelled = file_payloads plain_header (payloads_of_stores 1 held.stores) file held.log.log;
  next_is = held.next_is;
  made = held.made;
}

-- a log whose payloads are stores holds these
pub file_of_stores : (file : List ℕ) (next_id : ℕ) (graph : Graph) → AreStores 1 1024 (payloads_of file) next_id [] graph → IsLogFile plain_header (payloads_of file) file → AreStoresHeld file next_id graph
file_of_stores file next_id graph these log = record {
  stores = these.stores;
  log = record { follow = these.follow; log = subst (λ (ps : List (List ℕ)). IsLogFile plain_header ps file) these.spelled log };
  next_is = these.next_is;
  made = these.made;
}

-- a file that is no log, or whose payloads are no stores, holds no stores
pub no_stores : (file : List ℕ) → ((9 < length file) × IsNoLog plain_header file) ⊎ ((next_id : ℕ) (graph : Graph) → ¬ (AreStores 1 1024 (payloads_of file) next_id [] graph))
    → (next_id : ℕ) (graph : Graph) → AreStoresHeld file next_id graph → ⊥
no_stores file fault next_id graph held =
    ⊎_elim
    (λ no_log. ⊎_elim (λ short. absurd (omega (arith, short.0, no_log.0))) (λ log. no_log.1 (payloads_of_stores 1 held.stores) log) held.log.log)
    (λ none. none next_id graph (stores_of_file file next_id graph held))
    fault

-- a long file that begins otherwise is no log
pub other_front : (header file : List ℕ) → take 8 file ≢ header → IsNoLog header file
other_front header file other payloads log = other (ap (λ (l : List ℕ). take 8 l) log.split ∙ take_at header _ 8 log.eight)
