-- What the images of both files hold.
use Rattle.std.proofs.Common.{◌≡◌, [], ◌∷◌, ◌++◌, ℕ, List, length, refl, ap, sym, subst, ◌∙◌}
use Rattle.graph_model.specs.Graph.{Graph, after}
use Rattle.graph_model.specs.declared.entity.StoreOp.{StoreOp}
use Rattle.gated_log.specs.Log.{payloads_of}
use Rattle.type_desc.specs.declared.desc.TypeDesc.{TypeDesc}
use Rattle.type_dictionary.proofs.RecordLists.{next_once}
use Rattle.plain_storage.specs.Finishing.{AreSameLogs}
use Rattle.plain_storage.specs.Held.{IsPlainStored, IsSoundGraph, PlainHeld}
use Rattle.plain_storage.specs.Logs.{IsLogFile}
use Rattle.plain_storage.specs.Reading.{AreStoresHeld}
use Rattle.plain_storage.specs.Stores.{plain_header, payloads_of_stores}
use Rattle.graph_model.specs.Stores.{next_after}
use Rattle.plain_storage.specs.Types.{types_header, AreTypesHeld, AreRecords}
use Rattle.plain_storage.proofs.Opening.{file_payloads, records_of_file, holds_too}
use Rattle.plain_storage.proofs.StoreLists.{stores_once, length-payloads_of_stores}
use Rattle.plain_storage.proofs.TypeRecords.{first_type, types_ended}

-- payloads are the records of one list of types
types_once : (payloads : List (List ℕ)) (before a b : List TypeDesc) → AreRecords before payloads a → AreRecords before payloads b → a ≡ b
types_once [] before a b these also = types_ended before a these ∙ sym (types_ended before b also)
types_once (payload ∷ rest) before a b these also =
    let first = first_type before payload rest a these in
    let second = first_type before payload rest b also in
    let one : first.desc ≡ second.desc = next_once before payload first.desc second.desc first.next second.next in
    types_once rest (before ++ second.desc ∷ []) a b (subst (λ (d : TypeDesc). AreRecords (before ++ d ∷ []) rest a) one first.others) second.others

-- an image holds one list of types
pub types_held_once : (image : List ℕ) (a b : List TypeDesc) → AreTypesHeld image a → AreTypesHeld image b → a ≡ b
types_held_once image a b held also = types_once (payloads_of image) [] a b (records_of_file image a held) (records_of_file image b also)

one_list : (image : List ℕ) (a b : List StoreOp) → IsLogFile plain_header (payloads_of_stores 1 a) image → IsLogFile plain_header (payloads_of_stores 1 b) image
    → payloads_of_stores 1 a ≡ payloads_of_stores 1 b
one_list image a b log also = sym (file_payloads plain_header (payloads_of_stores 1 a) image log) ∙ file_payloads plain_header (payloads_of_stores 1 b) image also

-- the log of stores in what the images hold
pub stores_in : (image0 image1 : List ℕ) (held : PlainHeld) → IsPlainStored image0 image1 held → AreStoresHeld image0 held.next_id held.graph
stores_in image0 image1 held stored = record { stores = stored.stores; log = stored.log; next_is = stored.next_id; made = stored.graph }

-- an image holds one graph
pub graph_held_once : (image : List ℕ) (next_id next_id' : ℕ) (graph graph' : Graph) → AreStoresHeld image next_id graph → AreStoresHeld image next_id' graph' → graph ≡ graph'
graph_held_once image next_id next_id' graph graph' held also =
    let same = stores_once 1 1024 1024 (payloads_of_stores 1 held.stores) held.stores also.stores held.log.follow also.log.follow refl (one_list image held.stores also.stores held.log.log also.log.log) in
    held.made ∙ ap (λ (ops : List StoreOp). after [] ops) same ∙ sym also.made

-- the images hold one thing at most
pub plain_once : (image0 image1 : List ℕ) (held other : PlainHeld) → IsPlainStored image0 image1 held → IsPlainStored image0 image1 other → held ≡ other
plain_once image0 image1 held other stored also =
    let same = stores_once 1 1024 1024 (payloads_of_stores 1 stored.stores) stored.stores also.stores stored.log.follow also.log.follow refl (one_list image0 stored.stores also.stores stored.log.log also.log.log) in
    let types : held.types ≡ other.types = types_held_once image1 held.types other.types stored.types also.types in
    let graph : held.graph ≡ other.graph = stored.graph ∙ ap (λ (ops : List StoreOp). after [] ops) same ∙ sym also.graph in
    let number : held.number ≡ other.number = stored.number ∙ ap (λ (ops : List StoreOp). length ops) same ∙ sym also.number in
    let next_id : held.next_id ≡ other.next_id = stored.next_id ∙ ap (λ (ops : List StoreOp). next_after 1024 ops) same ∙ sym also.next_id in
    λ i. record { types = types i; graph = graph i; number = number i; next_id = next_id i }

-- types, stores and a sound graph are what the images hold
pub plain_stored : (image0 image1 : List ℕ) (types : List TypeDesc) (graph : Graph) (next_id : ℕ) → AreTypesHeld image1 types → AreStoresHeld image0 next_id graph → IsSoundGraph types graph
    → IsPlainStored image0 image1 (record { types = types; graph = graph; number = length (payloads_of image0); next_id = next_id })
plain_stored image0 image1 types graph next_id held stores sound = record {
  types = held;
  stores = stores.stores;
  log = stores.log;
  graph = stores.made;
  number = ap length (file_payloads plain_header (payloads_of_stores 1 stores.stores) image0 stores.log.log) ∙ length-payloads_of_stores 1 stores.stores;
  next_id = stores.next_is;
  sound = sound;
}

-- where the graph is not sound the images hold nothing
pub not_sound : (image0 image1 : List ℕ) (types : List TypeDesc) (graph : Graph) (next_id : ℕ) → AreTypesHeld image1 types → AreStoresHeld image0 next_id graph
    → (IsSoundGraph types graph → ⊥) → (held : PlainHeld) → IsPlainStored image0 image1 held → ⊥
not_sound image0 image1 types graph next_id held stores unsound other stored =
    let same : other.types ≡ types = types_held_once image1 other.types types stored.types held in
    let one : other.graph ≡ graph = graph_held_once image0 other.next_id next_id other.graph graph (stores_in image0 image1 other stored) stores in
    unsound (subst (λ (ts : List TypeDesc). IsSoundGraph ts graph) same (subst (λ (g : Graph). IsSoundGraph other.types g) one stored.sound))

-- what the files hold, images with the same payloads hold too
pub stored_too : (reads : ℕ → List ℕ) (image0 image1 : List ℕ) (held : PlainHeld) → IsPlainStored (reads 0) (reads 1) held → AreSameLogs reads image0 image1 → IsPlainStored image0 image1 held
stored_too reads image0 image1 held stored same = record {
  types = holds_too (reads 1) image1 held.types stored.types same.types.payloads same.types.log;
  stores = stored.stores;
  log = record {
    follow = stored.log.follow;
    log = subst (λ (ps : List (List ℕ)). IsLogFile plain_header ps image0) (same.stores.payloads ∙ file_payloads plain_header (payloads_of_stores 1 stored.stores) (reads 0) stored.log.log) same.stores.log;
  };
  graph = stored.graph;
  number = stored.number;
  next_id = stored.next_id;
  sound = stored.sound;
}

log_of : (header : List ℕ) (payloads : List (List ℕ)) (file : List ℕ) → IsLogFile header payloads file → IsLogFile header (payloads_of file) file
log_of header payloads file log = subst (λ (ps : List (List ℕ)). IsLogFile header ps file) (sym (file_payloads header payloads file log)) log

-- files that hold something are logs of their payloads
pub logs_here : (reads : ℕ → List ℕ) (held : PlainHeld) → IsPlainStored (reads 0) (reads 1) held → AreSameLogs reads (reads 0) (reads 1)
logs_here reads held stored = record {
  stores = record { payloads = refl; log = log_of plain_header (payloads_of_stores 1 stored.stores) (reads 0) stored.log.log };
  types = record { payloads = refl; log = log_of types_header _ (reads 1) stored.types.log };
}
