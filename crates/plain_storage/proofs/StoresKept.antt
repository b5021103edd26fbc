-- One store more in the log of stores.
use Rattle.std.proofs.Common.{⊎_elim, inl, inr, ◌⊎◌, ◌≡◌, ◌≤◌, ◌<◌, ◌+◌, ◌++◌, [], ◌∷◌, ℕ, true, List, length, refl, ap, sym, subst, ◌∙◌, arith}
use Rattle.std.specs.List.{AllByRecursion, sum_by}
use Rattle.std.proofs.lemmas.List.Sums.{sum_by-cons}
use Rattle.gated_log.specs.Log.{payloads_of, IsLogOf, IsBeforeOrAfter}
use Rattle.gated_log.specs.Of.{IsOf}
use Rattle.gated_log.specs.State.{LogState}
use Rattle.gated_log.specs.declared.log.AppendFault.{AppendFault}
use Rattle.gated_log.specs.declared.log.AppendFault.TheVariants as appending
use Rattle.graph_model.specs.declared.ask.StorageFault.TheVariants as asking
use Rattle.graph_model.specs.Stores.{is_good_id}
use Rattle.graph_model.specs.declared.entity.Record.{Record}
use Rattle.graph_model.specs.declared.entity.StoreOp.{StoreOp}
use Rattle.plain_storage.specs.Serving.{HasSpelling, IsGoodStore, IsNextStore, asked_fault}
use Rattle.plain_storage.specs.Stores.{AllMayFollow, HoldsStores, IsObject, MayFollow, payload_of, payloads_of_stores, plain_header}
use Rattle.graph_model.specs.Stores.{next_after}
use Rattle.plain_storage.proofs.Opening.{file_payloads}

abbrev one_payload : ℕ → StoreOp → List (List ℕ)
one_payload number op = payload_of number op ∷ []

-- the payload of a store behind others
pub payloads_of_stores-push : (number : ℕ) (stores : List StoreOp) (op : StoreOp)
    → payloads_of_stores number (stores ++ op ∷ []) ≡ payloads_of_stores number stores ++ payload_of (number + length stores) op ∷ []
payloads_of_stores-push number [] op =
    let same : number ≡ number + 0 = omega arith in
    ap (λ n. one_payload n op) same
payloads_of_stores-push number (first ∷ stores) op =
    let same : (number + 1) + length stores ≡ number + length (first ∷ stores) = omega arith in
    ap (λ (l : List (List ℕ)). payload_of number first ∷ l)
    (payloads_of_stores-push (number + 1) stores op ∙ ap (λ n. payloads_of_stores (number + 1) stores ++ payload_of n op ∷ []) same)

pub length-payloads_of_stores : (number : ℕ) (stores : List StoreOp) → length (payloads_of_stores number stores) ≡ length stores
length-payloads_of_stores number [] = refl
length-payloads_of_stores number (op ∷ stores) = omega (arith, length-payloads_of_stores (number + 1) stores)

pub follow-push : (before : ℕ) (stores : List StoreOp) (op : StoreOp) → AllMayFollow before stores → MayFollow (next_after before stores) op → AllMayFollow before (stores ++ op ∷ [])
follow-push before [] op all last = (last, tt)
follow-push before (first ∷ stores) op all last = (all.0, follow-push first.next_id stores op all.1 last)

pub last_next_id-push : (before : ℕ) (stores : List StoreOp) (op : StoreOp) → next_after before (stores ++ op ∷ []) ≡ op.next_id
last_next_id-push before [] op = refl
last_next_id-push before (first ∷ stores) op = last_next_id-push first.next_id stores op

-- the log of one payload more holds one store more
pub stores_more : (file payload image : List ℕ) (stores : List StoreOp) (op : StoreOp) → HoldsStores file stores → IsNextStore stores payload op
    → IsLogOf plain_header (payloads_of file ++ payload ∷ []) image → HoldsStores image (stores ++ op ∷ [])
stores_more file payload image stores op held next log =
    let before = file_payloads plain_header (payloads_of_stores 1 stores) file held.log in
    let all : payloads_of file ++ payload ∷ [] ≡ payloads_of_stores 1 (stores ++ op ∷ []) =
    ap (λ (ps : List (List ℕ)). ps ++ payload ∷ []) before ∙ ap (λ (p : List ℕ). payloads_of_stores 1 stores ++ p ∷ []) next.spelled ∙ sym (payloads_of_stores-push 1 stores op) in
    record {
      follow = follow-push 1024 stores op held.follow next.follows;
      log = inr (subst (λ (ps : List (List ℕ)). IsLogOf plain_header ps image) all log);
    }

-- the log of the same payloads holds the same stores
pub stores_same : (file image : List ℕ) (stores : List StoreOp) → HoldsStores file stores → IsLogOf plain_header (payloads_of file) image → HoldsStores image stores
stores_same file image stores held log = record {
  follow = held.follow;
  log = inr (subst (λ (ps : List (List ℕ)). IsLogOf plain_header ps image) (file_payloads plain_header (payloads_of_stores 1 stores) file held.log) log);
}

pub stores_either : (file payload image : List ℕ) (stores : List StoreOp) (op : StoreOp) → HoldsStores file stores → IsNextStore stores payload op
    → IsBeforeOrAfter plain_header (payloads_of file) payload image → HoldsStores image stores ⊎ HoldsStores image (stores ++ op ∷ [])
stores_either file payload image stores op held next either =
    ⊎_elim (λ log. inl (stores_same file image stores held log)) (λ log. inr (stores_more file payload image stores op held next log)) either

-- ---- the number of the store that is due

-- a log of a file counts its stores
pub stores_counted : (log : LogState) (file : List ℕ) (stores : List StoreOp) → IsOf log file → HoldsStores file stores → log.count ≡ length stores
stores_counted log file stores is held =
    is.count ∙ ap length (file_payloads plain_header (payloads_of_stores 1 stores) file held.log) ∙ length-payloads_of_stores 1 stores

few_payloads : (payloads : List (List ℕ)) → length payloads ≤ sum_by (λ payload. 5 + length payload) payloads
few_payloads [] = omega arith
few_payloads (p ∷ payloads) = omega (arith, sum_by-cons (λ (payload : List ℕ). 5 + length payload) p payloads, few_payloads payloads)

pub count_below : (log : LogState) (file : List ℕ) → IsOf log file → log.count < log.length
count_below log file is = omega (arith, is.count, is.long, few_payloads (payloads_of file))

-- where a fault is told as `Full`, the number is the one that is due
pub full_number : (log : LogState) (file : List ℕ) (fault : AppendFault) (due number : ℕ) → IsOf log file → (log.count < log.length → due ≡ log.count + 1) → asked_fault due fault ≡ asking.Full number
    → number ≡ log.count + 1
full_number log file appending.Fault due number is next told = absurd cc
full_number log file (appending.Full at) due number is next told =
    let same : due ≡ number = cc in
    sym same ∙ next (count_below log file is)

-- ---- a good store may follow

objects : (next_id : ℕ) (records : List Record) → AllByRecursion HasSpelling records → AllByRecursion (λ r. is_good_id next_id r.id ≡ true) records → AllByRecursion (IsObject next_id) records
objects next_id [] spelling good = tt
objects next_id (r ∷ records) spelling good = ((spelling.0, good.0), objects next_id records spelling.1 good.1)

pub may_follow : (before : ℕ) (op : StoreOp) → IsGoodStore op → AllByRecursion HasSpelling op.records → before ≤ op.next_id → MayFollow before op
may_follow before op good spelling no_less = record {
  some = good.some;
  order = good.order;
  objects = objects op.next_id op.records spelling good.good_ids;
  no_less = no_less;
  most = good.most;
}

-- the payload with the number that is due is the next store's
pub next_store : (log : LogState) (file payload : List ℕ) (stores : List StoreOp) (op : StoreOp) (number : ℕ) → IsOf log file → HoldsStores file stores
    → (log.count < log.length → number ≡ log.count + 1) → IsGoodStore op → AllByRecursion HasSpelling op.records → next_after 1024 stores ≤ op.next_id → payload ≡ payload_of number op → IsNextStore stores payload op
next_store log file payload stores op number is held due good spelling no_less spelled =
    let number_is : number ≡ 1 + length stores = omega (arith, due (count_below log file is), stores_counted log file stores is held) in
    record { follows = may_follow (next_after 1024 stores) op good spelling no_less; spelled = spelled ∙ ap (λ n. payload_of n op) number_is }
