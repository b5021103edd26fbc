-- Stores of a log, one after another.
use Rattle.std.proofs.Common.{◌≡◌, ℕ, ◌+◌, List, [], ◌∷◌, drop, length, refl, sym, ap, subst, ◌∙◌, arith}
use Rattle.std.specs.List.{flat_map}
use Rattle.field_bytes.specs.Fields.{number_at}
use Rattle.graph_model.specs.Graph.{Graph, after, put_all}
use Rattle.graph_model.specs.declared.entity.StoreOp.{StoreOp}
use Rattle.plain_storage.specs.Reading.{AreStores, IsStorePayload}
use Rattle.plain_storage.specs.Stores.{record_bytes, payload_of, payloads_of_stores, MayFollow, AllMayFollow}
use Rattle.graph_model.specs.Stores.{next_after}
use Rattle.plain_storage.proofs.ObjectLists.{records_same}
use Rattle.plain_storage.proofs.StoreNumbers.{second_number, some_number, store_behind}

-- one store in front of others
pub stores_more : (number before next last : ℕ) (payload : List ℕ) (rest : List (List ℕ)) (old mid new : Graph) → IsStorePayload number before payload next old mid
    → AreStores (number + 1) next rest last mid new → AreStores number before (payload ∷ rest) last old new
stores_more number before next last payload rest old mid new first others = record {
  stores = first.store ∷ others.stores;
  follow = (first.follows, subst (λ n. AllMayFollow n others.stores) first.next_is others.follow);
  spelled = ap (λ (p : List ℕ). p ∷ rest) first.spelled ∙ ap (λ (ps : List (List ℕ)). payload_of number first.store ∷ ps) others.spelled;
  next_is = others.next_is ∙ ap (λ n. next_after n others.stores) first.next_is;
  made = others.made ∙ ap (λ (g : Graph). after g others.stores) first.made;
}

-- no store is left
pub stores_end : (number before : ℕ) (graph : Graph) → AreStores number before [] before graph graph
stores_end number before graph = record { stores = []; follow = tt; spelled = refl; next_is = refl; made = refl }

abbrev heads : List (List ℕ) → List ℕ
heads [] = []
heads (p ∷ ps) = p

abbrev tails : List (List ℕ) → List (List ℕ)
tails [] = []
tails (p ∷ ps) = ps

-- the first of the stores, and the others
pub record IsFirstStore (number before : ℕ) (payload : List ℕ) (rest : List (List ℕ)) (last : ℕ) (old new : Graph) : Type 0 where
  pub store : StoreOp
  pub follows : MayFollow before store
  pub spelled : payload ≡ payload_of number store
  pub others : AreStores (number + 1) store.next_id rest last (put_all store.records old) new

no_payload : (payload : List ℕ) (rest : List (List ℕ)) → ◌≡◌ {A = List (List ℕ)} (payload ∷ rest) [] → ⊥
no_payload payload rest is = cc

first_of_stores : (number before last : ℕ) (payload : List ℕ) (rest : List (List ℕ)) (old new : Graph) (stores : List StoreOp) → AllMayFollow before stores
    → payload ∷ rest ≡ payloads_of_stores number stores → last ≡ next_after before stores → new ≡ after old stores → IsFirstStore number before payload rest last old new
first_of_stores number before last payload rest old new [] follow spelled next_is made = absurd (no_payload payload rest spelled)
first_of_stores number before last payload rest old new (op ∷ stores) follow spelled next_is made = record {
  store = op;
  follows = follow.0;
  spelled = ap heads spelled;
  others = record { stores = stores; follow = follow.1; spelled = ap tails spelled; next_is = next_is; made = made };
}

pub first_store : (number before last : ℕ) (payload : List ℕ) (rest : List (List ℕ)) (old new : Graph) → AreStores number before (payload ∷ rest) last old new
    → IsFirstStore number before payload rest last old new
first_store number before last payload rest old new these = first_of_stores number before last payload rest old new these.stores these.follow these.spelled these.next_is these.made

-- a payload is one store
pub payload_once : (number before before' : ℕ) (payload : List ℕ) (a b : StoreOp) → MayFollow before a → MayFollow before' b → payload ≡ payload_of number a → payload ≡ payload_of number b → a ≡ b
payload_once number before before' payload a b follows follows' is is' =
    let next : a.next_id ≡ b.next_id = some_number a.next_id b.next_id (number_at 8 payload 8)
    (second_number payload (flat_map record_bytes a.records) number a.next_id (omega (arith, follows.most)) is)
    (second_number payload (flat_map record_bytes b.records) number b.next_id (omega (arith, follows'.most)) is') in
    let records : a.records ≡ b.records =
    records_same a.next_id b.next_id a.records b.records (drop 16 payload) follows.objects follows'.objects (store_behind number a payload is) (store_behind number b payload is') in
    λ i. record { records = records i; next_id = next i }

-- behind the store that was read
pub stores_rest : (number before next last : ℕ) (payload : List ℕ) (rest : List (List ℕ)) (old mid new : Graph) → IsStorePayload number before payload next old mid
    → AreStores number before (payload ∷ rest) last old new → AreStores (number + 1) next rest last mid new
stores_rest number before next last payload rest old mid new read these =
    let first = first_store number before last payload rest old new these in
    let one : first.store ≡ read.store = payload_once number before before payload first.store read.store first.follows read.follows first.spelled read.spelled in
    let others = subst (λ (op : StoreOp). AreStores (number + 1) op.next_id rest last (put_all op.records old) new) one first.others in
    subst (λ (g : Graph). AreStores (number + 1) next rest last g new) (sym read.made)
    (subst (λ n. AreStores (number + 1) n rest last (put_all read.store.records old) new) (sym read.next_is) others)

-- payloads are the same stores
pub stores_once : (number before before' : ℕ) (payloads : List (List ℕ)) (a b : List StoreOp) → AllMayFollow before a → AllMayFollow before' b
    → payloads ≡ payloads_of_stores number a → payloads ≡ payloads_of_stores number b → a ≡ b
stores_once number before before' payloads [] [] follow follow' is is' = refl
stores_once number before before' payloads [] (op ∷ b) follow follow' is is' = absurd (omega (arith, ap length is, ap length is'))
stores_once number before before' payloads (op ∷ a) [] follow follow' is is' = absurd (omega (arith, ap length is, ap length is'))
stores_once number before before' payloads (op ∷ a) (op' ∷ b) follow follow' is is' =
    let one : op ≡ op' = payload_once number before before' (heads payloads) op op' follow.0 follow'.0 (ap heads is) (ap heads is') in
    let rest : a ≡ b = stores_once (number + 1) op.next_id op'.next_id (tails payloads) a b follow.1 follow'.1 (ap tails is) (ap tails is') in
    λ i. one i ∷ rest i

pub length-payloads_of_stores : (number : ℕ) (stores : List StoreOp) → length (payloads_of_stores number stores) ≡ length stores
length-payloads_of_stores number [] = refl
length-payloads_of_stores number (op ∷ stores) = let rest = length-payloads_of_stores (number + 1) stores in omega (arith, rest)
