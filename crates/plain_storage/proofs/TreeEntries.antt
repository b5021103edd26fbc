-- The entries of a search tree, as the records of a graph.
use Rattle.std.proofs.Common.{◌≡◌, ℕ, ◌<◌, true, false, List, [], ◌∷◌, inl, inr, refl, sym, ap, ◌∙◌, arith}
use Rattle.std.specs.Prelude.{nat_eq, nat_lt}
use Rattle.std.specs.declared.cmp.Ordering.TheVariants.{Less, Equal, Greater}
use Rattle.std.specs.Ordering.{nat_cmp}
use Rattle.std.specs.List.Sorted.{IsStrictlySortedBy}
use Rattle.std.specs.Map.{keys_of, lookup}
use Rattle.std.specs.BTreeMap.{insert_entry, is_at}
use Rattle.std.proofs.lemmas.Bool.{and_from, cases_order, eq-eqb, ne_eqb, lt-ltb, le-ltb}
use Rattle.std.proofs.lemmas.Map.Keys.{sorted_head, sorted_tail}
use Rattle.graph_model.specs.Graph.{Graph, entity_of, ids, put}
use Rattle.graph_model.specs.Ids.{rises, rises_from}
use Rattle.graph_model.specs.declared.entity.Entity.{Entity}
use Rattle.graph_model.specs.declared.entity.Record.{Record}
use Rattle.plain_storage.specs.Trees.{graph_of}

abbrev pub Entries : Type 0
Entries = List (ℕ × Entity)

abbrev pub record_of : ℕ → Entity → Record
record_of id entity = record { id = id; entity = entity }

-- how two numbers stand to one another, by every test of them
pub data Compared (x y : ℕ) : Type 0 where
  Below : x < y → nat_cmp x y ≡ Less → nat_lt x y ≡ true → nat_lt y x ≡ false → nat_eq x y ≡ false → Compared x y
  Same : x ≡ y → nat_cmp x y ≡ Equal → nat_lt x y ≡ false → nat_lt y x ≡ false → nat_eq x y ≡ true → Compared x y
  Above : y < x → nat_cmp x y ≡ Greater → nat_lt x y ≡ false → nat_lt y x ≡ true → nat_eq x y ≡ false → Compared x y

pub compared : (x y : ℕ) → Compared x y
compared x y = elim (cases_order x y) [
  | inl e ↦ let a = le-ltb x y (omega arith) in let b = le-ltb y x (omega arith) in let c = eq-eqb x y e in Same e (rw (a, c) refl) a b c
  | inr (inl l) ↦ let a = lt-ltb x y l in Below l (rw a refl) a (le-ltb y x (omega arith)) (ne_eqb x y (λ e. omega arith))
  | inr (inr l) ↦ let a = le-ltb x y (omega arith) in let c = ne_eqb x y (λ e. omega arith) in Above l (rw (a, c) refl) a (lt-ltb y x l) c
]

pub entity_of-entries : (es : Entries) (x : ℕ) → lookup (is_at (nat_cmp x)) es ≡ entity_of (graph_of es) x
entity_of-entries [] x = refl
entity_of-entries (e ∷ es) x = elim (compared x e.0) [
  | Below l c a b d ↦ rw (c, d) (entity_of-entries es x)
  | Same l c a b d ↦ rw (c, d) refl
  | Above l c a b d ↦ rw (c, d) (entity_of-entries es x)
]

pub put-entries : (es : Entries) (x : ℕ) (entity : Entity) → graph_of (insert_entry nat_cmp es x entity) ≡ put (record_of x entity) (graph_of es)
put-entries [] x entity = refl
put-entries (e ∷ es) x entity = let ih = put-entries es x entity in elim (compared x e.0) [
  | Below l c a b d ↦ rw (c, d, b) refl
  | Same l c a b d ↦ rw (c, d) (ap (λ (k : ℕ). record_of k entity ∷ graph_of es) (sym l))
  | Above l c a b d ↦ rw (c, d, b) (ap (λ (g : Graph). record_of e.0 e.1 ∷ g) ih)
]

ids-entries : (es : Entries) → ids (graph_of es) ≡ keys_of es
ids-entries [] = refl
ids-entries (e ∷ es) = ap (λ (xs : List ℕ). e.0 ∷ xs) (ids-entries es)

rises_from-sorted : (x : ℕ) (keys : List ℕ) → IsStrictlySortedBy nat_cmp (x ∷ keys) → rises_from x keys ≡ true
rises_from-sorted x [] s = refl
rises_from-sorted x (y ∷ keys) s =
    let h : nat_cmp x y ≡ Less = (sorted_head nat_cmp x (y ∷ keys) s).0 in
    and_from (nat_lt x y) (rises_from y keys) (below h) (rises_from-sorted y keys (sorted_tail nat_cmp x (y ∷ keys) s))
  where
    below : nat_cmp x y ≡ Less → nat_lt x y ≡ true
    below h = elim (compared x y) [
      | Below l c a b d ↦ a
      | Same l c a b d ↦ absurd cc
      | Above l c a b d ↦ absurd cc
    ]

rises-sorted : (keys : List ℕ) → IsStrictlySortedBy nat_cmp keys → rises keys ≡ true
rises-sorted [] s = refl
rises-sorted (x ∷ keys) s = rises_from-sorted x keys s

-- the ids of the entries of a tree rise
pub rises-entries : (es : Entries) → IsStrictlySortedBy nat_cmp (keys_of es) → rises (ids (graph_of es)) ≡ true
rises-entries es s = ap rises (ids-entries es) ∙ rises-sorted (keys_of es) s
