-- The rows that the indexes of a table find, and those that stand against one more pair.
use Rattle.std.proofs.Common.{◌≡◌, ℕ, ◌<◌, ◌≤◌, min, List, [], ◌∷◌, ◌++◌, length, get_or, map, Option, Some, None, refl, sym, ap, subst, ◌∙◌, ◌⊎◌, inl, inr, arith}
use Rattle.std.specs.Prelude.{slice_get, option_map, IsSomeAnd}
use Rattle.std.proofs.lemmas.Bool.{cases_lt}
use Rattle.std.proofs.lemmas.Option.{slice_get-map, slice_get_within, slice_get_read}
use Rattle.refactor_table.specs.Index.{row_of, IsIndexOf, IsSameIndex, PutsRow}
use Rattle.refactor_table.specs.Names.{AreOfOneForm}
use Rattle.refactor_table.specs.Pairs.{pair_of, Leads, Clashes, ClashesAt, IsFirstClash, IsFresh, AreSound, earlier_of}
use Rattle.refactor_table.specs.Table.{olds, news, IsTable}
use Rattle.refactor_table.specs.declared.index.NameIndex.{NameIndex}
use Rattle.refactor_table.specs.declared.name.Pair.{Pair}
use Rattle.refactor_table.specs.declared.name.RefName.{RefName}
use Rattle.refactor_table.specs.declared.name.RefName.TheVariants.{OfType, OfMember}
use Rattle.refactor_table.proofs.Indexes.{IsIndexOf-push, IsIndexOf-same, get-push}

-- a row with this name in the place that f reads
pub record IsRowOf (f : Pair → RefName) (rows : List Pair) (name : RefName) (k : ℕ) : Type 0 where
  pub pair : Pair
  pub is : slice_get rows k ≡ Some pair
  pub named : f pair ≡ name

mapped : (f : Pair → RefName) (found : Option Pair) (name : RefName) → option_map f found ≡ Some name → (pair : Pair) × (found ≡ Some pair) × (f pair ≡ name)
mapped f None name e = absurd cc
mapped f (Some pair) name e = (pair, refl, cc)

pub row_found : (f : Pair → RefName) (rows : List Pair) (index : NameIndex) → IsIndexOf (map f rows) index
    → (name : RefName) (k : ℕ) → row_of index name ≡ Some k → IsRowOf f rows name k
row_found f rows index is name k e =
    let m = mapped f (slice_get rows k) name (sym (slice_get-map f rows k) ∙ is.stands k name e) in
    record { pair = m.0; is = m.1; named = m.2 }

pub row_finds : (f : Pair → RefName) (rows : List Pair) (index : NameIndex) → IsIndexOf (map f rows) index
    → (pair : Pair) (k : ℕ) → slice_get rows k ≡ Some pair → row_of index (f pair) ≡ Some k
row_finds f rows index is pair k e = is.found k (f pair) (slice_get-map f rows k ∙ ap (option_map f) e)

-- ---- the rows that stand against a pair

clashing : (found : Option Pair) (old new : RefName) → IsSomeAnd found (Clashes old new) → (pair : Pair) × (found ≡ Some pair) × Clashes old new pair
clashing None old new c = absurd c
clashing (Some pair) old new c = (pair, refl, c)

-- the index of the old names, or that of the new ones, finds the row
abbrev Finds : NameIndex → NameIndex → RefName → RefName → ℕ → Type 0
Finds by_old by_new old new k = (row_of by_old old ≡ Some k) ⊎ (row_of by_new new ≡ Some k)

finds_clash : (rows : List Pair) (by_old by_new : NameIndex) → IsTable rows by_old by_new → (old new : RefName) (k : ℕ) → ClashesAt rows old new k → Finds by_old by_new old new k
finds_clash rows by_old by_new table old new k c =
    let p = clashing (slice_get rows k) old new c in
    elim p.2 [
      | inl e ↦ inl (ap (row_of by_old) (sym e) ∙ row_finds (λ r. r.old) rows by_old table.old_rows p.0 k p.1)
      | inr e ↦ inr (ap (row_of by_new) (sym e) ∙ row_finds (λ r. r.new) rows by_new table.new_rows p.0 k p.1)
    ]

clash_found : (rows : List Pair) (by_old by_new : NameIndex) → IsTable rows by_old by_new → (old new : RefName) (k : ℕ) → Finds by_old by_new old new k → ClashesAt rows old new k
clash_found rows by_old by_new table old new k (inl e) =
    let r = row_found (λ p. p.old) rows by_old table.old_rows old k e in
    subst (λ (found : Option Pair). IsSomeAnd found (Clashes old new)) (sym r.is) (inl r.named)
clash_found rows by_old by_new table old new k (inr e) =
    let r = row_found (λ p. p.new) rows by_new table.new_rows new k e in
    subst (λ (found : Option Pair). IsSomeAnd found (Clashes old new)) (sym r.is) (inr r.named)

-- the earlier of two rows is one of them, and at most both
earlier_one : (a b : Option ℕ) (row : ℕ) → earlier_of a b ≡ Some row → (a ≡ Some row) ⊎ (b ≡ Some row)
earlier_one None b row e = inr e
earlier_one (Some k) None row e = inl e
earlier_one (Some k) (Some l) row e = elim (cases_lt k l) [
  | inl h ↦ let is : k ≡ row = (let m : min k l ≡ row = (cc) in omega arith) in inl (ap (λ (n : ℕ). Some n) is)
  | inr h ↦ let is : l ≡ row = (let m : min k l ≡ row = (cc) in omega arith) in inr (ap (λ (n : ℕ). Some n) is)
]

earlier_least : (a b : Option ℕ) (row k : ℕ) → earlier_of a b ≡ Some row → (a ≡ Some k) ⊎ (b ≡ Some k) → row ≤ k
earlier_least None b row k e (inl h) = absurd cc
earlier_least None b row k e (inr h) = let same : row ≡ k = (cc) in omega arith
earlier_least (Some i) None row k e (inl h) = let same : row ≡ k = (cc) in omega arith
earlier_least (Some i) None row k e (inr h) = absurd cc
earlier_least (Some i) (Some j) row k e (inl h) = let same : i ≡ k = (cc) in let is : min i j ≡ row = (cc) in omega arith
earlier_least (Some i) (Some j) row k e (inr h) = let same : j ≡ k = (cc) in let is : min i j ≡ row = (cc) in omega arith

no_earlier : (a b : Option ℕ) (k : ℕ) → earlier_of a b ≡ None → (a ≡ Some k) ⊎ (b ≡ Some k) → ⊥
no_earlier None b k e (inl h) = cc
no_earlier None b k e (inr h) = cc
no_earlier (Some i) None k e h = cc
no_earlier (Some i) (Some j) k e h = cc

pub first_clash : (rows : List Pair) (by_old by_new : NameIndex) → IsTable rows by_old by_new → (old new : RefName) (row : ℕ)
    → earlier_of (row_of by_old old) (row_of by_new new) ≡ Some row → IsFirstClash rows old new row
first_clash rows by_old by_new table old new row e = record {
  clashes = clash_found rows by_old by_new table old new row (earlier_one (row_of by_old old) (row_of by_new new) row e);
  first = λ k before c.
      let least = earlier_least (row_of by_old old) (row_of by_new new) row k e (finds_clash rows by_old by_new table old new k c) in
      absurd (omega arith);
}

pub no_clash : (rows : List Pair) (by_old by_new : NameIndex) → IsTable rows by_old by_new → (old new : RefName)
    → earlier_of (row_of by_old old) (row_of by_new new) ≡ None → IsFresh rows old new
no_clash rows by_old by_new table old new e k c = no_earlier (row_of by_old old) (row_of by_new new) k e (finds_clash rows by_old by_new table old new k c)

-- a fresh pair's names have no rows
pub fresh_old : (rows : List Pair) (by_old by_new : NameIndex) → IsTable rows by_old by_new → (old new : RefName) → IsFresh rows old new → row_of by_old old ≡ None
fresh_old rows by_old by_new table old new fresh = absent (row_of by_old old) refl
  where
    absent : (found : Option ℕ) → row_of by_old old ≡ found → found ≡ None
    absent None e = refl
    absent (Some k) e = absurd (fresh k (clash_found rows by_old by_new table old new k (inl e)))

pub fresh_new : (rows : List Pair) (by_old by_new : NameIndex) → IsTable rows by_old by_new → (old new : RefName) → IsFresh rows old new → row_of by_new new ≡ None
fresh_new rows by_old by_new table old new fresh = absent (row_of by_new new) refl
  where
    absent : (found : Option ℕ) → row_of by_new new ≡ found → found ≡ None
    absent None e = refl
    absent (Some k) e = absurd (fresh k (clash_found rows by_old by_new table old new k (inr e)))

-- ---- the table after a call

pub IsTable-same : (rows : List Pair) (by_old by_new after_old after_new : NameIndex) → IsTable rows by_old by_new
    → IsSameIndex by_old after_old → IsSameIndex by_new after_new → IsTable rows after_old after_new
IsTable-same rows by_old by_new after_old after_new table same_old same_new = record {
  one_form = table.one_form;
  old_rows = IsIndexOf-same (olds rows) by_old after_old table.old_rows same_old;
  new_rows = IsIndexOf-same (news rows) by_new after_new table.new_rows same_new;
}

map-push : (f : Pair → RefName) (rows : List Pair) (pair : Pair) → map f rows ++ f pair ∷ [] ≡ map f (rows ++ pair ∷ [])
map-push f [] pair = refl
map-push f (r ∷ rs) pair = ap (λ (names : List RefName). f r ∷ names) (map-push f rs pair)

length-names : (f : Pair → RefName) (rows : List Pair) → length rows ≡ length (map f rows)
length-names f [] = refl
length-names f (r ∷ rs) = omega (arith, length-names f rs)

pub IsTable-push : (rows : List Pair) (by_old by_new after_old after_new : NameIndex) (old new : RefName) (row : ℕ) → IsTable rows by_old by_new
    → row ≡ length rows → AreOfOneForm old new → IsFresh rows old new
    → PutsRow by_old after_old old (Some row) → PutsRow by_new after_new new (Some row) → IsTable (rows ++ pair_of old new ∷ []) after_old after_new
IsTable-push rows by_old by_new after_old after_new old new row table at form fresh put_old put_new = record {
  one_form = λ k pair e. elim (get-push rows (pair_of old new) pair k e) [
    | inl h ↦ table.one_form k pair h
    | inr h ↦ subst (λ (p : Pair). AreOfOneForm p.old p.new) h.1 form
  ];
  old_rows = subst (λ (names : List RefName). IsIndexOf names after_old) (map-push (λ p. p.old) rows (pair_of old new))
      (IsIndexOf-push (olds rows) old by_old after_old row (at ∙ length-names (λ p. p.old) rows) table.old_rows (fresh_old rows by_old by_new table old new fresh) put_old);
  new_rows = subst (λ (names : List RefName). IsIndexOf names after_new) (map-push (λ p. p.new) rows (pair_of old new))
      (IsIndexOf-push (news rows) new by_new after_new row (at ∙ length-names (λ p. p.new) rows) table.new_rows (fresh_new rows by_old by_new table old new fresh) put_new);
}

-- ---- what a look-up finds

same_pair : (found : Option Pair) (p q : Pair) → found ≡ Some p → found ≡ Some q → p ≡ q
same_pair found p q e h = cc

-- the row that an index gives is within the table
pub row_within : (f : Pair → RefName) (rows : List Pair) (index : NameIndex) → IsIndexOf (map f rows) index
    → (name : RefName) (k : ℕ) → row_of index name ≡ Some k → k < length rows
row_within f rows index is name k e = let r = row_found f rows index is name k e in slice_get_within rows k r.pair r.is

-- the pair that is read there
pub row_read : (f : Pair → RefName) (rows : List Pair) (index : NameIndex) → IsIndexOf (map f rows) index
    → (name : RefName) (k : ℕ) (pair : Pair) → row_of index name ≡ Some k → pair ≡ get_or rows k pair → slice_get rows k ≡ Some pair
row_read f rows index is name k pair e at = slice_get_read rows (length rows) k pair refl (row_within f rows index is name k e) at

-- and it has the name
pub row_named : (f : Pair → RefName) (rows : List Pair) (index : NameIndex) → IsIndexOf (map f rows) index
    → (name : RefName) (k : ℕ) (pair : Pair) → row_of index name ≡ Some k → slice_get rows k ≡ Some pair → f pair ≡ name
row_named f rows index is name k pair e at = let r = row_found f rows index is name k e in ap f (same_pair (slice_get rows k) pair r.pair at r.is) ∙ r.named

-- a pair that the table has stands in the row that the index gives for its name
pub row_of_pair : (f : Pair → RefName) (rows : List Pair) (index : NameIndex) → IsIndexOf (map f rows) index
    → (old new : RefName) (k : ℕ) (pair : Pair) → Leads rows old new → row_of index (f (pair_of old new)) ≡ Some k → slice_get rows k ≡ Some pair → pair ≡ pair_of old new
row_of_pair f rows index is old new k pair leads e at =
    let there = row_finds f rows index is (pair_of old new) leads.0 leads.1 in
    let same : leads.0 ≡ k = (cc) in
    same_pair (slice_get rows k) pair (pair_of old new) at (ap (slice_get rows) (sym same) ∙ leads.1)

-- it stands in no row where the index gives none
pub no_pair : (f : Pair → RefName) (rows : List Pair) (index : NameIndex) → IsIndexOf (map f rows) index
    → (old new : RefName) → row_of index (f (pair_of old new)) ≡ None → Leads rows old new → ⊥
no_pair f rows index is old new none leads =
    let there = row_finds f rows index is (pair_of old new) leads.0 leads.1 in
    cc

-- a row with these two names
pub leads_at : (rows : List Pair) (old new : RefName) (k : ℕ) (pair : Pair) → slice_get rows k ≡ Some pair → pair.old ≡ old → pair.new ≡ new → Leads rows old new
leads_at rows old new k pair at is_old is_new = (k, at ∙ rw (← is_old, ← is_new) refl)

-- ---- what the indexes say of all rows

own_name : (f : Pair → RefName) (rows : List Pair) (index : NameIndex) → IsIndexOf (map f rows) index → (j k : ℕ) (row other : Pair)
    → slice_get rows j ≡ Some row → slice_get rows k ≡ Some other → f row ≡ f other → j ≡ k
own_name f rows index is j k row other here there same =
    let first = row_finds f rows index is row j here in
    let second = row_finds f rows index is other k there in
    let one : row_of index (f row) ≡ row_of index (f other) = ap (row_of index) same in
    cc

pub sound : (rows : List Pair) (by_old by_new : NameIndex) → IsTable rows by_old by_new → AreSound rows
sound rows by_old by_new table = record {
  one_form = table.one_form;
  own_old = own_name (λ p. p.old) rows by_old table.old_rows;
  own_new = own_name (λ p. p.new) rows by_new table.new_rows;
}
