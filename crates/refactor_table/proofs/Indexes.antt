-- Changes of an index of names, and the rows that it gives.
use Rattle.std.proofs.Common.{◌≡◌, ℕ, zero, suc, ◌+◌, ◌<◌, ◌≤◌, String, Bool, true, false, cond, ◌&&◌, List, [], ◌∷◌, ◌++◌, length, Option, Some, None, refl, sym, ap, subst, ◌∙◌, ◌⊎◌, inl, inr, arith}
use Rattle.std.specs.Prelude.{slice_get, option_and_then}
use Rattle.std.specs.Bool.{Decides}
use Rattle.std.specs.BTreeMap.{BTreeMap, get_by_text, IsEmpty}
use Rattle.std.specs.Map.{update}
use Rattle.std.specs.Str.{bytes_eq}
use Rattle.std.specs.declared.alloc.Global.{Global}
use Rattle.std.proofs.lemmas.Slice.Eq.{bytes_eq-Decides}
use Rattle.refactor_table.specs.Names.{same_name}
use Rattle.refactor_table.specs.Index.{MemberRows, member_row, row_of, PutsMember, IsSameMembers, PutsRow, IsSameIndex, IsIndexOf}
use Rattle.refactor_table.specs.declared.index.NameIndex.{NameIndex}
use Rattle.refactor_table.specs.declared.name.RefName.{RefName}
use Rattle.refactor_table.specs.declared.name.RefName.TheVariants.{OfType, OfMember}

-- the rows of one type's members
abbrev pub Rows : Type 0
Rows = BTreeMap (String Global) ℕ

-- the second finds at a key what the first does, but for this key
abbrev pub Sets : {X : Type 0} → (List ℕ → Option X) → (List ℕ → Option X) → List ℕ → Option X → Type 0
Sets old new key value = (q : List ℕ) → new q ≡ update bytes_eq old key value q

-- ---- one type's rows changed

put_at : (b d : Bool) (rows rows' : Rows) (found : Option Rows) (m : List ℕ) (row : Option ℕ)
    → (b ≡ true → found ≡ Some rows) → get_by_text rows' m ≡ cond d row (get_by_text rows m)
    → option_and_then (λ (r : Rows). get_by_text r m) (cond b (Some rows') found) ≡ cond (b && d) row (option_and_then (λ (r : Rows). get_by_text r m) found)
put_at true true rows rows' found m row was set = set
put_at true false rows rows' found m row was set = set ∙ sym (ap (option_and_then (λ (r : Rows). get_by_text r m)) (was refl))
put_at false d rows rows' found m row was set = refl

pub puts_member-changed : (old new : MemberRows) (rows rows' : Rows) (t m : List ℕ) (row : Option ℕ)
    → get_by_text old t ≡ Some rows → Sets (get_by_text old) (get_by_text new) t (Some rows') → Sets (get_by_text rows) (get_by_text rows') m row
    → PutsMember old new t m row
puts_member-changed old new rows rows' t m row was set_type set_member u n =
    let same : bytes_eq t u ≡ true → get_by_text old u ≡ Some rows = λ e. ap (get_by_text old) (sym ((bytes_eq-Decides t u).0 e)) ∙ was in
    ap (option_and_then (λ (r : Rows). get_by_text r n)) (set_type u) ∙ put_at (bytes_eq t u) (bytes_eq m n) rows rows' (get_by_text old u) n row same (set_member n)

-- a type without rows: rows' has the member alone
fresh_at : (b d : Bool) (rows' : Rows) (found : Option Rows) (m : List ℕ) (row : Option ℕ)
    → (b ≡ true → found ≡ None) → get_by_text rows' m ≡ cond d row None
    → option_and_then (λ (r : Rows). get_by_text r m) (cond b (Some rows') found) ≡ cond (b && d) row (option_and_then (λ (r : Rows). get_by_text r m) found)
fresh_at true true rows' found m row was set = set
fresh_at true false rows' found m row was set = set ∙ sym (ap (option_and_then (λ (r : Rows). get_by_text r m)) (was refl))
fresh_at false d rows' found m row was set = refl

pub puts_member-fresh : (old new : MemberRows) (rows rows' : Rows) (t m : List ℕ) (row : Option ℕ)
    → get_by_text old t ≡ None → IsEmpty rows → Sets (get_by_text old) (get_by_text new) t (Some rows') → Sets (get_by_text rows) (get_by_text rows') m row
    → PutsMember old new t m row
puts_member-fresh old new rows rows' t m row was empty set_type set_member u n =
    let same : bytes_eq t u ≡ true → get_by_text old u ≡ None = λ e. ap (get_by_text old) (sym ((bytes_eq-Decides t u).0 e)) ∙ was in
    let none : get_by_text rows n ≡ None = rw empty refl in
    ap (option_and_then (λ (r : Rows). get_by_text r n)) (set_type u)
    ∙ fresh_at (bytes_eq t u) (bytes_eq m n) rows' (get_by_text old u) n row same (set_member n ∙ ap (cond (bytes_eq m n) row) none)

-- one type's rows are found as they were
pub same_members-changed : (old new : MemberRows) (rows rows' : Rows) (t : List ℕ)
    → get_by_text old t ≡ Some rows → Sets (get_by_text old) (get_by_text new) t (Some rows') → ((m : List ℕ) → get_by_text rows' m ≡ get_by_text rows m)
    → IsSameMembers old new
same_members-changed old new rows rows' t was set_type same u n =
    let at : bytes_eq t u ≡ true → get_by_text old u ≡ Some rows = λ e. ap (get_by_text old) (sym ((bytes_eq-Decides t u).0 e)) ∙ was in
    ap (option_and_then (λ (r : Rows). get_by_text r n)) (set_type u) ∙ kept (bytes_eq t u) (get_by_text old u) at
  where
    kept : (b : Bool) (found : Option Rows) → (b ≡ true → found ≡ Some rows)
        → option_and_then (λ (r : Rows). get_by_text r n) (cond b (Some rows') found) ≡ option_and_then (λ (r : Rows). get_by_text r n) found
    kept true found at = same n ∙ sym (ap (option_and_then (λ (r : Rows). get_by_text r n)) (at refl))
    kept false found at = refl

-- ---- names

pub same_name-Decides : (a b : RefName) → Decides (same_name a b) (a ≡ b)
same_name-Decides (OfType t) (OfType u) =
    let d = bytes_eq-Decides t u in
    (λ e. ap (λ (w : List ℕ). OfType w) (d.0 e), λ e. d.1 (cc))
same_name-Decides (OfType t) (OfMember u n) = (λ e. absurd cc, λ e. absurd cc)
same_name-Decides (OfMember t m) (OfType u) = (λ e. absurd cc, λ e. absurd cc)
same_name-Decides (OfMember t m) (OfMember u n) =
    let d = bytes_eq-Decides t u in
    let f = bytes_eq-Decides m n in (
      λ e. let p = both (bytes_eq t u) (bytes_eq m n) e in ap (λ (w : List ℕ). OfMember w m) (d.0 p.0) ∙ ap (λ (w : List ℕ). OfMember u w) (f.0 p.1),
      λ e. let x : t ≡ u = (cc) in let y : m ≡ n = (cc) in rw (d.1 x, f.1 y) refl,
    )
  where
    both : (x y : Bool) → (x && y) ≡ true → (x ≡ true) × (y ≡ true)
    both true y e = (refl, e)
    both false y e = absurd cc

-- ---- the rows of one more name

-- the elements of a list with one more
pub get-push : {X : Type 0} (xs : List X) (x y : X) (k : ℕ) → slice_get (xs ++ x ∷ []) k ≡ Some y → (slice_get xs k ≡ Some y) ⊎ ((k ≡ length xs) × (x ≡ y))
get-push [] x y zero e = inr (refl, cc)
get-push [] x y (suc k) e = absurd cc
get-push (z ∷ zs) x y zero e = inl e
get-push (z ∷ zs) x y (suc k) e = elim (get-push zs x y k e) [ inl h ↦ inl h | inr h ↦ inr (omega (arith, h.0), h.1) ]

pub get-push_front : {X : Type 0} (xs : List X) (x y : X) (k : ℕ) → slice_get xs k ≡ Some y → slice_get (xs ++ x ∷ []) k ≡ Some y
get-push_front [] x y k e = absurd cc
get-push_front (z ∷ zs) x y zero e = e
get-push_front (z ∷ zs) x y (suc k) e = get-push_front zs x y k e

pub get-push_last : {X : Type 0} (xs : List X) (x : X) → slice_get (xs ++ x ∷ []) (length xs) ≡ Some x
get-push_last [] x = refl
get-push_last (z ∷ zs) x = get-push_last zs x

-- the index after one more name has its row
pub IsIndexOf-push : (names : List RefName) (name : RefName) (old new : NameIndex) (row : ℕ)
    → row ≡ length names → IsIndexOf names old → row_of old name ≡ None → PutsRow old new name (Some row) → IsIndexOf (names ++ name ∷ []) new
IsIndexOf-push names name old new row at is absent put = record {
  found = λ k q e. put q ∙ found k q (get-push names name q k e);
  stands = λ k q e. stands k q (same_name name q) (same_name-Decides name q) (sym (put q) ∙ e);
}
  where
    found : (k : ℕ) (q : RefName) → (slice_get names k ≡ Some q) ⊎ ((k ≡ length names) × (name ≡ q)) → cond (same_name name q) (Some row) (row_of old q) ≡ Some k
    found k q (inl e) = other (same_name name q) (λ same. absurd (let other_row : row_of old q ≡ Some k = is.found k q e in let none : row_of old q ≡ None = ap (row_of old) (sym ((same_name-Decides name q).0 same)) ∙ absent in cc))
      where
        other : (b : Bool) → (b ≡ true → ⊥) → cond b (Some row) (row_of old q) ≡ Some k
        other true isnt = absurd (isnt refl)
        other false isnt = is.found k q e
    found k q (inr e) = rw ((same_name-Decides name q).1 e.1) (ap (λ (n : ℕ). Some n) (at ∙ sym e.0))

    stands : (k : ℕ) (q : RefName) (b : Bool) → Decides b (name ≡ q) → cond b (Some row) (row_of old q) ≡ Some k → slice_get (names ++ name ∷ []) k ≡ Some q
    stands k q true d e =
        let row_is : row ≡ k = (cc) in
        let name_is : name ≡ q = d.0 refl in
        let last : slice_get (names ++ name ∷ []) k ≡ Some name = rw (sym row_is, at) (get-push_last names name) in
        last ∙ ap (λ (n : RefName). Some n) name_is
    stands k q false d e = get-push_front names name q k (is.stands k q e)

-- an index that finds the same
pub IsIndexOf-same : (names : List RefName) (old new : NameIndex) → IsIndexOf names old → IsSameIndex old new → IsIndexOf names new
IsIndexOf-same names old new is same = record {
  found = λ k name e. same name ∙ is.found k name e;
  stands = λ k name e. is.stands k name (sym (same name) ∙ e);
}

-- a name put and taken away again
pub same_index-undone : (old between new : NameIndex) (name : RefName) (row : ℕ)
    → row_of old name ≡ None → PutsRow old between name (Some row) → PutsRow between new name None → IsSameIndex old new
same_index-undone old between new name row absent put taken q =
    taken q ∙ ap (cond (same_name name q) None) (put q) ∙ undone (same_name name q) (λ e. ap (row_of old) (sym ((same_name-Decides name q).0 e)) ∙ absent)
  where
    undone : (b : Bool) → (b ≡ true → row_of old q ≡ None) → cond b None (cond b (Some row) (row_of old q)) ≡ row_of old q
    undone true none = sym (none refl)
    undone false none = refl

-- a type's row changed, beside the rows of members
pub puts_row-type : (old new : Rows) (members : MemberRows) (t : List ℕ) (row : Option ℕ) → Sets (get_by_text old) (get_by_text new) t row
    → PutsRow (record { types = old; members = members }) (record { types = new; members = members }) (OfType t) row
puts_row-type old new members t row set (OfType u) = set u
puts_row-type old new members t row set (OfMember u m) = refl

-- equal names have equal parts
pub type-injective : (t u : List ℕ) (name : RefName) → name ≡ OfType t → name ≡ OfType u → t ≡ u
type-injective t u name e h = cc

pub member-injective : (t m u n : List ℕ) (name : RefName) → name ≡ OfMember t m → name ≡ OfMember u n → (t ≡ u) × (m ≡ n)
member-injective t m u n name e h = ((cc), (cc))
