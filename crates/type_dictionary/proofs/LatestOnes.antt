-- The latest record of a name, behind one more record, and that it has the name.
use Rattle.std.proofs.Common.{◌≡◌, ℕ, suc, ◌+◌, ◌-◌, Bool, true, false, cond, List, [], ◌∷◌, ◌++◌, length, Option, Some, None, refl, sym, ap, subst, ◌∙◌, arith, add-zero}
use Rattle.std.specs.Bool.{Decides}
use Rattle.std.specs.Option.{option_or}
use Rattle.std.specs.Prelude.{slice_get, nat_eq, nat_le, IfSome, IsSomeAnd}
use Rattle.std.specs.Str.{bytes_eq}
use Rattle.std.proofs.lemmas.Bool.Decides.{nat_tests}
use Rattle.std.proofs.lemmas.Slice.Eq.{bytes_eq-Decides}
use Rattle.type_desc.specs.declared.desc.TypeDesc.{TypeDesc}
use Rattle.type_dictionary.specs.Latest.{desc_of, latest_from}

-- ---- one more record

pub latest_from-push : (id : ℕ) (types : List TypeDesc) (desc : TypeDesc) (name : List ℕ)
    → latest_from id (types ++ desc ∷ []) name ≡ cond (bytes_eq desc.name name) (Some (id + length types)) (latest_from id types name)
latest_from-push id [] desc name = ap (λ (n : ℕ). cond (bytes_eq desc.name name) (Some n) None) (sym (add-zero id))
latest_from-push id (d ∷ types) desc name =
    ap (λ (found : Option ℕ). option_or found (cond (bytes_eq d.name name) (Some id) None)) (latest_from-push (id + 1) types desc name)
    ∙ behind (bytes_eq desc.name name) (latest_from (id + 1) types name) (cond (bytes_eq d.name name) (Some id) None) (omega arith)
  where
    behind : (b : Bool) (found here : Option ℕ) → id + 1 + length types ≡ id + suc (length types)
        → option_or (cond b (Some (id + 1 + length types)) found) here ≡ cond b (Some (id + suc (length types))) (option_or found here)
    behind true found here e = ap (λ (n : ℕ). Some n) e
    behind false found here e = refl

-- ---- the record that is found

-- the record behind so many, which has the name
pub record IsFound (types : List TypeDesc) (id : ℕ) (name : List ℕ) (found : ℕ) : Type 0 where
  pub place : ℕ
  pub is : found ≡ id + place
  pub named : IsSomeAnd (slice_get types place) (λ (desc : TypeDesc). desc.name ≡ name)

pub latest_from-found : (types : List TypeDesc) (id : ℕ) (name : List ℕ) (n : ℕ) → latest_from id types name ≡ Some n → IsFound types id name n
latest_from-found [] id name n e = absurd cc
latest_from-found (d ∷ types) id name n e =
    cases (latest_from (id + 1) types name) (bytes_eq d.name name) (latest_from-found types (id + 1) name n) (bytes_eq-Decides d.name name) e
  where
    cases : (found : Option ℕ) (b : Bool) → (found ≡ Some n → IsFound types (id + 1) name n) → Decides b (d.name ≡ name)
        → option_or found (cond b (Some id) None) ≡ Some n → IsFound (d ∷ types) id name n
    cases None true behind dec h = let same : id ≡ n = (cc) in record { place = 0; is = omega arith; named = dec.0 refl }
    cases None false behind dec h = absurd cc
    cases (Some m) b behind dec h =
        let later = behind h in
        let at : n ≡ id + 1 + later.place = later.is in
        record { place = suc later.place; is = omega arith; named = later.named }

-- the id of a record
pub desc_of-record : (types : List TypeDesc) (k : ℕ) → desc_of types (16 + k) ≡ slice_get types k
desc_of-record types k =
    let back : 16 + k - 16 ≡ k = omega arith in
    let other : nat_eq (16 + k) 1 ≡ false = grind (arith, nat_tests) in
    let above : nat_le 16 (16 + k) ≡ true = grind (arith, nat_tests) in
    rw (other, above, back) refl

-- the record that is found has the name
pub latest_from-named : (types : List TypeDesc) (name : List ℕ) (found : Option ℕ) → found ≡ latest_from 16 types name
    → IfSome found (λ (id : ℕ). IsSomeAnd (desc_of types id) (λ (desc : TypeDesc). desc.name ≡ name))
latest_from-named types name None e = tt
latest_from-named types name (Some id) e =
    let is = latest_from-found types 16 name id (sym e) in
    let there : desc_of types id ≡ slice_get types is.place = ap (desc_of types) is.is ∙ desc_of-record types is.place in
    subst (λ (at : Option TypeDesc). IsSomeAnd at (λ (desc : TypeDesc). desc.name ≡ name)) (sym there) is.named
