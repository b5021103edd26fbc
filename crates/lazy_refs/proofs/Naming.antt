-- Pairs and members by their names: the tests of the model and the words of the lower crates.
use Rattle.std.proofs.Common.{◌≡◌, ℕ, zero, suc, Bool, true, false, ◌&&◌, List, [], ◌∷◌, Option, Some, None, refl, sym, ap, ◌∙◌, subst}
use Rattle.std.specs.Prelude.{slice_get, option_map, unwrap_or, IfSome, IsSomeAnd}
use Rattle.std.specs.Borrow.{Bor}
use Rattle.std.specs.Str.{bytes_eq}
use Rattle.std.proofs.lemmas.Slice.Eq.{bytes_eq-Decides}
use Rattle.std.proofs.lemmas.Bool.{and_parts, and_from}
use Rattle.std.proofs.lemmas.Option.{slice_get-map}
use Rattle.type_desc.specs.declared.desc.Member.{Member}
use Rattle.type_desc.specs.OwnNames.{IsNamed}
use Rattle.refactor_table.specs.Names.{AreOfOneForm, same_name}
use Rattle.refactor_table.specs.Pairs.{AreSound, Leads, pair_of}
use Rattle.refactor_table.specs.declared.name.Pair.{Pair}
use Rattle.refactor_table.specs.declared.name.RefName.{RefName}
use Rattle.refactor_table.specs.declared.name.RefName.TheVariants.{OfType, OfMember}
use Rattle.legacy_mapping.specs.Sources.{IsTarget}
use Rattle.session_model.specs.Types.{leads, type_in, target_name}
use Rattle.lazy_refs.proofs.Finding.{any_at, any_from}

pub same_bytes : (xs ys : List ℕ) → bytes_eq xs ys ≡ true → xs ≡ ys
same_bytes xs ys h = (bytes_eq-Decides xs ys).0 h

pub bytes_same : (xs : List ℕ) → bytes_eq xs xs ≡ true
bytes_same xs = (bytes_eq-Decides xs xs).1 refl

same_ref_name : (a b : RefName) → same_name a b ≡ true → a ≡ b
same_ref_name (OfType t) (OfType u) h = ap OfType (same_bytes t u h)
same_ref_name (OfType t) (OfMember u n) h = absurd cc
same_ref_name (OfMember t m) (OfType u) h = absurd cc
same_ref_name (OfMember t m) (OfMember u n) h =
    let parts = and_parts (bytes_eq t u) (bytes_eq m n) h in
    ap (λ (x : List ℕ). OfMember x m) (same_bytes t u parts.0) ∙ ap (OfMember u) (same_bytes m n parts.1)

ref_name_same : (a : RefName) → same_name a a ≡ true
ref_name_same (OfType t) = bytes_same t
ref_name_same (OfMember t m) = and_from (bytes_eq t t) (bytes_eq m m) (bytes_same t) (bytes_same m)

row_is : (row : Pair) (old new : RefName) → row.old ≡ old → row.new ≡ new → row ≡ pair_of old new
row_is row old new e f = ap (λ (n : RefName). pair_of n row.new) e ∙ ap (pair_of old) f

pub leads_true : (pairs : List Pair) (old new : RefName) → leads pairs old new ≡ true → Leads pairs old new
leads_true pairs old new h =
    let at = any_at (λ (p : Pair). same_name p.old old && same_name p.new new) pairs h in
    let row = at.1.item in
    let parts = and_parts (same_name row.old old) (same_name row.new new) at.1.passes in
    (at.0, at.1.is ∙ ap Some (row_is row old new (same_ref_name row.old old parts.0) (same_ref_name row.new new parts.1)))

pub leads_from : (pairs : List Pair) (old new : RefName) → Leads pairs old new → leads pairs old new ≡ true
leads_from pairs old new l =
    any_from (λ (p : Pair). same_name p.old old && same_name p.new new) pairs l.0 (pair_of old new) l.1
    (and_from (same_name old old) (same_name new new) (ref_name_same old) (ref_name_same new))

-- ---- members

pub named_from : (members : List Member) (i : ℕ) (member : Member) → slice_get members i ≡ Some member → IsNamed members i member.name
named_from members i member at = slice_get-map (λ (m : Member). m.name) members i ∙ ap (option_map (λ (m : Member). m.name)) at

pub named_at : (members : List Member) (i : ℕ) (name : List ℕ) → IsNamed members i name → (member : Member) × (slice_get members i ≡ Some member) × (member.name ≡ name)
named_at members i name at = by (slice_get members i) (sym (slice_get-map (λ (m : Member). m.name) members i) ∙ at)
  where
    by : (found : Option Member) → option_map (λ (m : Member). m.name) found ≡ Some name → (member : Member) × (found ≡ Some member) × (member.name ≡ name)
    by None e = absurd cc
    by (Some member) e = (member, refl, cc)

-- ---- the new name of a type

-- the first row of the old name, or that there is none
data TargetRow (pairs : List Pair) (name : List ℕ) : Type 0 where
  Here : (k : ℕ) (row : Pair) → slice_get pairs k ≡ Some row → row.old ≡ OfType name → target_name pairs name ≡ type_in row.new → TargetRow pairs name
  Nowhere : ((k : ℕ) (row : Pair) → slice_get pairs k ≡ Some row → row.old ≡ OfType name → ⊥) → target_name pairs name ≡ name → TargetRow pairs name

target_row : (pairs : List Pair) (name : List ℕ) → TargetRow pairs name
target_row [] name = TargetRow.Nowhere (λ k row at e. let none : None ≡ Some row = at in cc) refl
target_row (p ∷ pairs) name = by (same_name p.old (OfType name)) refl (target_row pairs name)
  where
    by : (b : Bool) → same_name p.old (OfType name) ≡ b → TargetRow pairs name → TargetRow (p ∷ pairs) name
    by true e later = TargetRow.Here zero p refl (same_ref_name p.old (OfType name) e) (rw e refl)
    by false e (TargetRow.Here k row at named to) = TargetRow.Here (suc k) row at named (rw e to)
    by false e (TargetRow.Nowhere nowhere to) = TargetRow.Nowhere (other e nowhere) (rw e to)
      where
        other : same_name p.old (OfType name) ≡ false → ((k : ℕ) (row : Pair) → slice_get pairs k ≡ Some row → row.old ≡ OfType name → ⊥)
            → (k : ℕ) (row : Pair) → slice_get (p ∷ pairs) k ≡ Some row → row.old ≡ OfType name → ⊥
        other e nowhere zero row at named =
            let one : p ≡ row = cc in
            let same : same_name p.old (OfType name) ≡ true = ap (λ (r : Pair). same_name r.old (OfType name)) one ∙ ap (λ (n : RefName). same_name n (OfType name)) named ∙ ref_name_same (OfType name) in cc
        other e nowhere (suc k) row at named = nowhere k row at named

type_row : (old new : RefName) (name : List ℕ) → old ≡ OfType name → AreOfOneForm old new → new ≡ OfType (type_in new)
type_row old (OfType u) name e form = refl
type_row old (OfMember u n) name e form = absurd (subst (λ (o : RefName). AreOfOneForm o (OfMember u n)) e form)

pub target_is : (pairs : List Pair) (name : Bor (List ℕ)) (found : Option (Bor (List ℕ))) → AreSound pairs
    → IfSome found (λ new. Leads pairs (OfType name.now) (OfType new.now))
    → ((new : List ℕ) → Leads pairs (OfType name.now) (OfType new) → IsSomeAnd found (λ f. f.now ≡ new))
    → (r : Bor (List ℕ)) → r ≡ unwrap_or found name → r.now ≡ target_name pairs name.now
target_is pairs name None sound is_new only r e = ap (λ (x : Bor (List ℕ)). x.now) e ∙ in_none (target_row pairs name.now)
  where
    in_none : TargetRow pairs name.now → name.now ≡ target_name pairs name.now
    in_none (TargetRow.Here k row at named to) = absurd (only (type_in row.new) (k, at ∙ ap Some (row_is row (OfType name.now) (OfType (type_in row.new)) named (type_row row.old row.new name.now named (sound.one_form k row at)))))
    in_none (TargetRow.Nowhere nowhere to) = sym to
target_is pairs name (Some new) sound is_new only r e = ap (λ (x : Bor (List ℕ)). x.now) e ∙ in_some (target_row pairs name.now)
  where
    in_some : TargetRow pairs name.now → new.now ≡ target_name pairs name.now
    in_some (TargetRow.Here k row at named to) = only (type_in row.new) (k, at ∙ ap Some (row_is row (OfType name.now) (OfType (type_in row.new)) named (type_row row.old row.new name.now named (sound.one_form k row at)))) ∙ sym to
    in_some (TargetRow.Nowhere nowhere to) = absurd (nowhere is_new.0 (pair_of (OfType name.now) (OfType new.now)) is_new.1 refl)

-- ---- it is that of the table

pub is_target : (pairs : List Pair) (name : List ℕ) → AreSound pairs → IsTarget pairs name (target_name pairs name)
is_target pairs name sound = by (target_row pairs name)
  where
    by : TargetRow pairs name → IsTarget pairs name (target_name pairs name)
    by (TargetRow.Here k row at named to) = subst (IsTarget pairs name) (sym to)
        (IsTarget.paired (type_in row.new) (k, at ∙ ap Some (row_is row (OfType name) (OfType (type_in row.new)) named (type_row row.old row.new name named (sound.one_form k row at)))))
    by (TargetRow.Nowhere nowhere to) = subst (IsTarget pairs name) (sym to) (IsTarget.unpaired (λ new l. nowhere l.0 (pair_of (OfType name) (OfType new)) l.1 refl))

pub target_once : (pairs : List Pair) (name target : List ℕ) → AreSound pairs → IsTarget pairs name target → target ≡ target_name pairs name
target_once pairs name _ sound (IsTarget.paired new l) = by (target_row pairs name)
  where
    by : TargetRow pairs name → new ≡ target_name pairs name
    by (TargetRow.Here k row at named to) =
        let one : l.0 ≡ k = sound.own_old l.0 k (pair_of (OfType name) (OfType new)) row l.1 at (sym named) in
        let rows : Some (pair_of (OfType name) (OfType new)) ≡ Some row = sym l.1 ∙ ap (slice_get pairs) one ∙ at in
        let same : pair_of (OfType name) (OfType new) ≡ row = cc in
        ap (λ (r : Pair). type_in r.new) same ∙ sym to
    by (TargetRow.Nowhere nowhere to) = absurd (nowhere l.0 (pair_of (OfType name) (OfType new)) l.1 refl)
target_once pairs name _ sound (IsTarget.unpaired leads_nowhere) = by (target_row pairs name)
  where
    by : TargetRow pairs name → name ≡ target_name pairs name
    by (TargetRow.Here k row at named to) =
        absurd (leads_nowhere (type_in row.new) (k, at ∙ ap Some (row_is row (OfType name) (OfType (type_in row.new)) named (type_row row.old row.new name named (sound.one_form k row at)))))
    by (TargetRow.Nowhere nowhere to) = sym to
