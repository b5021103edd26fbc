-- The words of the dictionary for types are those of the model: repeated member names, a type that is known, and the records of all.
use Rattle.std.proofs.Common.{◌≡◌, ◌≢◌, ℕ, zero, suc, ◌+◌, ◌-◌, subst, Bool, true, false, cond, ◌||◌, List, [], ◌∷◌, ◌++◌, Option, Some, None, refl, sym, ap, ◌∙◌, arith, length}
use Rattle.std.specs.Bool.{Decides}
use Rattle.std.specs.List.{list_any}
use Rattle.std.specs.Prelude.{codes, slice_get, nat_eq, nat_le}
use Rattle.std.specs.Str.{bytes_eq}
use Rattle.std.proofs.lemmas.Slice.Eq.{bytes_eq-Decides}
use Rattle.type_desc.specs.declared.desc.Member.{Member}
use Rattle.type_desc.specs.declared.desc.TypeDesc.{TypeDesc}
use Rattle.type_desc.specs.Grammar.{IsDesc, IsRecord, record_text}
use Rattle.type_desc.specs.Reading.{record_at}
use Rattle.type_desc.proofs.Again.{record_again}
use Rattle.type_desc.proofs.Readers.{ok_is}
use Rattle.type_desc.specs.OwnNames.{IsNamed, HaveOwnNames}
use Rattle.type_desc.specs.Root.{root_desc}
use Rattle.type_dictionary.specs.Declaring.{IsKnownAs, IsNew}
use Rattle.type_dictionary.specs.Latest.{desc_of, latest_of}
use Rattle.type_dictionary.specs.Records.{records_from}
use Rattle.session_model.specs.Answer.{is_latest}
use Rattle.session_model.specs.Sound.{AreTypes}
use Rattle.session_model.specs.Types.{desc_at, is_root_type, latest_desc, repeats_member}

-- ---- repeated names

any_named : (ms : List Member) (j : ℕ) (name : List ℕ) → IsNamed ms j name → list_any (λ (o : Member). bytes_eq o.name name) ms ≡ true
any_named [] j name e = absurd cc
any_named (m ∷ ms) zero name e = let here : m.name ≡ name = (cc) in rw ((bytes_eq-Decides m.name name).1 here) refl
any_named (m ∷ ms) (suc j) name e = either_way (bytes_eq m.name name) _ (any_named ms j name e)
  where
    either_way : (a b : Bool) → b ≡ true → (a || b) ≡ true
    either_way true b h = refl
    either_way false b h = h

named_any : (ms : List Member) (name : List ℕ) → list_any (λ (o : Member). bytes_eq o.name name) ms ≡ true → (j : ℕ) × IsNamed ms j name
named_any [] name e = absurd cc
named_any (m ∷ ms) name e = cases (bytes_eq m.name name) (bytes_eq-Decides m.name name) (named_any ms name) e
  where
    cases : (b : Bool) → Decides b (m.name ≡ name) → (list_any (λ (o : Member). bytes_eq o.name name) ms ≡ true → (j : ℕ) × IsNamed ms j name)
        → (b || list_any (λ (o : Member). bytes_eq o.name name) ms) ≡ true → (j : ℕ) × IsNamed (m ∷ ms) j name
    cases true dec behind h = (0, ap (λ (w : List ℕ). Some w) (dec.0 refl))
    cases false dec behind h = let there = behind h in (suc there.0, there.1)

pub own_names : (ms : List Member) → repeats_member ms ≡ false → HaveOwnNames ms
own_names [] e i j name h k = absurd cc
own_names (m ∷ ms) e i j name h k = cases (list_any (λ (o : Member). bytes_eq o.name m.name) ms) refl e (own_names ms) i j h k
  where
    not_there : (n : ℕ) → IsNamed ms n name → m.name ≡ name → list_any (λ (o : Member). bytes_eq o.name m.name) ms ≡ true
    not_there n at is = any_named ms n m.name (at ∙ ap (λ (w : List ℕ). Some w) (sym is))

    cases : (b : Bool) → list_any (λ (o : Member). bytes_eq o.name m.name) ms ≡ b → cond b true (repeats_member ms) ≡ false
        → (repeats_member ms ≡ false → HaveOwnNames ms) → (i j : ℕ) → IsNamed (m ∷ ms) i name → IsNamed (m ∷ ms) j name → i ≡ j
    cases true is e' behind i j h k = absurd cc
    cases false is e' behind zero zero h k = refl
    cases false is e' behind zero (suc j) h k = absurd (let t = not_there j k (cc) in cc)
    cases false is e' behind (suc i) zero h k = absurd (let t = not_there i h (cc) in cc)
    cases false is e' behind (suc i) (suc j) h k = ap (λ (n : ℕ). suc n) (behind e' i j name h k)

pub none_repeated : (ms : List Member) → HaveOwnNames ms → repeats_member ms ≡ false
none_repeated [] own = refl
none_repeated (m ∷ ms) own = cases (list_any (λ (o : Member). bytes_eq o.name m.name) ms) refl (none_repeated ms)
  where
    cases : (b : Bool) → list_any (λ (o : Member). bytes_eq o.name m.name) ms ≡ b → (HaveOwnNames ms → repeats_member ms ≡ false)
        → cond b true (repeats_member ms) ≡ false
    cases true is behind =
        let there = named_any ms m.name is in
        absurd (let same : zero ≡ suc there.0 = own zero (suc there.0) m.name refl there.1 in omega arith)
    cases false is behind = behind (λ i j name h k. let same : suc i ≡ suc j = own (suc i) (suc j) name h k in omega arith)

pub some_repeated : (ms : List Member) → ¬ (HaveOwnNames ms) → repeats_member ms ≡ true
some_repeated ms not_own = by (repeats_member ms) refl
  where
    by : (b : Bool) → repeats_member ms ≡ b → b ≡ true
    by true e = refl
    by false e = absurd (not_own (own_names ms e))

-- ---- the built-in type's name

pub is_other : (name : List ℕ) → is_root_type name ≡ false → name ≢ codes "Root"
is_other name e same = let t = (bytes_eq-Decides name (codes "Root")).1 same in absurd cc

-- ---- known types

root_spelled : IsDesc root_desc
root_spelled = record { name = (refl, refl, omega arith); members = ((refl, refl, omega arith), tt); count = omega arith }

spelled_of : (types : List TypeDesc) → AreTypes types → (id : ℕ) (desc : TypeDesc) → desc_of types id ≡ Some desc → IsDesc desc
spelled_of types right id desc e = cases (nat_eq id 1) (nat_le 16 id) e
  where
    cases : (a b : Bool) → cond a (Some root_desc) (cond b (slice_get types (id - 16)) None) ≡ Some desc → IsDesc desc
    cases true b h = let same : root_desc ≡ desc = (cc) in subst IsDesc same root_spelled
    cases false true h = (right.each (id - 16) desc h).spelled
    cases false false h = absurd cc

pub known_id : (types : List TypeDesc) (desc : TypeDesc) (id : ℕ) → IsKnownAs types desc id → latest_of types desc.name ≡ Some id
known_id types desc id known = known.0

-- a known type is the latest of its name for the model
pub known_is_latest : (types : List TypeDesc) (desc : TypeDesc) (id : ℕ) → IsKnownAs types desc id → is_latest (latest_desc types desc.name) desc ≡ true
known_is_latest types desc id known =
    let at : latest_desc types desc.name ≡ Some desc = ap (desc_at types) known.0 ∙ known.1 in
    ap (λ (found : Option TypeDesc). is_latest found desc) at ∙ (bytes_eq-Decides (record_text (16, desc)) (record_text (16, desc))).1 refl

-- and a new one is not
pub new_is_not_latest : (types : List TypeDesc) (desc : TypeDesc) → AreTypes types → IsDesc desc → IsNew types desc → is_latest (latest_desc types desc.name) desc ≡ false
new_is_not_latest types desc right is new = by_id (latest_of types desc.name) refl
  where
    same_text : (a : TypeDesc) → IsDesc a → record_text (16, a) ≡ record_text (16, desc) → a ≡ desc
    same_text a a_is e =
        let one : IsRecord (16, a) = record { id = (omega arith, omega arith); desc = a_is } in
        let other : IsRecord (16, desc) = record { id = (omega arith, omega arith); desc = is } in
        ap (λ (r : ℕ × TypeDesc). r.1) (ap (λ p. p.0) (ok_is _ _ (sym (record_again (16, a) one) ∙ ap record_at e ∙ record_again (16, desc) other)))

    by_text : (id : ℕ) (a : TypeDesc) (b : Bool) → latest_of types desc.name ≡ Some id → desc_of types id ≡ Some a
        → Decides b (record_text (16, a) ≡ record_text (16, desc)) → b ≡ false
    by_text id a true latest at dec =
        let same = same_text a (spelled_of types right id a at) (dec.0 refl) in
        absurd (new id (latest, at ∙ ap (λ (d : TypeDesc). Some d) same))
    by_text id a false latest at dec = refl

    by_desc : (id : ℕ) (found : Option TypeDesc) → latest_of types desc.name ≡ Some id → desc_of types id ≡ found → is_latest found desc ≡ false
    by_desc id None latest at = refl
    by_desc id (Some a) latest at = by_text id a (bytes_eq (record_text (16, a)) (record_text (16, desc))) latest at (bytes_eq-Decides (record_text (16, a)) (record_text (16, desc)))

    by_id : (found : Option ℕ) → latest_of types desc.name ≡ found → is_latest (latest_desc types desc.name) desc ≡ false
    by_id None e = ap (λ (at : Option ℕ). is_latest (desc_at types at) desc) e
    by_id (Some id) e = ap (λ (at : Option ℕ). is_latest (desc_at types at) desc) e ∙ by_desc id (desc_of types id) e refl

-- ---- the records

-- one more type has the next record
pub records_behind : (first : ℕ) (types : List TypeDesc) (desc : TypeDesc) → records_from first (types ++ desc ∷ []) ≡ records_from first types ++ record_text (first + length types, desc) ∷ []
records_behind first [] desc = let same : first ≡ first + 0 = omega arith in ap (λ (id : ℕ). record_text (id, desc) ∷ []) same
records_behind first (t ∷ types) desc =
    let same : (first + 1) + length types ≡ first + suc (length types) = omega arith in
    ap (λ (rest : List (List ℕ)). record_text (first, t) ∷ rest)
    (records_behind (first + 1) types desc ∙ ap (λ (id : ℕ). records_from (first + 1) types ++ record_text (id, desc) ∷ []) same)
