-- The lines about types: `type` and `refactor`; and the latest type of a name.
use Rattle.std.proofs.Common.{◌≡◌, ℕ, ◌+◌, ◌-◌, ◌<◌, ◌≤◌, Bool, true, false, cond, not, ◌&&◌, ◌||◌, List, [], ◌∷◌, ◌++◌, length, slice_get, Option, Some, None, refl, sym, ap, ◌∙◌, subst, arith, suc}
use Rattle.std.specs.Prelude.{nat_eq, nat_le}
use Rattle.std.specs.List.{list_any}
use Rattle.std.specs.Str.{bytes_eq}
use Rattle.std.proofs.lemmas.Bool.{le-leb, leb-false, ne_eqb, not_from_false}
use Rattle.std.specs.Option.{option_or}
use Rattle.type_desc.specs.Grammar.{IsDesc}
use Rattle.type_desc.specs.Root.{root_desc}
use Rattle.type_desc.specs.declared.desc.TypeDesc.{TypeDesc}
use Rattle.type_dictionary.specs.Latest.{desc_of, latest_from, latest_of}
use Rattle.refactor_table.specs.declared.name.Pair.{Pair}
use Rattle.refactor_table.specs.declared.name.RefName.{RefName}
use Rattle.refactor_table.specs.Names.{AreOfOneForm, same_name}
use Rattle.session_model.specs.Types.{is_root_type, repeats_member, type_in}
use Rattle.session_model.specs.Answer.{State, Refusal, differs, duplicate, is_full, is_known, ok, refactor_turn, reserved, type_known, type_new, type_turn, wrong_kind}
use Rattle.session_model.specs.Sound.{IsSound}
use Rattle.session_model.proofs.Frames.{pair_added, type_added}
use Rattle.session_model.proofs.Judging.{judged_sound}

pub type_line_sound : (state : State) (desc : TypeDesc) → IsSound state → IsDesc desc → IsSound (type_turn state desc).state
type_line_sound state desc s spelled = judged_sound state refusals (cond (is_known state desc) (type_known state desc) (type_new state desc)) s
    (λ none. effect (is_known state desc) none.0 none.1.0 none.1.1.0)
  where
    refusals : List Refusal
    refusals = reserved (is_root_type desc.name) ∷ duplicate (repeats_member desc.members) ∷ is_full (nat_le 65536 (length state.types) && not (is_known state desc)) ∷ []

    room : (b : Bool) → nat_le 65536 (length state.types) ≡ b → (b && true) ≡ false → length state.types < 65536
    room true e f = absurd cc
    room false e f = leb-false 65536 (length state.types) e

    effect : (known : Bool) → is_root_type desc.name ≡ false → repeats_member desc.members ≡ false → (nat_le 65536 (length state.types) && not known) ≡ false
        → IsSound (cond known (type_known state desc) (type_new state desc)).state
    effect true other once full = s
    effect false other once full = type_added state desc s (room (nat_le 65536 (length state.types)) refl full) (record { spelled = spelled; no_repeat = once; not_root = other })

pub refactor_line_sound : (state : State) (old new : RefName) → IsSound state → AreOfOneForm old new → IsSound (refactor_turn state old new).state
refactor_line_sound state old new s one_form = judged_sound state refusals (ok (record state { pairs = state.pairs ++ record { old = old; new = new } ∷ [] })) s
    (λ none. pair_added state (record { old = old; new = new }) s one_form none.1.0 (not_from_false (is_root_type (type_in old) || is_root_type (type_in new)) none.0))
  where
    refusals : List Refusal
    refusals = reserved (is_root_type (type_in old) || is_root_type (type_in new))
        ∷ duplicate (list_any (λ (p : Pair). same_name p.old old || same_name p.new new) state.pairs)
        ∷ wrong_kind (differs state old new)
        ∷ []

-- ---- the latest type of a name

pub record IsRecorded (types : List TypeDesc) (id : ℕ) : Type 0 where
  pub desc : TypeDesc
  pub known : desc_of types id ≡ Some desc
  pub low : 16 ≤ id

record StandsFrom (first : ℕ) (types : List TypeDesc) (id : ℕ) : Type 0 where
  pub desc : TypeDesc
  pub low : first ≤ id
  pub stands : slice_get types (id - first) ≡ Some desc

latest_stands : (first : ℕ) (types : List TypeDesc) (name : List ℕ) (id : ℕ) → latest_from first types name ≡ Some id → StandsFrom first types id
latest_stands first [] name id e = absurd cc
latest_stands first (d ∷ types) name id e = by (latest_from (first + 1) types name) refl e (latest_stands (first + 1) types name id)
  where
    here : (b : Bool) → cond b (Some first) None ≡ Some id → StandsFrom first (d ∷ types) id
    here true e = let same : first ≡ id = cc in let none : first - first ≡ 0 = omega arith in
        subst (λ (n : ℕ). StandsFrom first (d ∷ types) n) same (record { desc = d; low = omega arith; stands = ap (λ (n : ℕ). slice_get (d ∷ types) n) none })
    here false e = absurd cc

    later : StandsFrom (first + 1) types id → StandsFrom first (d ∷ types) id
    later t = let low = t.low in let next : id - first ≡ suc (id - (first + 1)) = omega arith in
        record { desc = t.desc; low = omega arith; stands = ap (λ (n : ℕ). slice_get (d ∷ types) n) next ∙ t.stands }

    by : (o : Option ℕ) → latest_from (first + 1) types name ≡ o → option_or o (cond (bytes_eq d.name name) (Some first) None) ≡ Some id
        → (latest_from (first + 1) types name ≡ Some id → StandsFrom (first + 1) types id) → StandsFrom first (d ∷ types) id
    by None f e ih = here (bytes_eq d.name name) e
    by (Some other) f e ih = later (ih (f ∙ e))

recorded : (types : List TypeDesc) (id : ℕ) → StandsFrom 16 types id → IsRecorded types id
recorded types id t = let low = t.low in
    let other : nat_eq id 1 ≡ false = ne_eqb id 1 (λ e. absurd (omega arith)) in
    let above : nat_le 16 id ≡ true = le-leb 16 id low in
    record {
      desc = t.desc;
      known = ap (λ (b : Bool). cond b (Some root_desc) (cond (nat_le 16 id) (slice_get types (id - 16)) None)) other
          ∙ (ap (λ (b : Bool). cond b (slice_get types (id - 16)) None) above ∙ t.stands);
      low = low;
    }

-- the latest type of another name than the root's was recorded
pub latest_recorded : (types : List TypeDesc) (name : List ℕ) (id : ℕ) → is_root_type name ≡ false → latest_of types name ≡ Some id → IsRecorded types id
latest_recorded types name id other e = recorded types id (latest_stands 16 types name id (sym (ap (λ (b : Bool). cond b (Some 1) (latest_from 16 types name)) other) ∙ e))
