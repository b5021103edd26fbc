-- The line `refactor`: which refusal is due, and what is due of a pair that is added.
use Rattle.std.proofs.Common.{◌≡◌, ℕ, Bool, true, false, ◌||◌, List, [], ◌∷◌, ◌++◌, Option, Some, None, inl, inr, ap, ◌∙◌, refl, sym, subst}
use Rattle.std.specs.Prelude.{codes, slice_get, IsSomeAnd}
use Rattle.std.specs.List.{list_any}
use Rattle.std.specs.Str.{bytes_eq}
use Rattle.std.proofs.lemmas.Bool.{and_from, and_parts, or_cases, or_left, or_right}
use Rattle.graph_model.specs.Served.{Storage}
use Rattle.refactor_table.specs.Pairs.{Clashes, ClashesAt, IsFresh, pair_of}
use Rattle.refactor_table.specs.Names.{AreOfOneForm, same_name}
use Rattle.refactor_table.specs.declared.name.Pair.{Pair}
use Rattle.refactor_table.specs.declared.name.RefName.{RefName}
use Rattle.refactor_table.specs.declared.name.RefName.TheVariants.{OfType, OfMember}
use Rattle.lazy_refs.proofs.Finding.{any_at, any_from}
use Rattle.lazy_refs.proofs.Naming.{bytes_same, same_bytes}
use Rattle.session_model.specs.Answer.{Refusal, State, Turn, differs, duplicate, ok, refactor_turn, reserved, wrong_kind}
use Rattle.session_model.specs.Sound.{IsSound}
use Rattle.session_model.proofs.Declaring.{refactor_line_sound}
use Rattle.session_lines.specs.declared.memory.Memory.{Memory}
use Rattle.session_lines.specs.declared.refusal.Stop.{Stop}
use Rattle.session_lines.specs.declared.refusal.Stop.TheVariants.{Refused}
use Rattle.session_lines.specs.declared.refusal.Refusal.TheVariants as refusals
use Rattle.session_lines.specs.Due.{Answers}
use Rattle.session_lines.specs.Pairings.{MayBePaired, MayNotBePaired, names_root}
use Rattle.session_lines.specs.Refusals.{IsRefusal}
use Rattle.session_lines.specs.Stands.{IsAtState}
use Rattle.session_lines.proofs.Judged.{judged_first, judged_next, judged_none}
use Rattle.session_lines.proofs.Lines.{ok_no_feed}
use Rattle.session_lines.proofs.Told.{answers_turn}

-- ---- the pairs that have a name

same_ref_name : (a b : RefName) → same_name a b ≡ true → a ≡ b
same_ref_name (OfType t) (OfType u) h = ap OfType (same_bytes t u h)
same_ref_name (OfType t) (OfMember u n) h = absurd cc
same_ref_name (OfMember t m) (OfType u) h = absurd cc
same_ref_name (OfMember t m) (OfMember u n) h =
    let parts = and_parts (bytes_eq t u) (bytes_eq m n) h in
    ap (λ (x : List ℕ). OfMember x m) (same_bytes t u parts.0) ∙ ap (OfMember u) (same_bytes m n parts.1)

ref_name_same : (a : RefName) → same_name a a ≡ true
ref_name_same (OfType t) = bytes_same t
ref_name_same (OfMember t m) = and_from (bytes_eq t t) (bytes_eq m m) (bytes_same t) (bytes_same m)

-- the pair has one of the names
abbrev has_name : RefName → RefName → Pair → Bool
has_name old new p = same_name p.old old || same_name p.new new

name_had : (old new : RefName) (p : Pair) → Clashes old new p → has_name old new p ≡ true
name_had old new p (inl e) = or_left (same_name p.old old) (same_name p.new new) (ap (λ (n : RefName). same_name n old) e ∙ ref_name_same old)
name_had old new p (inr e) = or_right (same_name p.old old) (same_name p.new new) (ap (λ (n : RefName). same_name n new) e ∙ ref_name_same new)

had_clashes : (old new : RefName) (p : Pair) → has_name old new p ≡ true → Clashes old new p
had_clashes old new p h = elim (or_cases (same_name p.old old) (same_name p.new new) h) [
  | inl e ↦ inl (same_ref_name p.old old e)
  | inr e ↦ inr (same_ref_name p.new new e)
]

clash_at : (pairs : List Pair) (old new : RefName) (k : ℕ) → ClashesAt pairs old new k → list_any (has_name old new) pairs ≡ true
clash_at pairs old new k clashes = by (slice_get pairs k) refl clashes
  where
    by : (o : Option Pair) → slice_get pairs k ≡ o → IsSomeAnd o (Clashes old new) → list_any (has_name old new) pairs ≡ true
    by None e clash = absurd clash
    by (Some p) e clash = any_from (has_name old new) pairs k p e (name_had old new p clash)

fresh_none : (pairs : List Pair) (old new : RefName) → IsFresh pairs old new → list_any (has_name old new) pairs ≡ false
fresh_none pairs old new fresh = by (list_any (has_name old new) pairs) refl
  where
    by : (b : Bool) → list_any (has_name old new) pairs ≡ b → b ≡ false
    by false e = refl
    by true e = let at = any_at (has_name old new) pairs e in
        absurd (fresh at.0 (subst (λ (o : Option Pair). IsSomeAnd o (Clashes old new)) (sym at.1.is) (had_clashes old new at.1.item at.1.passes)))

-- ---- the refusals

-- some pair of the state has one of the names
abbrev has_pair : State → RefName → RefName → Bool
has_pair state old new = list_any (has_name old new) state.pairs

abbrev paired : State → RefName → RefName → State
paired state old new = record state { pairs = state.pairs ++ pair_of old new ∷ [] }

abbrev behind_reserved : State → RefName → RefName → List Refusal
behind_reserved state old new = duplicate (has_pair state old new) ∷ wrong_kind (differs state old new) ∷ []

same_pairs : (memory : Memory) (storage : Storage) (state : State) (old new : RefName) → IsAtState memory storage state → has_pair state old new ≡ list_any (has_name old new) memory.table
same_pairs memory storage state old new at = ap (list_any (has_name old new)) (sym at.stands.pairs)

pub pair_refusal : (memory : Memory) (storage : Storage) (state : State) (old new : RefName) (stop : Stop) → IsAtState memory storage state → MayNotBePaired memory.types memory.table old new stop
    → IsRefusal state (refactor_turn state old new) stop
pair_refusal memory storage state old new (Refused refusals.Reserved) at is = judged_first state (reserved (names_root old new)) (behind_reserved state old new) (ok (paired state old new)) is
pair_refusal memory storage state old new (Refused refusals.Duplicate) at is =
    judged_next state (reserved (names_root old new)) (behind_reserved state old new) (ok (paired state old new)) is.other
    ∙ judged_first state (duplicate (has_pair state old new)) (wrong_kind (differs state old new) ∷ []) (ok (paired state old new))
    (same_pairs memory storage state old new at ∙ clash_at memory.table old new is.row is.clash.clashes)
pair_refusal memory storage state old new (Refused refusals.WrongKind) at is =
    judged_next state (reserved (names_root old new)) (behind_reserved state old new) (ok (paired state old new)) is.other
    ∙ (judged_next state (duplicate (has_pair state old new)) (wrong_kind (differs state old new) ∷ []) (ok (paired state old new))
    (same_pairs memory storage state old new at ∙ fresh_none memory.table old new is.fresh)
    ∙ judged_first state (wrong_kind (differs state old new)) [] (ok (paired state old new)) (is.unlike state (sym at.stands.types)))
pair_refusal memory storage state old new _ at is = absurd is

-- ---- the pair is added

pub pair_answers : (memory : Memory) (table : List Pair) (text : List ℕ) (storage : Storage) (state : State) (old new : RefName) → IsAtState memory storage state → AreOfOneForm old new → MayBePaired memory.types memory.table old new
    → table ≡ memory.table ++ pair_of old new ∷ [] → text ≡ codes "ok" ++ 10 ∷ [] → Answers text (record memory { table = table }) storage (refactor_turn state old new)
pair_answers memory table text storage state old new at one_form may added told =
    answers_turn (codes "ok") text (record memory { table = table }) storage (paired state old new) (refactor_turn state old new) ok_no_feed told made standing
  where
    made : refactor_turn state old new ≡ ok (paired state old new)
    made = judged_none state (reserved (names_root old new) ∷ behind_reserved state old new) (ok (paired state old new))
        (may.other, (same_pairs memory storage state old new at ∙ fresh_none memory.table old new may.fresh, (may.alike state (sym at.stands.types), tt)))

    standing : IsAtState (record memory { table = table }) storage (paired state old new)
    standing = record {
      stands = record {
        types = at.stands.types;
        pairs = added ∙ ap (λ (pairs : List Pair). pairs ++ pair_of old new ∷ []) at.stands.pairs;
        names = at.stands.names;
        instances = at.stands.instances;
        next_id = at.stands.next_id;
        started = at.stands.started;
        rooted = at.stands.rooted;
        sound = subst (λ (t : Turn). IsSound t.state) made (refactor_line_sound state old new at.stands.sound one_form);
        graph = at.stands.graph;
        number = at.stands.number;
        stored_next = at.stands.stored_next;
        records = at.stands.records;
      };
      held = at.held;
    }
