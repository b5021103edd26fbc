-- The session stands where a name was bound or dropped, or an object was made.
use Rattle.std.proofs.Common.{◌≡◌, ◌<◌, ℕ, ◌+◌, true, false, cond, not, ◌&&◌, List, [], ◌∷◌, ◌++◌, Option, Some, None, inl, inr, ap, ◌∙◌, refl, sym, subst, arith}
use Rattle.std.specs.Prelude.{codes, is_some, nat_eq, nat_le, nat_lt}
use Rattle.std.specs.Fmt.{decimal}
use Rattle.std.specs.Str.{bytes_eq}
use Rattle.std.proofs.lemmas.Bool.{and_parts, eqb-true, ltb-true, or_cases}
use Rattle.graph_model.specs.Served.{Storage}
use Rattle.entity_form.specs.declared.value.Object.{Object}
use Rattle.session_model.specs.Instances.{Instance, instance_at, put_instance}
use Rattle.session_model.specs.Answer.{Binding, State, Turn, answered, bound, drop_turn, id_in, is_bound, is_root_name, no_name, ok, reserved}
use Rattle.session_model.specs.Sound.{IsSound}
use Rattle.session_model.proofs.Bindings.{dropped}
use Rattle.session_model.proofs.Holding.{held_put, is_saved}
use Rattle.session_model.proofs.Naming.{drop_line_sound}
use Rattle.object_registry.specs.Bindings.{SameNames, binding, unbound}
use Rattle.object_registry.specs.Registered.{Registered, unsaved}
use Rattle.object_registry.proofs.NameLemmas.{id_in-unbound}
use Rattle.session_lines.specs.declared.memory.Memory.{Memory}
use Rattle.session_lines.specs.declared.refusal.Refusal.TheVariants.{NoName, Reserved}
use Rattle.session_lines.specs.Due.{Answers}
use Rattle.session_lines.specs.Stands.{IsAtState}
use Rattle.session_lines.proofs.Judged.{judged_first, judged_next}
use Rattle.session_lines.proofs.Lines.{numbered_no_feed, ok_no_feed, refused_no_feed}
use Rattle.session_lines.proofs.Standing.{stands_with}
use Rattle.session_lines.proofs.Told.{answers_turn}

-- one more name on both sides
more_names : (new old names : List Binding) (name : List ℕ) (id : ℕ) → SameNames new (binding name id ∷ old) → SameNames old names → SameNames new (binding name id ∷ names)
more_names new old names name id same were n = same n ∙ ap (λ (o : Option ℕ). cond (bytes_eq name n) (Some id) o) (were n)

-- one name less on both sides
fewer_names : (new old names : List Binding) (name : List ℕ) → SameNames new (unbound name old) → SameNames old names → SameNames new (unbound name names)
fewer_names new old names name same were n = same n ∙ (id_in-unbound old name n ∙ (ap (λ (o : Option ℕ). cond (bytes_eq name n) None o) (were n) ∙ sym (id_in-unbound names name n)))

pub bound_answers : (memory : Memory) (registry : Registered) (text name : List ℕ) (id : ℕ) (storage : Storage) (state : State) (turn : Turn) → IsAtState memory storage state → turn ≡ ok (bound state name id) → IsSound turn.state
    → SameNames registry.names (binding name id ∷ memory.registry.names) → registry.instances ≡ memory.registry.instances → text ≡ codes "ok" ++ 10 ∷ []
    → Answers text (record memory { registry = registry }) storage turn
bound_answers memory registry text name id storage state turn at is sound names instances told =
    answers_turn (codes "ok") text (record memory { registry = registry }) storage (bound state name id) turn ok_no_feed told is
    (stands_with memory registry memory.next_id storage state (binding name id ∷ state.names) state.instances state.next_id at (subst (λ (t : Turn). IsSound t.state) is sound)
    (more_names registry.names memory.registry.names state.names name id names at.stands.names) (instances ∙ at.stands.instances) at.stands.next_id (omega arith) (λ y. refl))

-- no object has the next id
next_unsaved : (state : State) → IsSound state → is_saved (instance_at state.instances state.next_id) ≡ false
next_unsaved state s = by (instance_at state.instances state.next_id) refl
  where
    next : ℕ
    next = state.next_id

    by : (o : Option Instance) → instance_at state.instances state.next_id ≡ o → is_saved o ≡ false
    by None e = refl
    by (Some i) e = let low = s.low in absurd (elim (or_cases (nat_eq next 1) (nat_le 1024 next && nat_lt next next) (s.each next i e).good_id) [
      | inl root ↦ (let one : state.next_id ≡ 1 = eqb-true next 1 root in omega arith)
      | inr other ↦ (let below : state.next_id < state.next_id = ltb-true next next (and_parts (nat_le 1024 next) (nat_lt next next) other).1 in omega arith)
    ])

pub made_answers : (memory : Memory) (registry : Registered) (text name : List ℕ) (object : Object) (storage : Storage) (state : State) (turn : Turn) → IsAtState memory storage state
    → turn ≡ answered (record (bound state name state.next_id) { next_id = state.next_id + 1; instances = put_instance state.next_id (unsaved object) state.instances }) (codes "new " ++ decimal state.next_id)
    → IsSound turn.state
    → SameNames registry.names (binding name memory.next_id ∷ memory.registry.names) → registry.instances ≡ put_instance memory.next_id (unsaved object) memory.registry.instances
    → text ≡ (codes "new " ++ decimal memory.next_id) ++ 10 ∷ []
    → Answers text (record memory { registry = registry; next_id = memory.next_id + 1 }) storage turn
made_answers memory registry text name object storage state turn at is sound names instances told =
    answers_turn (codes "new " ++ decimal state.next_id) text (record memory { registry = registry; next_id = memory.next_id + 1 }) storage made turn (numbered_no_feed (codes "new ") state.next_id refl) (told ∙ ap (λ (n : ℕ). (codes "new " ++ decimal n) ++ 10 ∷ []) same) is
    (stands_with memory registry (memory.next_id + 1) storage state (binding name state.next_id ∷ state.names) (put_instance state.next_id (unsaved object) state.instances) (state.next_id + 1) at (subst (λ (t : Turn). IsSound t.state) is sound)
    (more_names registry.names memory.registry.names state.names name state.next_id (subst (λ (n : ℕ). SameNames registry.names (binding name n ∷ memory.registry.names)) same names) at.stands.names)
    (instances ∙ (ap (λ (n : ℕ). put_instance n (unsaved object) memory.registry.instances) same ∙ ap (put_instance state.next_id (unsaved object)) at.stands.instances))
    (ap (λ (n : ℕ). n + 1) same) (omega arith)
    (held_put state.instances state.next_id (unsaved object) at.stands.sound.order (sym (next_unsaved state at.stands.sound))))
  where
    same : memory.next_id ≡ state.next_id
    same = at.stands.next_id

    made : State
    made = record (bound state name state.next_id) { next_id = state.next_id + 1; instances = put_instance state.next_id (unsaved object) state.instances }

pub drop_reserved : (text : List ℕ) (memory : Memory) (storage : Storage) (state : State) (name : List ℕ) → IsAtState memory storage state → is_root_name name ≡ true → text ≡ codes "refused reserved" ++ 10 ∷ [] → Answers text memory storage (drop_turn state name)
drop_reserved text memory storage state name at is told = answers_turn (codes "refused reserved") text memory storage state (drop_turn state name) (refused_no_feed Reserved) told
    (judged_first state (reserved (is_root_name name)) (no_name (not (is_bound state name)) ∷ []) (ok (record state { names = dropped name state.names })) is) at

pub drop_unbound : (text : List ℕ) (memory : Memory) (storage : Storage) (state : State) (name : List ℕ) → IsAtState memory storage state → is_root_name name ≡ false → id_in memory.registry.names name ≡ None
    → text ≡ codes "refused no-name" ++ 10 ∷ [] → Answers text memory storage (drop_turn state name)
drop_unbound text memory storage state name at other none told = answers_turn (codes "refused no-name") text memory storage state (drop_turn state name) (refused_no_feed NoName) told
    (judged_next state (reserved (is_root_name name)) (no_name (not (is_bound state name)) ∷ []) (ok (record state { names = dropped name state.names })) other
    ∙ judged_first state (no_name (not (is_bound state name))) [] (ok (record state { names = dropped name state.names })) (ap (λ (o : Option ℕ). not (is_some o)) (sym (at.stands.names name) ∙ none))) at

pub dropped_answers : (memory : Memory) (registry : Registered) (text name : List ℕ) (storage : Storage) (state : State) → IsAtState memory storage state → is_root_name name ≡ false → (id : ℕ) → id_in memory.registry.names name ≡ Some id
    → SameNames registry.names (unbound name memory.registry.names) → registry.instances ≡ memory.registry.instances → text ≡ codes "ok" ++ 10 ∷ []
    → Answers text (record memory { registry = registry }) storage (drop_turn state name)
dropped_answers memory registry text name storage state at other id is names instances told =
    answers_turn (codes "ok") text (record memory { registry = registry }) storage left (drop_turn state name) ok_no_feed told made
    (stands_with memory registry memory.next_id storage state (dropped name state.names) state.instances state.next_id at (subst (λ (t : Turn). IsSound t.state) made (drop_line_sound state name at.stands.sound))
    (fewer_names registry.names memory.registry.names state.names name names at.stands.names) (instances ∙ at.stands.instances) at.stands.next_id (omega arith) (λ y. refl))
  where
    left : State
    left = record state { names = dropped name state.names }

    made : drop_turn state name ≡ ok left
    made = judged_next state (reserved (is_root_name name)) (no_name (not (is_bound state name)) ∷ []) (ok left) other
        ∙ judged_next state (no_name (not (is_bound state name))) [] (ok left) (ap (λ (o : Option ℕ). not (is_some o)) (sym (at.stands.names name) ∙ is))
