-- The lines that ask a storage: what comes once the reply is there.
use Rattle.std.proofs.Common.{◌≡◌, ◌-◌, ◌≤◌, ℕ, Bool, true, false, not, ◌&&◌, ◌↔◌, List, [], ◌∷◌, ◌++◌, ap, ◌∙◌, refl, sym, subst, arith, length}
use Rattle.std.specs.Prelude.{codes, map}
use Rattle.std.specs.Fmt.{decimal}
use Rattle.graph_model.specs.Ids.{has, rises}
use Rattle.graph_model.specs.declared.ask.Ask.TheVariants as asks
use Rattle.graph_model.specs.declared.ask.Reply.{Reply}
use Rattle.graph_model.specs.Served.{IsKept, IsSame, OnlyHeldChanged, SameIds, Served, Storage}
use Rattle.session_model.specs.Instances.{Instances, held_ids, has_instance, kept_instances}
use Rattle.session_model.specs.Answer.{Binding, State, answered, collect_turn, forget_turn, id_in, reached_records, tidy_turn}
use Rattle.session_model.proofs.Allowing.{kept_count}
use Rattle.session_model.proofs.Asking.{ask_stays_allowed}
use Rattle.session_model.proofs.Forgetting.{forget_line_sound}
use Rattle.session_model.proofs.Holding.{held_kept}
use Rattle.session_model.specs.Sound.{are_distinct}
use Rattle.object_registry.specs.Registered.{Registered, bound_ids}
use Rattle.object_registry.proofs.SameBound.{kept_by_same_names}
use Rattle.session_lines.specs.declared.memory.Memory.{Memory}
use Rattle.session_lines.specs.declared.outcome.Phase.TheVariants as phases
use Rattle.session_lines.specs.Due.{Awaits, Replied, kept_text}
use Rattle.session_lines.specs.Stands.{Stands, IsAtState}
use Rattle.session_lines.proofs.Standing.{stands_objects}
use Rattle.session_lines.proofs.Lines.{numbered_no_feed, tidied_no_feed}
use Rattle.session_lines.proofs.Told.{answers_turn}

-- the storage is another, of which only the held ids are
pub stands_served : (memory : Memory) (old new : Storage) (state : State) → Stands memory old state → OnlyHeldChanged old new → SameIds new.held (held_ids state.instances) → IsAtState memory new state
stands_served memory old new state s others held = record {
  stands = record {
    types = s.types;
    pairs = s.pairs;
    names = s.names;
    instances = s.instances;
    next_id = s.next_id;
    started = s.started;
    rooted = s.rooted;
    sound = s.sound;
    graph = others.graph ∙ s.graph;
    number = others.number ∙ s.number;
    stored_next = subst (λ (n : ℕ). n ≤ state.next_id) (sym others.next_id) s.stored_next;
    records = others.types ∙ s.records;
  };
  held = held;
}

pub stands_same : (memory : Memory) (old new : Storage) (state : State) → IsAtState memory old state → IsSame old new → IsAtState memory new state
stands_same memory old new state at same = stands_served memory old new state at.stands same.others (λ x. same.held x ∙ at.held x)

pub tidy_awaits : (is_next_type : List (List ℕ) → List ℕ → Bool) (text : List ℕ) (memory : Memory) (storage : Storage) (state : State) → text ≡ codes "tidied" ++ 10 ∷ [] → IsAtState memory storage state
    → Awaits is_next_type asks.Tidy (phases.Saying text) memory storage (tidy_turn state)
tidy_awaits is_next_type text memory storage state t at = record {
  may = tt;
  due = refl;
  suits = tt;
  then_ = λ reply new served. answers_turn (codes "tidied") text memory new state (answered state (codes "tidied")) tidied_no_feed t refl (stands_same memory storage new state at served.same);
}

-- what a storage counts is what the model counts
counted : (memory : Memory) (storage : Storage) (state : State) (kept : List ℕ) → IsAtState memory storage state → rises kept ≡ true → ((x : ℕ) → (has x kept ≡ true) ↔ IsKept storage.graph storage.held x)
    → length (reached_records state.graph (1 ∷ held_ids state.instances)) ≡ length kept
counted memory storage state kept at order exact = kept_count state.graph (held_ids state.instances) kept at.stands.sound.graph.order order
    (λ x. (
      λ h. ask_stays_allowed (λ texts text. true) storage by_model (asks.Look x) there ((exact x).0 h),
      λ k. (exact x).1 (ask_stays_allowed (λ texts text. true) by_model storage (asks.Look x) back k),
    ))
  where
    by_model : Storage
    by_model = record storage { graph = state.graph; held = held_ids state.instances }

    there : IsSame storage by_model
    there = record { others = record { graph = sym at.stands.graph; number = refl; next_id = refl; types = refl }; held = λ x. sym (at.held x) }

    back : IsSame by_model storage
    back = record { others = record { graph = at.stands.graph; number = refl; next_id = refl; types = refl }; held = at.held }

abbrev counted_in : State → ℕ
counted_in state = length (reached_records state.graph (1 ∷ held_ids state.instances))

pub collect_awaits : (is_next_type : List (List ℕ) → List ℕ → Bool) (memory : Memory) (storage : Storage) (state : State) → IsAtState memory storage state
    → Awaits is_next_type asks.Collect phases.Collecting memory storage (collect_turn state)
collect_awaits is_next_type memory storage state at = record { may = tt; due = refl; suits = tt; then_ = replied }
  where
    replied : (reply : Reply) (new : Storage) → Served storage asks.Collect reply new → Replied phases.Collecting reply memory new (answered state (codes "kept " ++ decimal (counted_in state)))
    replied reply new served = subst (λ (r : Reply). Replied phases.Collecting r memory new (answered state (codes "kept " ++ decimal (counted_in state)))) (sym served.reply_is)
        (answers_turn (codes "kept " ++ decimal (length (reached_records state.graph (1 ∷ held_ids state.instances)))) (kept_text (length served.kept)) memory new state (answered state (codes "kept " ++ decimal (counted_in state))) (numbered_no_feed (codes "kept ") (length (reached_records state.graph (1 ∷ held_ids state.instances))) refl)
        (ap kept_text (sym (counted memory storage state served.kept at served.order served.exact))) refl (stands_same memory storage new state at served.same))

-- ---- `forget`

given_up : (a b c : Bool) → b ≡ (a && c) → (a && not (a && not b)) ≡ b
given_up true true c e = refl
given_up true false c e = refl
given_up false b c e = sym e

pub forget_awaits : (is_next_type : List (List ℕ) → List ℕ → Bool) (memory : Memory) (registry : Registered) (count : ℕ) (released text : List ℕ) (storage : Storage) (state : State)
    → IsAtState memory storage state → state.started ≡ true
    → registry.instances ≡ kept_instances memory.registry.instances (bound_ids memory.registry.names) → registry.names ≡ memory.registry.names → are_distinct memory.registry.names ≡ true
    → ((x : ℕ) → has x released ≡ (has x (held_ids memory.registry.instances) && not (has x (held_ids registry.instances))))
    → text ≡ (codes "forgot " ++ decimal count) ++ 10 ∷ [] → count ≡ length memory.registry.instances - length registry.instances
    → Awaits is_next_type (asks.Release released) (phases.Saying text) (record memory { registry = registry }) storage (forget_turn state)
forget_awaits is_next_type memory registry count released text storage state at started kept names once gone told counted = record {
  may = tt;
  due = tt;
  suits = tt;
  then_ = λ reply new served. answers_turn (codes "forgot " ++ decimal (length state.instances - length left)) text (record memory { registry = registry }) new (record state { instances = left }) (forget_turn state) (numbered_no_feed (codes "forgot ") (length state.instances - length left) refl)
      (told ∙ ap (λ (n : ℕ). (codes "forgot " ++ decimal n) ++ 10 ∷ []) (counted ∙ (ap (λ (hs : Instances). length hs - length registry.instances) at.stands.instances ∙ ap (λ (hs : Instances). length state.instances - length hs) left_is)))
      refl (stands_served (record memory { registry = registry }) storage new (record state { instances = left }) standing served.others (λ x. served.held x ∙ held x));
}
  where
    left : Instances
    left = kept_instances state.instances (map (λ (b : Binding). b.id) state.names)

    left_is : registry.instances ≡ left
    left_is = kept ∙ (kept_by_same_names memory.registry.instances memory.registry.names state.names once at.stands.sound.distinct at.stands.names
        ∙ ap (λ (hs : Instances). kept_instances hs (bound_ids state.names)) at.stands.instances)

    standing : Stands (record memory { registry = registry }) storage (record state { instances = left })
    standing = stands_objects memory registry memory.next_id storage state state.names left state.next_id at.stands (forget_line_sound state at.stands.sound started)
        (λ name. ap (λ (bs : List Binding). id_in bs name) names ∙ at.stands.names name) left_is at.stands.next_id (omega arith)

    released_is : (x : ℕ) → has x released ≡ (has x (held_ids state.instances) && not (has x (held_ids left)))
    released_is x = gone x ∙ (ap (λ (hs : Instances). has x (held_ids hs) && not (has x (held_ids registry.instances))) at.stands.instances
        ∙ ap (λ (hs : Instances). has x (held_ids state.instances) && not (has x (held_ids hs))) left_is)

    held : (x : ℕ) → (has x storage.held && not (has x released)) ≡ has x (held_ids left)
    held x = ap (λ (b : Bool). b && not (has x released)) (at.held x)
        ∙ (ap (λ (b : Bool). has x (held_ids state.instances) && not b) (released_is x)
        ∙ given_up (has x (held_ids state.instances)) (has x (held_ids left)) (has_instance left x) (held_kept state.instances (map (λ (b : Binding). b.id) state.names) at.stands.sound.order x))
