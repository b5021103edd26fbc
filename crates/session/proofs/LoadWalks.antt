-- What a loading reaches is in the graph and kept, and the ids of its objects may be held in their order.
use Rattle.std.proofs.Common.{◌≡◌, ℕ, true, false, ◌||◌, List, [], ◌∷◌, ◌++◌, inl, inr, refl, sym, ap, ◌∙◌, subst}
use Rattle.std.specs.Prelude.{nat_eq, is_some, Option}
use Rattle.std.proofs.lemmas.Bool.{eq-eqb, eqb-true, or_cases, or_left, or_right}
use Rattle.graph_model.specs.Ids.{has}
use Rattle.graph_model.specs.Graph.{Graph, IsReached, has_edge, lists}
use Rattle.graph_model.specs.Served.{IsKept, may_hold_all}
use Rattle.graph_model.specs.declared.entity.Entity.{Entity}
use Rattle.graph_model.proofs.Graphs.{reached_on, reached_start, reached_stay}
use Rattle.graph_model.proofs.IdSets.{has_append}
use Rattle.session_model.specs.Instances.{held_ids}
use Rattle.session_model.specs.Loading.{closure_of, loading_graph}
use Rattle.session_model.specs.Answer.{State}
use Rattle.session_model.specs.Sound.{AreNamedInTurn, IsSound, IsToLoad}
use Rattle.session_model.proofs.Allowing.{loaded_is_kept, loaded_may_be_held, some_edge}
use Rattle.session_model.proofs.Closures.{closure_has, loading_edge_is}
use Rattle.session_model.proofs.IdLists.{edge_is_listed}
use Rattle.session_model.proofs.Reached.{walks-reached}
use Rattle.lazy_refs.specs.Steps.{EachNamed, IsLoading, IsOutward}
use Rattle.lazy_refs.specs.Walks.{Progress}

-- the graph that a loading walks in a state
abbrev pub walked : State → Graph
walked state = loading_graph state.types state.pairs state.instances state.graph

walked_edge : (state : State) → IsSound state → (x y : ℕ) → has_edge (walked state) x y ≡ true → has_edge state.graph x y ≡ true
walked_edge state s x y edge = loading_edge_is state.types state.pairs state.instances state.next_id state.graph x y s.types s.root_spared s.graph edge

start_listed : (state : State) → IsSound state → (start : ℕ) → IsToLoad state start → lists state.graph start ≡ true
start_listed state s start (inl root) = subst (λ (z : ℕ). lists state.graph z ≡ true) (sym root.0) root.2
start_listed state s start (inr named) = s.graph.whole named.1.0 start (edge_is_listed state.graph named.1.0 start named.1.2) named.1.2

reached_listed : (state : State) (start x : ℕ) → IsSound state → IsToLoad state start → IsReached (walked state) (start ∷ []) x → lists state.graph x ≡ true
reached_listed state start x s may = reached_stay (walked state) (start ∷ []) (λ (z : ℕ). lists state.graph z ≡ true) begin
    (λ y z there edge. s.graph.whole y z there (walked_edge state s y z edge)) x
  where
    begin : (z : ℕ) → has z (start ∷ []) ≡ true → lists state.graph z ≡ true
    begin z h = elim (or_cases (nat_eq z start) false h) [
      | inl same ↦ subst (λ (w : ℕ). lists state.graph w ≡ true) (sym (eqb-true z start same)) (start_listed state s start may)
      | inr none ↦ absurd cc
    ]

-- so it is loaded with the start
reached_in_closure : (state : State) (start x : ℕ) → IsSound state → IsToLoad state start → IsReached (walked state) (start ∷ []) x
    → lists (closure_of state.types state.pairs state.instances state.graph start) x ≡ true
reached_in_closure state start x s may r =
    ap (λ (o : Option Entity). is_some o) (closure_has state.types state.pairs state.instances state.graph start x (walks-reached (walked state) (start ∷ []) x r)) ∙ reached_listed state start x s may r

-- the id that is asked for may be looked at
pub asked_is_kept : (state : State) (start : ℕ) (p : Progress) → IsSound state → IsToLoad state start → IsLoading state.types state.pairs state.instances state.graph start p
    → IsKept state.graph (held_ids state.instances) p.asked
asked_is_kept state start p s may walk = loaded_is_kept state start p.asked s may (reached_in_closure state start p.asked s may (walk.walked.reached p.asked
    (or_right (has p.asked p.done) (has p.asked (p.waiting ++ p.asked ∷ [])) (has_append p.asked p.waiting (p.asked ∷ [])
    ∙ or_right (has p.asked p.waiting) (nat_eq p.asked p.asked || false) (or_left (nat_eq p.asked p.asked) false (eq-eqb p.asked p.asked refl))))))

-- ---- ids that are named in turn

named_in_turn : (state : State) → IsSound state → (before xs : List ℕ) → EachNamed (walked state) before xs → AreNamedInTurn state.graph before xs
named_in_turn state s before [] named = tt
named_in_turn state s before (x ∷ xs) named = (some_edge state.graph before named.0.0 x named.0.1 (walked_edge state s named.0.0 x named.0.2), named_in_turn state s (x ∷ before) xs named.1)

named_reached : (g : Graph) (starts before xs : List ℕ) → ((z : ℕ) → has z before ≡ true → IsReached g starts z) → EachNamed g before xs → (z : ℕ) → has z xs ≡ true → IsReached g starts z
named_reached g starts before [] known named z h = absurd cc
named_reached g starts before (x ∷ xs) known named z h = elim (or_cases (nat_eq z x) (has z xs) h) [
  | inl same ↦ subst (IsReached g starts) (sym (eqb-true z x same)) here
  | inr later ↦ named_reached g starts (x ∷ before) xs more named.1 z later
]
  where
    here : IsReached g starts x
    here = reached_on g starts named.0.0 x (known named.0.0 named.0.1) named.0.2

    more : (w : ℕ) → has w (x ∷ before) ≡ true → IsReached g starts w
    more w k = elim (or_cases (nat_eq w x) (has w before) k) [ inl same ↦ subst (IsReached g starts) (sym (eqb-true w x same)) here | inr old ↦ known w old ]

-- the ids of the objects, in outward order, may be held
pub outward_may_be_held : (state : State) (start : ℕ) (xs : List ℕ) → IsSound state → IsToLoad state start → IsOutward (walked state) start xs → may_hold_all state.graph (held_ids state.instances) xs ≡ true
outward_may_be_held state start [] s may out = absurd out
outward_may_be_held state start (x ∷ xs) s may out = subst (λ (y : ℕ). EachNamed (walked state) (y ∷ []) xs → may_hold_all state.graph (held_ids state.instances) (y ∷ xs) ≡ true) (sym out.0) from_start out.1
  where
    from_start : EachNamed (walked state) (start ∷ []) xs → may_hold_all state.graph (held_ids state.instances) (start ∷ xs) ≡ true
    from_start named = loaded_may_be_held state start xs s may
        (λ z h. reached_in_closure state start z s may (named_reached (walked state) (start ∷ []) (start ∷ []) xs (λ w k. reached_start (walked state) (start ∷ []) w k) named z h))
        (named_in_turn state s (start ∷ []) xs named)
