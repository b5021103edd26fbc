-- A start is good.
use Rattle.std.proofs.Common.{◌≡◌, ℕ, zero, suc, ◌+◌, ◌≤◌, ◌<◌, ◌^◌, Bool, true, false, cond, ◌||◌, List, [], ◌∷◌, length, Option, Some, None, refl, sym, ap, ◌∙◌, subst, arith, ⊎_elim, inl, inr, map, replicate, ◌⊎◌, ◌↔◌}
use Rattle.std.specs.Prelude.{is_some}
use Rattle.std.specs.List.{filter, range_with_len}
use Rattle.std.proofs.lemmas.Bool.{eqb-true, eq-eqb, cases_lt, and_from, or_left, or_right}
use Rattle.graph_model.specs.Graph.{Graph, entity_of, lists, has_edge, edges_of, IsReached, ids}
use Rattle.graph_model.specs.Ids.{has, rises}
use Rattle.graph_model.specs.declared.entity.Entity.{Entity}
use Rattle.graph_model.specs.declared.entity.Record.{Record}
use Rattle.graph_model.proofs.Graphs.{entity_of_filter, reached_on}
use Rattle.core_steps.specs.Core.{Core, CoreChannel, Hand, Idle, channel_at, cycle_of, hand_at, held, home, is_home, is_idle_of, new_hand, no_channel, written_of}
use Rattle.core_steps.specs.Good.{ConfirmedFits, HandFits, IsGood, IsSound, MarksFit, OpenSaw, PhaseFits, SawRight, SweptMarked, channel_of, copies, flag, greys, is_kept, one_if, weights, IsOrdered, is_unwritten, report_copies, begun_of, swept_of}
use Rattle.core_steps.specs.Steps.{IsStartGraph, start, start_channel}
use Rattle.core_steps.proofs.GoodSteps.{sound_is_live}
use Rattle.core_steps.proofs.Lists.{home_below}
use Rattle.graph_model.proofs.Rising.{filter_ids, rises_filter}
use Rattle.std.proofs.lemmas.List.{length-replicate, get_or_past, get_or-replicate}
use Rattle.std.proofs.lemmas.List.FromFn.{get_or-map-range_with_len, length-map-range_with_len}
use Rattle.core_steps.proofs.ValidStores.{good_id_more}
use Rattle.core_steps.proofs.Kept.{has_edge_lists}

-- CHANNELS, FLAGS AND HANDS OF A START

start_at : (g : Graph) (m n i : ℕ) → i < n → channel_at (map (start_channel g m n) (range_with_len 0 n)) i ≡ start_channel g m n i
start_at g m n i l = get_or-map-range_with_len (start_channel g m n) 0 n i i no_channel l (omega arith)

start_many : (g : Graph) (m n : ℕ) → length (map (start_channel g m n) (range_with_len 0 n)) ≡ n
start_many g m n = length-map-range_with_len (start_channel g m n) 0 n

-- what holds of a started channel and of none holds of each
each_start : (P : CoreChannel → Type 0) (g : Graph) (m n : ℕ) → ((j : ℕ) → P (start_channel g m n j)) → P no_channel
    → (i : ℕ) → P (channel_at (map (start_channel g m n) (range_with_len 0 n)) i)
each_start P g m n here none i = ⊎_elim (λ l. subst P (sym (start_at g m n i l)) (here i))
    (λ l. subst P (sym (get_or_past (map (start_channel g m n) (range_with_len 0 n)) i no_channel (let e = start_many g m n in omega arith))) none)
    (cases_lt i n)

hand_repeated : (a b : ℕ) → hand_at (replicate a new_hand) b ≡ new_hand
hand_repeated zero b = refl
hand_repeated (suc a) zero = refl
hand_repeated (suc a) (suc b) = hand_repeated a b

reports_repeated : (reports : Hand → List ℕ) → reports new_hand ≡ [] → (a j : ℕ) → report_copies reports j (replicate a new_hand) ≡ 0
reports_repeated reports none zero j = refl
reports_repeated reports none (suc a) j = let e = reports_repeated reports none a j in let f = ap (copies j) none in omega arith

weights_repeated : (a : ℕ) → weights (replicate a new_hand) ≡ 0
weights_repeated zero = refl
weights_repeated (suc a) = let e = weights_repeated a in omega arith

greys_start : (g : Graph) (m n : ℕ) (js : List ℕ) → greys (map (start_channel g m n) js) ≡ 0
greys_start g m n [] = refl
greys_start g m n (j ∷ js) = let e = greys_start g m n js in omega arith

held_start : (g : Graph) (m n : ℕ) (js : List ℕ) → held (map (start_channel g m n) js) ≡ []
held_start g m n [] = refl
held_start g m n (j ∷ js) = held_start g m n js

once : (b : Bool) (n : ℕ) → n ≡ 0 → one_if b + n ≤ 1
once true n e = omega arith
once false n e = omega arith

no_edge : (xs : List ℕ) (x : ℕ) → xs ≡ [] → has x xs ≡ true → ⊥
no_edge xs x e h = let t : has x xs ≡ false = ap (has x) e in cc

-- the graph of a start has what its entities lead to
start_edge : (g : Graph) (next_id : ℕ) → IsStartGraph g next_id → (x y : ℕ) → has_edge g x y ≡ true → lists g y ≡ true
start_edge g next_id fits x y e = by fits.exact
  where
    by : (g ≡ []) ⊎ ((z : ℕ) → (lists g z ≡ true) ↔ IsReached g (1 ∷ []) z) → lists g y ≡ true
    by (inl none) = let t : has_edge g x y ≡ false = ap (λ (z : Graph). has_edge z x y) none in cc
    by (inr exact) = (exact y).1 (reached_on g (1 ∷ []) x y ((exact x).0 (has_edge_lists g x y e)) e)

module _ (g : Graph) (next_ m n a format : ℕ) (some_ : 0 < n) (fits : IsStartGraph g next_) where
  abbrev c : Core
  c = start g next_ m n a format

  many : length c.channels ≡ n
  many = start_many g m n

  -- the table of an id's channel has it as the graph does
  home_entity : (x : ℕ) → entity_of (channel_of c x).table x ≡ entity_of g x
  home_entity x = ap (λ (k : ℕ). entity_of (channel_at c.channels (home k x)).table x) many
      ∙ (ap (λ (z : CoreChannel). entity_of z.table x) (start_at g m n (home n x) (home_below n x some_)) ∙ (entity_of_filter (is_home n (home n x)) g x
      ∙ ap (λ (b : Bool). cond b (entity_of g x) None) (eq-eqb (home n x) (home n x) refl)))

  kept_all : (x : ℕ) → lists g x ≡ true → is_kept c x ≡ true
  kept_all x l = and_from (lists (channel_of c x).table x) (has x (channel_of c x).marked || is_idle_of 0 (channel_of c x).phase)
      (ap (λ (o : Option Entity). is_some o) (home_entity x) ∙ l)
      (or_right (has x (channel_of c x).marked) (is_idle_of 0 (channel_of c x).phase)
      (each_start (λ (z : CoreChannel). is_idle_of 0 z.phase ≡ true) g m n (λ j. refl) refl (home (length c.channels) x)))

  start_ordered : (j : ℕ) → IsOrdered (start_channel g m n j)
  start_ordered j = record {
    table = ap rises (filter_ids (is_home n j) g) ∙ rises_filter (is_home n j) (ids g) fits.ordered;
    marked = refl;
    grey = refl;
    pins = refl;
    left = refl;
  }

  start_sound : IsSound c
  start_sound = record {
    ordered = record {
      channels = each_start IsOrdered g m n start_ordered record { table = refl; marked = refl; grey = refl; pins = refl; left = refl };
      graph = fits.ordered;
      opened = refl;
    };
    table_edges = λ x y k e. or_left (is_kept c y) (is_unwritten c y)
        (kept_all y (start_edge g next_ fits x y (ap (λ (o : Option Entity). has y (edges_of o)) (sym (home_entity x)) ∙ e)));
    some_channel = subst (λ (k : ℕ). 0 < k) (sym many) some_;
    saw = λ b. subst (SawRight c.monitor) (sym (hand_repeated a b)) record { cycle = omega arith; closed = λ e f. cc; ended = omega arith };
    phases = record {
      begun_length = length-replicate n true ∙ sym many;
      swept_length = length-replicate n true ∙ sym many;
      phase = λ j l. each_start (λ (z : CoreChannel). PhaseFits true 0 z.phase) g m n (λ j. refl) refl j;
      begun_flag = λ j f. each_start (λ (z : CoreChannel). cycle_of z.phase ≡ 0) g m n (λ j. refl) refl j;
      begun_report = λ b j r. let t : has j [] ≡ true = subst (λ (h : Hand). has j h.begun_reports ≡ true) (hand_repeated a b) r in cc;
      swept_flag = λ j f. each_start (λ (z : CoreChannel). z.phase ≡ Idle 0) g m n (λ j. refl) refl j;
      swept_report = λ b j r. let t : has j [] ≡ true = subst (λ (h : Hand). has j h.swept_reports ≡ true) (hand_repeated a b) r in cc;
      begun_once = λ j. once (flag (replicate n true) j) (report_copies begun_of j c.hands) (reports_repeated begun_of refl a j);
      swept_once = λ j. once (flag (replicate n true) j) (report_copies swept_of j c.hands) (reports_repeated swept_of refl a j);
      all_begun = λ t j l. get_or-replicate n j true false (subst (λ (k : ℕ). j < k) many l);
    };
    book = record {
      begun = omega arith;
      in_hand = ap (λ (h : Hand). is_some h.opened) (hand_repeated a 0);
      number = λ o e. let t : None ≡ Some o = sym (ap (λ (h : Hand). h.opened) (hand_repeated a 0)) ∙ e in cc;
      no_other = λ b k. ap (λ (h : Hand). h.opened) (hand_repeated a b);
      part_taken = λ j l w. let t : has j [] ≡ true = subst (λ (h : Hand). has j (written_of h.opened) ≡ true) (hand_repeated a 0) w in cc;
      part_due = λ j l w. let e : (channel_at c.channels j).last_part ≡ m = ap (λ (z : CoreChannel). z.last_part)
          (start_at g m n j (subst (λ (k : ℕ). j < k) many l)) in omega arith;
      part_last = λ f j l w. ap (λ (z : CoreChannel). z.last_part) (start_at g m n j (subst (λ (k : ℕ). j < k) many l));
      channels = λ o e. let t : None ≡ Some o = sym (ap (λ (h : Hand). h.opened) (hand_repeated a 0)) ∙ e in cc;
    };
    confirmed = each_start (ConfirmedFits c.monitor) g m n (λ j. record { ended = omega arith; high = omega arith; low = λ one. omega arith }) record {
      ended = omega arith;
      high = omega arith;
      low = λ one. omega arith;
    };
    open_saw = λ b. subst (OpenSaw c.monitor) (sym (hand_repeated a b)) record { cycle = λ s t. cc; closed = λ s t. cc };
    credit = record {
      pending = let e = greys_start g m n (range_with_len 0 n) in let f = weights_repeated a in omega arith;
      hands = λ b. subst HandFits (sym (hand_repeated a b)) record { batch = omega arith; sum = omega arith };
    };
    marks = each_start MarksFit g m n (λ j. record { idle = λ e. (refl, refl); marked = λ x e. cc; grey = λ x e. cc }) record {
      idle = λ e. (refl, refl);
      marked = λ x e. cc;
      grey = λ x e. cc;
    };
    content = record {
      entity = λ x l. home_entity x;
      table_home = λ j x l e. let l' : j < n = subst (λ (k : ℕ). j < k) many l in let t = ap (λ (z : CoreChannel). lists z.table x) (start_at g m n j l') in
          ap (λ (k : ℕ). home k x) many ∙ filtered j x (sym t ∙ e);
      pins_home = λ j x l e. absurd (no_edge (channel_at c.channels j).pins x (each_start (λ (z : CoreChannel). z.pins ≡ []) g m n (λ j. refl) refl j) e);
      graph_ids = λ x l. good_id_more next_ (2 ^ 48) x fits.next_high (fits.good_ids x l);
      open_ids = λ x l. cc;
    };
    kept = record {
      pins = λ x p. absurd (no_edge (held c.channels) x (held_start g m n (range_with_len 0 n)) p);
      root = λ l. kept_all 1 l;
      open_edges = λ x y e. cc;
      graph_edges = λ x y k e. kept_all y (start_edge g next_ fits x y e);
      open_ids = λ x l. cc;
      open_old = λ x l e. cc;
    };
  }
    where
      filtered : (j x : ℕ) → lists (filter (λ (r : Record). is_home n j r.id) g) x ≡ true → home n x ≡ j
      filtered j x e = by (is_home n j x) refl (sym (ap (λ (o : Option Entity). is_some o) (entity_of_filter (is_home n j) g x)) ∙ e)
        where
          by : (b : Bool) → is_home n j x ≡ b → is_some (cond b (entity_of g x) None) ≡ true → home n x ≡ j
          by true i e = eqb-true (home n x) j i
          by false i e = cc

  pub good_start : IsGood c
  good_start = record {
    sound = start_sound;
    live = sound_is_live c start_sound;
    tricolour = λ e. cc;
    closed = λ e. record {
      no_grey = each_start (λ (z : CoreChannel). z.grey ≡ []) g m n (λ j. refl) refl;
      no_transit = λ b. ap (λ (h : Hand). h.transit) (hand_repeated a b);
      swept = each_start (λ (z : CoreChannel). SweptMarked z z.phase) g m n (λ j. tt) tt;
    };
  }
