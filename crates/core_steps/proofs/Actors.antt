-- One more actor, whose hand is new: steps and runs stay what they were, and a core stays good.
use Rattle.std.proofs.Common.{not, is_some, ◌≡◌, ◌≤◌, ℕ, zero, suc, Bool, true, false, cond, List, [], ◌∷◌, ◌++◌, length, length-set, set, Option, Some, None, refl, sym, ap, ◌∙◌, arith, ◌+◌, ◌&&◌, not, ◌||◌, subst, is_some, ⊎_elim, inl, inr}
use Rattle.std.specs.Prelude.{slice_get, is_some}
use Rattle.std.proofs.lemmas.Bool.{ne_eqb}
use Rattle.std.proofs.lemmas.Option.{slice_get_within}
use Rattle.core_steps.specs.Core.{Core, Hand, new_hand, written_of, open_records, home, is_marking}
use Rattle.core_steps.specs.Events.{Event, Step}
use Rattle.core_steps.specs.Rows.{Channel, Monitor, Part}
use Rattle.core_steps.specs.Steps.{book_after, changed, run, step, steps_by, then_run, with_actor}
use Rattle.core_steps.proofs.Glue.{none_runs, run_keeps}
use Rattle.core_steps.proofs.Shards.{step_is, step_made}
use Rattle.core_steps.specs.Good.{IsGood, copies, written, IsSound, is_kept, SawRight, OpenSaw, greys, HandFits, InTransit, channel_of, report_copies, begun_of, swept_of}
use Rattle.core_steps.proofs.Lists.{hand_at_end, weights_end}
use Rattle.graph_model.specs.Graph.{lists}
use Rattle.graph_model.specs.Ids.{has}
use Rattle.core_steps.proofs.Contents.{shown_by}
use Rattle.core_steps.proofs.GoodSteps.{sound_is_live}

longer : (l m : List Hand) (a : ℕ) (h : Hand) → slice_get l a ≡ Some h → slice_get (l ++ m) a ≡ Some h
longer [] m a h e = cc
longer (x ∷ l) m zero h e = e
longer (x ∷ l) m (suc a) h e = longer l m a h e

set_longer : (l m : List Hand) (a : ℕ) (h g : Hand) → slice_get l a ≡ Some h → set (l ++ m) a g ≡ set l a g ++ m
set_longer [] m a h g e = cc
set_longer (x ∷ l) m zero h g e = refl
set_longer (x ∷ l) m (suc a) h g e = ap (λ (q : List Hand). x ∷ q) (set_longer l m a h g e)

changed_more : (c : Core) (a k : ℕ) (p : Part) (h h' : Hand) (e : Event) → slice_get c.hands a ≡ Some h
    → changed (with_actor c) a k p h' e ≡ with_actor (changed c a k p h' e)
changed_more c a k (Channel x) h h' e mine = let t = set_longer c.hands (new_hand ∷ []) a h h' mine in
    λ i. record { channels = set c.channels k x; monitor = c.monitor; hands = t i; book = book_after c.book e }
changed_more c a k (Monitor x) h h' e mine = let t = set_longer c.hands (new_hand ∷ []) a h h' mine in
    λ i. record { channels = c.channels; monitor = x; hands = t i; book = book_after c.book e }

-- a step stays one where an actor was there that did not make it
pub step_more : (c : Core) (s : Step) (d : Core) → step c s ≡ Some d → step (with_actor c) s ≡ Some (with_actor d)
step_more c s d goes = let w = step_made c s d goes in
    step_is (with_actor c) s.actor s.shard s.event w.part w.part' w.hand w.hand' w.here (longer c.hands (new_hand ∷ []) s.actor w.hand w.mine) w.may w.made
    ∙ ap (λ (q : Core). Some q) (changed_more c s.actor s.shard w.part' w.hand w.hand' s.event w.mine ∙ ap with_actor w.gives)

run_more_from : (o : Option Core) (ss : List Step) (d : Core) (p : Option Core) → ((c : Core) → o ≡ Some c → p ≡ Some (with_actor c))
    → then_run o ss ≡ Some d → then_run p ss ≡ Some (with_actor d)
run_more_from None ss d p f e = absurd (none_runs ss d e)
run_more_from (Some c) [] d p f e = ap (λ (o : Option Core). then_run o []) (f c refl) ∙ ap (λ (q : Core). Some (with_actor q)) (let t : c ≡ d = cc in t)
run_more_from (Some c) (s ∷ ss) d p f e = ap (λ (o : Option Core). then_run o (s ∷ ss)) (f c refl)
    ∙ run_more_from (step c s) ss d (step (with_actor c) s) (λ q is. step_more c s q is) e

-- and so does a run
pub run_more : (c : Core) (ss : List Step) (d : Core) → run c ss ≡ Some d → run (with_actor c) ss ≡ Some (with_actor d)
run_more c ss d e = run_more_from (Some c) ss d (Some (with_actor c)) (λ q is. let t : c ≡ q = cc in ap (λ (z : Core). Some (with_actor z)) t) e

-- one more step of a run
pub run_then : (o : Option Core) (ss : List Step) (s : Step) (d e : Core) → then_run o ss ≡ Some d → step d s ≡ Some e → then_run o (ss ++ s ∷ []) ≡ Some e
run_then None ss s d e r t = absurd (none_runs ss d r)
run_then (Some c) [] s d e r t = let same : c ≡ d = cc in ap (λ (z : Core). then_run (step z s) []) same ∙ ap (λ (o : Option Core). then_run o []) t
run_then (Some c) (x ∷ ss) s d e r t = run_then (step c x) ss s d e r t

pub run_hands : (c : Core) (ss : List Step) (d : Core) → run c ss ≡ Some d → length d.hands ≡ length c.hands
run_hands c ss d = run_keeps (λ (z : Core). length z.hands ≡ length c.hands) (λ z a k e y h p ev. length-set z.hands a h ∙ p)
    (λ z a k e m h p ev. length-set z.hands a h ∙ p) c ss d refl

-- an actor that is not there at the end has made no step
pub no_steps : (c : Core) (ss : List Step) (d : Core) (a : ℕ) → run c ss ≡ Some d → length d.hands ≤ a → steps_by a ss ≡ []
no_steps c [] d a e far = refl
no_steps c (s ∷ ss) d a e far = (elim (step c s) as (λ o. step c s ≡ o → then_run o ss ≡ Some d → steps_by a (s ∷ ss) ≡ []) [
  | None ↦ λ is r. absurd (none_runs ss d r)
  | Some b ↦ λ is r. let w = step_made c s b is in let below = slice_get_within c.hands s.actor w.hand w.mine in
      let many = run_hands c (s ∷ []) b (ap (λ (q : Option Core). then_run q []) is) in let all = run_hands b ss d r in
      ap (λ (q : Bool). cond q (s ∷ steps_by a ss) (steps_by a ss)) (ne_eqb s.actor a (λ y. absurd (omega arith))) ∙ no_steps b ss d a r far
]) refl e

-- A GOOD CORE STAYS GOOD

reports_end : (reports : Hand → List ℕ) → reports new_hand ≡ [] → (j : ℕ) (hs : List Hand)
    → report_copies reports j (hs ++ new_hand ∷ []) ≡ report_copies reports j hs
reports_end reports none j [] = let e = ap (copies j) none in omega arith
reports_end reports none j (h ∷ hs) = ap (λ (n : ℕ). copies j (reports h) + n) (reports_end reports none j hs)

pub good_actor : (c : Core) → IsGood c → IsGood (with_actor c)
good_actor c good = let d = with_actor c in let s = good.sound in let H = λ (a : ℕ). hand_at_end c.hands a in
    let W : written d ≡ written c = ap (λ (h : Hand). written_of h.opened) (H 0) in
    let U = λ (x : ℕ). ap (λ (us : List ℕ). lists (open_records c.book) x && not (has (home (length c.channels) x) us)) W in
    let sound_ : IsSound d = record {
      some_channel = s.some_channel;
      ordered = record { channels = s.ordered.channels; graph = s.ordered.graph; opened = s.ordered.opened };
      table_edges = λ x y k e. ap (λ (b : Bool). is_kept c y || b) (U y) ∙ s.table_edges x y k e;
      saw = λ a. subst (SawRight c.monitor) (sym (H a)) (s.saw a);
      phases = let f = s.phases in record {
        begun_length = f.begun_length;
        swept_length = f.swept_length;
        phase = f.phase;
        begun_flag = f.begun_flag;
        begun_report = λ a j r. f.begun_report a j (subst (λ (h : Hand). has j h.begun_reports ≡ true) (H a) r);
        swept_flag = f.swept_flag;
        swept_report = λ a j r. f.swept_report a j (subst (λ (h : Hand). has j h.swept_reports ≡ true) (H a) r);
        begun_once = λ j. let e = reports_end begun_of refl j c.hands in let o = f.begun_once j in omega arith;
        swept_once = λ j. let e = reports_end swept_of refl j c.hands in let o = f.swept_once j in omega arith;
        all_begun = f.all_begun;
      };
      book = let f = s.book in record {
        begun = f.begun;
        in_hand = ap (λ (h : Hand). is_some h.opened) (H 0) ∙ f.in_hand;
        number = λ o e. f.number o (sym (ap (λ (h : Hand). h.opened) (H 0)) ∙ e);
        no_other = λ a n. ap (λ (h : Hand). h.opened) (H a) ∙ f.no_other a n;
        part_taken = λ j l w. f.part_taken j l (subst (λ (us : List ℕ). has j us ≡ true) W w);
        part_due = λ j l w. f.part_due j l (subst (λ (us : List ℕ). has j us ≡ false) W w);
        part_last = λ one j l w. f.part_last one j l (subst (λ (us : List ℕ). has j us ≡ false) W w);
        channels = λ o e. f.channels o (sym (ap (λ (h : Hand). h.opened) (H 0)) ∙ e);
      };
      confirmed = s.confirmed;
      open_saw = λ a. subst (OpenSaw c.monitor) (sym (H a)) (s.open_saw a);
      credit = record {
        pending = s.credit.pending ∙ ap (λ (n : ℕ). greys c.channels + n) (sym (weights_end c.hands));
        hands = λ a. subst HandFits (sym (H a)) (s.credit.hands a);
      };
      marks = s.marks;
      content = let f = s.content in record {
        entity = λ x l. f.entity x l ∙ ap (λ (us : List ℕ). shown_by c.book (length c.channels) us x) (sym W);
        table_home = f.table_home;
        pins_home = f.pins_home;
        graph_ids = f.graph_ids;
        open_ids = f.open_ids;
      };
      kept = let f = s.kept in record {
        pins = f.pins;
        root = f.root;
        open_edges = λ x y e. ap (λ (b : Bool). is_kept c y || b) (U y) ∙ f.open_edges x y e;
        graph_edges = f.graph_edges;
        open_ids = λ x l. ap (λ (b : Bool). is_kept c x || b) (U x) ∙ f.open_ids x l;
        open_old = f.open_old;
      };
    } in record {
      sound = sound_;
      live = sound_is_live d sound_;
      tricolour = λ e. let t = good.tricolour e in record {
        roots = t.roots;
        edges = λ x z m g f. ⊎_elim (λ q. inl q)
            (λ r. inr (⊎_elim (λ (q : InTransit c z). inl (q.0, subst (λ (h : Hand). has z h.transit ≡ true) (sym (H q.0)) q.1))
            (λ w. inr (ap (λ (b : Bool). b && (not (lists (channel_of c z).table z) && is_marking (channel_of c z).phase)) (U z) ∙ w)) r))
            (t.edges x z m g f);
      };
      closed = λ e. let t = good.closed e in record {
        no_grey = t.no_grey;
        no_transit = λ a. ap (λ (h : Hand). h.transit) (H a) ∙ t.no_transit a;
        swept = t.swept;
      };
    }
