-- THE LAW: an allowed step keeps a core good.
use Rattle.std.proofs.Common.{◌≡◌, ℕ, ◌<◌, true, List, ◌∷◌, length, length-set, Some, sym, ◌∙◌, subst, ⊎_elim}
use Rattle.std.specs.Prelude.{nat_eq}
use Rattle.std.proofs.lemmas.Bool.{eqb-true, or_cases}
use Rattle.graph_model.specs.Graph.{lists}
use Rattle.graph_model.specs.Ids.{has}
use Rattle.graph_model.proofs.Graphs.{reached_stay}
use Rattle.core_steps.specs.Core.{Core, CoreChannel, CoreMonitor, Hand, channel_at, graph, hand_at, held}
use Rattle.core_steps.specs.Events.{Event, Step}
use Rattle.core_steps.specs.Good.{IsGood, IsLive, IsLiveId, IsSound, KeptFits, is_kept}
use Rattle.core_steps.specs.Rows.{Channel, Monitor}
use Rattle.core_steps.specs.Steps.{changed, run, step}
use Rattle.core_steps.proofs.Books.{book_channel, book_monitor}
use Rattle.core_steps.proofs.Closed.{closed_channel, closed_monitor, colour_channel, colour_monitor}
use Rattle.core_steps.proofs.Confirmed.{confirmed_channel, confirmed_monitor, open_saw_channel, open_saw_monitor}
use Rattle.core_steps.proofs.Contents.{content_channel, content_monitor}
use Rattle.core_steps.proofs.Credits.{GreyFits, credit_channel, credit_monitor}
use Rattle.core_steps.proofs.Glue.{ChannelEvent, MonitorEvent, run_keeps, step_keeps}
use Rattle.core_steps.proofs.Kept.{kept_listed, table_edges_kept, has_edge_lists}
use Rattle.core_steps.proofs.KeptSteps.{kept_channel, kept_monitor}
use Rattle.core_steps.proofs.Marks.{marks_channel}
use Rattle.core_steps.proofs.Phases.{phases_channel, phases_monitor, sweep_cycle}
use Rattle.core_steps.proofs.Views.{views_channel, views_monitor}
use Rattle.core_steps.proofs.Ordered.{ordered_channel, ordered_monitor}

-- what is reached is kept where the graph has it
pub reached_kept : (c : Core) → KeptFits c → (x : ℕ) → IsLiveId c x → lists (graph c.book) x ≡ true → is_kept c x ≡ true
reached_kept c f = reached_stay (graph c.book) (1 ∷ held c.channels) (λ (x : ℕ). lists (graph c.book) x ≡ true → is_kept c x ≡ true)
    (λ x s l. ⊎_elim (λ one. let same = eqb-true x 1 one in
    subst (λ (y : ℕ). is_kept c y ≡ true) (sym same) (f.root (subst (λ (y : ℕ). lists (graph c.book) y ≡ true) same l))) (λ h. f.pins x h)
    (or_cases (nat_eq x 1) (has x (held c.channels)) s))
    (λ x y p e l. f.graph_edges x y (p (has_edge_lists (graph c.book) x y e)) e)

-- a sound core is live
pub sound_is_live : (c : Core) → IsSound c → IsLive c
sound_is_live c s = record {
  is_there = λ x r l. kept_listed c x (reached_kept c s.kept x r l);
  entity = λ x r l. s.content.entity x (kept_listed c x (reached_kept c s.kept x r l));
}

grey_fits : (c : Core) (a k : ℕ) → IsGood c → k < length c.channels → GreyFits (channel_at c.channels k) (hand_at c.hands a)
grey_fits c a k good b = record {
  idle = λ i. ((good.sound.marks k).idle i).1;
  swept = λ d left f s t. let cyc = sweep_cycle (channel_at c.channels k) d c.monitor.cycle c.monitor.closed left f (good.sound.phases.phase k b) in
      (good.closed ((good.sound.saw a).closed (t ∙ cyc) s)).no_grey k;
}

sound_channel : (c : Core) (a k : ℕ) (e : Event) (y : CoreChannel) (h : Hand) → IsGood c → ChannelEvent c a k e y h → IsSound (changed c a k (Channel y) h e)
sound_channel c a k e y h good ev = let s = good.sound in let content = content_channel c a k e y h s.book s.content ev in
    let kept = kept_channel c a k e y h good ev in record {
      some_channel = subst (λ (n : ℕ). 0 < n) (sym (length-set c.channels k y)) s.some_channel;
      ordered = ordered_channel c a k e y h s.marks s.ordered ev;
      saw = views_channel c a k e y h s.saw ev;
      phases = phases_channel c a k e y h s.saw s.phases ev;
      book = book_channel c a k e y h s.book ev;
      confirmed = confirmed_channel c a k e y h s.saw s.book s.confirmed ev;
      open_saw = open_saw_channel c a k e y h s.open_saw ev;
      credit = credit_channel c a k e y h (grey_fits c a k good ev.here) s.credit ev;
      marks = marks_channel c a k e y h s.marks ev;
      content = content;
      kept = kept;
      table_edges = λ x z. table_edges_kept (changed c a k (Channel y) h e) x z content kept;
    }

sound_monitor : (c : Core) (a k : ℕ) (e : Event) (m : CoreMonitor) (h : Hand) → IsGood c → MonitorEvent c a e m h → IsSound (changed c a k (Monitor m) h e)
sound_monitor c a k e m h good ev = let s = good.sound in let content = content_monitor c a k e m h s.some_channel s.book s.content ev in
    let kept = kept_monitor c a k e m h good ev in record {
      some_channel = s.some_channel;
      ordered = ordered_monitor c a k e m h s.ordered ev;
      saw = views_monitor c a k e m h s.saw ev;
      phases = phases_monitor c a k e m h s.phases ev;
      book = book_monitor c a k e m h s.book s.some_channel s.phases.begun_length ev;
      confirmed = confirmed_monitor c a k e m h s.confirmed ev;
      open_saw = open_saw_monitor c a k e m h s.book s.open_saw ev;
      credit = credit_monitor c a k e m h s.credit ev;
      marks = s.marks;
      content = content;
      kept = kept;
      table_edges = λ x z. table_edges_kept (changed c a k (Monitor m) h e) x z content kept;
    }

good_channel : (c : Core) (a k : ℕ) (e : Event) (y : CoreChannel) (h : Hand) → IsGood c → ChannelEvent c a k e y h → IsGood (changed c a k (Channel y) h e)
good_channel c a k e y h good ev = let s = sound_channel c a k e y h good ev in record {
  sound = s;
  live = sound_is_live (changed c a k (Channel y) h e) s;
  tricolour = λ open_. colour_channel c a k e y h good open_ ev;
  closed = λ closed. closed_channel c a k e y h good closed ev;
}

good_monitor : (c : Core) (a k : ℕ) (e : Event) (m : CoreMonitor) (h : Hand) → IsGood c → MonitorEvent c a e m h → IsGood (changed c a k (Monitor m) h e)
good_monitor c a k e m h good ev = let s = sound_monitor c a k e m h good ev in record {
  sound = s;
  live = sound_is_live (changed c a k (Monitor m) h e) s;
  tricolour = λ open_. colour_monitor c a k e m h good open_ ev;
  closed = λ closed. closed_monitor c a k e m h good closed ev;
}

-- an allowed step keeps a core good
pub good_step : (c : Core) (s : Step) (c' : Core) → IsGood c → step c s ≡ Some c' → IsGood c'
good_step = step_keeps IsGood good_channel good_monitor

-- and so does a run
pub good_run : (c : Core) (ss : List Step) (c' : Core) → IsGood c → run c ss ≡ Some c' → IsGood c'
good_run = run_keeps IsGood good_channel good_monitor
