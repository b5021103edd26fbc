-- After a quiet cycle that swept all channels the tables have exactly what is reached, and keep it.
use Rattle.std.proofs.Common.{◌≡◌, ℕ, ◌+◌, ◌<◌, Bool, true, false, cond, List, [], ◌∷◌, Option, Some, None, refl, sym, ap, ◌∙◌, subst, arith}
use Rattle.std.proofs.lemmas.Bool.{and_parts, and_from}
use Rattle.graph_model.specs.declared.entity.StoreOp.{StoreOp}
use Rattle.graph_model.specs.Graph.{IsReached, lists}
use Rattle.core_steps.specs.Core.{Book, Core, CoreMonitor, Hand, channel_at, graph, hand_at, held}
use Rattle.core_steps.specs.Events.{BeginCycle, Event, Step, is_quiet}
use Rattle.core_steps.specs.Good.{IsGood, PhaseFits}
use Rattle.core_steps.specs.Rows.{channel_step}
use Rattle.core_steps.specs.Settled.{HoldsReached, IsSettledFrom, IsSweptAbove, are_quiet}
use Rattle.core_steps.specs.Steps.{run, step, then_run, place_of}
use Rattle.core_steps.proofs.Books.{none_open}
use Rattle.core_steps.proofs.Glue.{none_runs, step_gives}
use Rattle.core_steps.proofs.GoodSteps.{good_step}
use Rattle.core_steps.proofs.Moves.{MonitorMove, begins_cycle, begins_store, closes, ends_store, monitor_move, reports_begun, reports_swept, reserves, returns}
use Rattle.core_steps.proofs.Quiet.{quiet_step}
use Rattle.core_steps.proofs.Settled.{settled_own, settled_step, tables_exact}

-- what holds of a good core and stays at each quiet step stays in a quiet run
module _ (P : Core → Type 0) (keeps : (c : Core) (s : Step) (d : Core) → is_quiet s.event ≡ true → IsGood c → P c → step c s ≡ Some d → P d) where
  pub quiet_run : (c : Core) (ss : List Step) (d : Core) → IsGood c → P c → are_quiet ss ≡ true → run c ss ≡ Some d → IsGood d × P d
  quiet_run c [] d good p q e = let same : c ≡ d = cc in subst (λ (z : Core). IsGood z × P z) same (good, p)
  quiet_run c (s ∷ ss) d good p q e = let t = and_parts (is_quiet s.event) (are_quiet ss) q in
      (elim (step c s) as (λ o. step c s ≡ o → then_run o ss ≡ Some d → IsGood d × P d) [
        | None ↦ λ is e. absurd (none_runs ss d e)
        | Some b ↦ λ is e. quiet_run b ss d (good_step c s b good is) (keeps c s b t.0 good p is) t.1 e
      ]) refl e

-- tables that have exactly what is reached keep it
pub holds_step : (c : Core) (s : Step) (d : Core) → is_quiet s.event ≡ true → IsGood c → HoldsReached c → step c s ≡ Some d → HoldsReached d
holds_step c s d q good holds e x = let t = quiet_step c s d q e in let next_ = good_step c s d good e in (
  λ l. let r = (holds x).0 (t.less x l) in (
    subst (λ (b : Book). IsReached (graph b) (1 ∷ held d.channels) x) (sym t.book)
        (subst (λ (ps : List ℕ). IsReached (graph c.book) (1 ∷ ps) x) (sym t.held_) r.0),
    ap (λ (b : Book). lists (graph b) x) t.book ∙ r.1,
  ),
  λ r. next_.live.is_there x r.0 r.1,
)

pub holds_run : (c : Core) (ss : List Step) (d : Core) → IsGood c → HoldsReached c → are_quiet ss ≡ true → run c ss ≡ Some d → HoldsReached d
holds_run c ss d good holds q e = (quiet_run HoldsReached holds_step c ss d good holds q e).1

pub settled_run : (b : ℕ) (c : Core) (ss : List Step) (d : Core) → IsGood c → IsSettledFrom b c → are_quiet ss ≡ true → run c ss ≡ Some d
    → IsGood d × IsSettledFrom b d
settled_run b c ss d good settled q e = quiet_run (IsSettledFrom b) (settled_step b) c ss d good settled q e

-- A CYCLE THAT BEGAN WITH A STORE OPEN

-- the cycle is the next one, is open, and has a store open
record StaysOpen (b : ℕ) (op : StoreOp) (c : Core) : Type 0 where
  cycle : c.monitor.cycle ≡ b + 1
  closed : c.monitor.closed ≡ false
  opened : c.book.opened ≡ Some op

stays_led : (b : ℕ) (op : StoreOp) (c : Core) (e : Event) (m : CoreMonitor) (h : Hand) (a : ℕ) → is_quiet e ≡ true → IsGood c → StaysOpen b op c
    → MonitorMove c.monitor (hand_at c.hands a) e m h → (m.cycle ≡ b + 1) × (m.closed ≡ false)
stays_led b op c e m h a q good s (reserves n l) = (s.cycle, s.closed)
stays_led b op c e m h a q good s (returns n l) = (s.cycle, s.closed)
stays_led b op c e m h a q good s (begins_cycle t w) = let u = s.closed in cc
stays_led b op c e m h a q good s (reports_begun j r) = (s.cycle, s.closed)
stays_led b op c e m h a q good s (closes o p same w) = let none = none_open c good.sound.book same in let some_ = s.opened in cc
stays_led b op c e m h a q good s (reports_swept j r) = (s.cycle, s.closed)
stays_led b op c e m h a q good s (begins_store op' w) = cc
stays_led b op c e m h a q good s (ends_store o i w) = cc

stays_step : (b : ℕ) (op : StoreOp) (c : Core) (s : Step) (d : Core) → is_quiet s.event ≡ true → IsGood c → StaysOpen b op c → step c s ≡ Some d
    → StaysOpen b op d
stays_step b op c s d q good o e = let t = quiet_step c s d q e in
    let led = step_gives (λ (z : Core). (z.monitor.cycle ≡ b + 1) × (z.monitor.closed ≡ false)) c s (λ y h ev. (o.cycle, o.closed))
    (λ m h ev. stays_led b op c s.event m h s.actor q good o (monitor_move c.monitor (hand_at c.hands s.actor) s.event (m, h) ev.made)) d e in
    record { cycle = led.0; closed = led.1; opened = ap (λ (z : Book). z.opened) t.book ∙ o.opened }

-- in an open cycle no channel is done with it
not_swept : (b : ℕ) (op : StoreOp) (c : Core) → IsGood c → StaysOpen b op c → IsSweptAbove b c → ⊥
not_swept b op c good s swept = let t = swept 0 good.sound.some_channel in
    let f = subst (PhaseFits c.monitor.closed c.monitor.cycle) t.2 (good.sound.phases.phase 0 good.sound.some_channel) in
    by t.0 t.1 (subst (λ (q : Bool). cond q t.0 (t.0 + 1) ≡ c.monitor.cycle) s.closed f)
  where
    by : (d : ℕ) → b < d → d + 1 ≡ c.monitor.cycle → ⊥
    by d l e = let q = s.cycle in omega arith

-- THE LAW

-- the first step begins a cycle
begun_led : (c : Core) (e : Event) (m : CoreMonitor) (h : Hand) (a : ℕ) → e ≡ BeginCycle → MonitorMove c.monitor (hand_at c.hands a) e m h
    → (m.cycle ≡ c.monitor.cycle + 1) × (m.closed ≡ false)
begun_led c e m h a is (reserves n l) = cc
begun_led c e m h a is (returns n l) = cc
begun_led c e m h a is (begins_cycle t w) = (refl, refl)
begun_led c e m h a is (reports_begun j r) = cc
begun_led c e m h a is (closes o p same w) = cc
begun_led c e m h a is (reports_swept j r) = cc
begun_led c e m h a is (begins_store op w) = cc
begun_led c e m h a is (ends_store o i w) = cc

begun_step : (c : Core) (s : Step) (d : Core) → s.event ≡ BeginCycle → step c s ≡ Some d
    → (d.monitor.cycle ≡ c.monitor.cycle + 1) × (d.monitor.closed ≡ false)
begun_step c s d is = step_gives (λ (z : Core). (z.monitor.cycle ≡ c.monitor.cycle + 1) × (z.monitor.closed ≡ false)) c s
    (λ y h ev. let none = ap (channel_step (place_of c s.shard) (channel_at c.channels s.shard) (hand_at c.hands s.actor)) (sym is) ∙ ev.made in cc)
    (λ m h ev. begun_led c s.event m h s.actor is (monitor_move c.monitor (hand_at c.hands s.actor) s.event (m, h) ev.made)) d

-- a cycle that begins in a good core, is quiet from there on and has swept all channels
pub quiet_cycle : (c : Core) (s : Step) (ss : List Step) (d : Core) → IsGood c → s.event ≡ BeginCycle → are_quiet ss ≡ true → run c (s ∷ ss) ≡ Some d
    → IsSweptAbove c.monitor.cycle d → HoldsReached d
quiet_cycle c s ss d good is q e swept = by c.book.opened refl
  where
    quiet_first : is_quiet s.event ≡ true
    quiet_first = ap is_quiet is

    opened : (op : StoreOp) → c.book.opened ≡ Some op → (o : Option Core) → step c s ≡ o → then_run o ss ≡ Some d → ⊥
    opened op o None at e = none_runs ss d e
    opened op o (Some b) at e = let t = begun_step c s b is at in let u = quiet_step c s b quiet_first at in
        let r = quiet_run (StaysOpen c.monitor.cycle op) (stays_step c.monitor.cycle op) b ss d
        (good_step c s b good at) record { cycle = t.0; closed = t.1; opened = ap (λ (z : Book). z.opened) u.book ∙ o } q e in
        not_swept c.monitor.cycle op d r.0 r.1 swept

    by : (o : Option StoreOp) → c.book.opened ≡ o → HoldsReached d
    by None none = let r = settled_run c.monitor.cycle c (s ∷ ss) d good (settled_own c good none)
        (and_from (is_quiet s.event) (are_quiet ss) quiet_first q) e in tables_exact c.monitor.cycle d r.0 r.1 swept
    by (Some op) o = absurd (opened op o (step c s) refl e)
