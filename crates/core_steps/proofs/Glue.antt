-- What each event of a channel and each event of the monitor keeps, each step keeps.
use Rattle.std.proofs.Common.{◌≡◌, ℕ, ◌<◌, Bool, true, false, cond, List, [], ◌∷◌, length, Option, Some, None, refl, ap, ◌∙◌, subst}
use Rattle.std.specs.Prelude.{nat_eq, slice_get}
use Rattle.core_steps.specs.Core.{Core, CoreChannel, CoreMonitor, Hand, channel_at, hand_at, held, new_hand, no_channel}
use Rattle.core_steps.specs.Events.{Event, Step}
use Rattle.core_steps.specs.Rows.{Channel, Monitor, as_channel, as_monitor, channel_step, monitor_step}
use Rattle.core_steps.specs.Steps.{changed, finish, part_of, permits, place_of, run, step, step_of, then_run}
use Rattle.core_steps.proofs.Lists.{got}

-- an event of a channel that a core allows
pub record ChannelEvent (c : Core) (a k : ℕ) (e : Event) (y : CoreChannel) (h : Hand) : Type 0 where
  pub here : k < length c.channels
  pub mine : a < length c.hands
  pub may : permits c.book (held c.channels) a e ≡ true
  pub made : channel_step (place_of c k) (channel_at c.channels k) (hand_at c.hands a) e ≡ Some (y, h)

pub record MonitorEvent (c : Core) (a : ℕ) (e : Event) (m : CoreMonitor) (h : Hand) : Type 0 where
  pub mine : a < length c.hands
  pub may : permits c.book (held c.channels) a e ≡ true
  pub made : monitor_step c.monitor (hand_at c.hands a) e ≡ Some (m, h)

-- an allowed step is an event of a channel or of the monitor, so what holds after either holds after it
module _ (P : Core → Type 0) (c : Core) (s : Step)
    (by_channel : (y : CoreChannel) (h : Hand) → ChannelEvent c s.actor s.shard s.event y h → P (changed c s.actor s.shard (Channel y) h s.event))
    (by_monitor : (m : CoreMonitor) (h : Hand) → MonitorEvent c s.actor s.event m h → P (changed c s.actor s.shard (Monitor m) h s.event)) where
  at_channel : (d : Core) (x : CoreChannel) (h : Hand) → s.shard < length c.channels → channel_at c.channels s.shard ≡ x → s.actor < length c.hands
      → hand_at c.hands s.actor ≡ h
      → permits c.book (held c.channels) s.actor s.event ≡ true → (o : Option (CoreChannel × Hand)) → channel_step (place_of c s.shard) x h s.event ≡ o
      → finish c s (as_channel o) ≡ Some d → P d
  at_channel d x h here is mine my may None made e = cc
  at_channel d x h here is mine my may (Some r) made e = let same : changed c s.actor s.shard (Channel r.0) r.1 s.event ≡ d = cc in
      subst P same (by_channel r.0 r.1 record {
        here = here;
        mine = mine;
        may = may;
        made = ap (λ (z : CoreChannel). channel_step (place_of c s.shard) z (hand_at c.hands s.actor) s.event) is
            ∙ (ap (λ (z : Hand). channel_step (place_of c s.shard) x z s.event) my ∙ made);
      })

  at_monitor : (d : Core) (h : Hand) → s.actor < length c.hands → hand_at c.hands s.actor ≡ h → permits c.book (held c.channels) s.actor s.event ≡ true
      → (o : Option (CoreMonitor × Hand)) → monitor_step c.monitor h s.event ≡ o → finish c s (as_monitor o) ≡ Some d → P d
  at_monitor d h mine my may None made e = cc
  at_monitor d h mine my may (Some r) made e = let same : changed c s.actor s.shard (Monitor r.0) r.1 s.event ≡ d = cc in
      subst P same (by_monitor r.0 r.1 record { mine = mine; may = may; made = ap (λ (z : Hand). monitor_step c.monitor z s.event) my ∙ made })

  at_part : (d : Core) (o : Option CoreChannel) → slice_get c.channels s.shard ≡ o → (t : Bool) → (q : Option Hand) → slice_get c.hands s.actor ≡ q
      → step_of c s (part_of o t c.monitor) q ≡ Some d → P d
  at_part d None here false q mine e = cc
  at_part d None here true None mine e = cc
  at_part d None here true (Some h) mine e = let g = got c.hands s.actor h new_hand mine in
      (elim (permits c.book (held c.channels) s.actor s.event) as (λ b. permits c.book (held c.channels) s.actor s.event ≡ b
      → cond b (finish c s (as_monitor (monitor_step c.monitor h s.event))) None ≡ Some d → P d) [
        | true ↦ λ may e. at_monitor d h g.0 g.1 may (monitor_step c.monitor h s.event) refl e
        | false ↦ λ may e. cc
      ]) refl e
  at_part d (Some x) here t None mine e = cc
  at_part d (Some x) here t (Some h) mine e = let f = got c.channels s.shard x no_channel here in let g = got c.hands s.actor h new_hand mine in
      (elim (permits c.book (held c.channels) s.actor s.event) as (λ b. permits c.book (held c.channels) s.actor s.event ≡ b
      → cond b (finish c s (as_channel (channel_step (place_of c s.shard) x h s.event))) None ≡ Some d → P d) [
        | true ↦ λ may e. at_channel d x h f.0 f.1 g.0 g.1 may (channel_step (place_of c s.shard) x h s.event) refl e
        | false ↦ λ may e. cc
      ]) refl e

  pub step_gives : (d : Core) → step c s ≡ Some d → P d
  step_gives d e = at_part d (slice_get c.channels s.shard) refl (nat_eq s.shard (length c.channels)) (slice_get c.hands s.actor) refl e

-- after a step that is not allowed no run goes on
pub none_runs : (ss : List Step) (d : Core) → then_run None ss ≡ Some d → ⊥
none_runs [] d e = cc
none_runs (s ∷ ss) d e = cc

-- what each event of a channel and each event of the monitor keeps, each step and each run keeps
module _ (P : Core → Type 0)
    (by_channel : (c : Core) (a k : ℕ) (e : Event) (y : CoreChannel) (h : Hand) → P c → ChannelEvent c a k e y h → P (changed c a k (Channel y) h e))
    (by_monitor : (c : Core) (a k : ℕ) (e : Event) (m : CoreMonitor) (h : Hand) → P c → MonitorEvent c a e m h → P (changed c a k (Monitor m) h e)) where
  pub step_keeps : (c : Core) (s : Step) (d : Core) → P c → step c s ≡ Some d → P d
  step_keeps c s d p e = step_gives P c s (λ y h. by_channel c s.actor s.shard s.event y h p) (λ m h. by_monitor c s.actor s.shard s.event m h p) d e

  then_keeps : (o : Option Core) (ss : List Step) (d : Core) → ((c : Core) → o ≡ Some c → P c) → then_run o ss ≡ Some d → P d
  then_keeps None ss d p e = absurd (none_runs ss d e)
  then_keeps (Some c) [] d p e = p d e
  then_keeps (Some c) (s ∷ ss) d p e = then_keeps (step c s) ss d (λ q is. step_keeps c s q (p c refl) is) e

  pub run_keeps : (c : Core) (ss : List Step) (d : Core) → P c → run c ss ≡ Some d → P d
  run_keeps c ss d p e = then_keeps (Some c) ss d (λ q is. let same : c ≡ q = cc in subst P same p) e
