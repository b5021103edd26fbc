-- How an event changes the cycle's number.
use Rattle.std.proofs.Common.{◌≡◌, ℕ, ◌+◌, ◌≤◌, ◌^◌, Bool, true, false, Option, Some, None, refl, sym, ap, ◌∙◌, subst, arith}
use Rattle.std.specs.Prelude.{nat_eq, slice_get, length}
use Rattle.core_steps.specs.declared.event.Event.{Event}
use Rattle.core_steps.specs.declared.state.CoreChannel.{CoreChannel}
use Rattle.core_steps.specs.declared.state.CoreMonitor.{CoreMonitor}
use Rattle.core_steps.specs.declared.state.Place.{Place}
use Rattle.core_steps.specs.Core.{Core, Hand}
use Rattle.core_steps.specs.Rows.{Channel, Monitor, Part, as_channel, as_monitor, channel_step, monitor_step, part_step}
use Rattle.core_steps.specs.Steps.{changed, part_at, part_of}
use Rattle.core_steps.proofs.Moves.{ChannelMove, MonitorMove, begins_cycle, begins_store, channel_move, closes, confirms, delivers, ends_store, marks, monitor_move, pins, pins_white, reports_begun, reports_swept, reserves, returns, sweeps, takes, tidies, unpins}
use Rattle.core_steps.proofs.Moves as move
use Rattle.shards.specs.Due.{IsEarly}
use Rattle.shards.specs.Known.{begins}

channel_begins : (p : Place) (x : CoreChannel) (h : Hand) (e : Event) (y : CoreChannel) (h' : Hand) → ChannelMove p x h e y h' → begins (Some e) ≡ 0
channel_begins p x h e y h' (move.begins b i s l) = refl
channel_begins p x h e y h' (marks b xs z g i s) = refl
channel_begins p x h e y h' (delivers b xs z g i s) = refl
channel_begins p x h e y h' (sweeps b left xs f c s) = refl
channel_begins p x h e y h' (takes o i w l c r) = refl
channel_begins p x h e y h' (confirms l) = refl
channel_begins p x h e y h' (pins i l c m) = refl
channel_begins p x h e y h' (pins_white i l c m) = refl
channel_begins p x h e y h' (unpins i) = refl
channel_begins p x h e y h' (tidies l) = refl

monitor_begins : (m : CoreMonitor) (h : Hand) (e : Event) (n : CoreMonitor) (h' : Hand) → MonitorMove m h e n h' → n.cycle ≡ m.cycle + begins (Some e)
monitor_begins m h e n h' (reserves i l) = omega arith
monitor_begins m h e n h' (returns i l) = omega arith
monitor_begins m h e n h' (begins_cycle t s) = omega arith
monitor_begins m h e n h' (reports_begun j r) = omega arith
monitor_begins m h e n h' (closes o p s b) = omega arith
monitor_begins m h e n h' (reports_swept j r) = omega arith
monitor_begins m h e n h' (begins_store op s) = omega arith
monitor_begins m h e n h' (ends_store o i s) = omega arith

-- a cycle that is begun early has a number up to 2^63
monitor_early : (m : CoreMonitor) (h : Hand) (e : Event) (n : CoreMonitor) (h' : Hand) (b : ℕ) → MonitorMove m h e n h' → IsEarly (Monitor m) e → m.cycle ≤ 2 ^ 63 + b → m.cycle + begins (Some e) ≤ 2 ^ 63 + b
monitor_early m h e n h' b (reserves i l) early le = omega arith
monitor_early m h e n h' b (returns i l) early le = omega arith
monitor_early m h e n h' b (begins_cycle t s) early le = omega arith
monitor_early m h e n h' b (reports_begun j r) early le = omega arith
monitor_early m h e n h' b (closes o p s q) early le = omega arith
monitor_early m h e n h' b (reports_swept j r) early le = omega arith
monitor_early m h e n h' b (begins_store op s) early le = omega arith
monitor_early m h e n h' b (ends_store o i s) early le = omega arith

monitor_is : (c : Core) (k : ℕ) (m : CoreMonitor) → part_at c k ≡ Some (Monitor m) → c.monitor ≡ m
monitor_is c k m = by (slice_get c.channels k) (nat_eq k (length c.channels))
  where
    by : (o : Option CoreChannel) (b : Bool) → part_of o b c.monitor ≡ Some (Monitor m) → c.monitor ≡ m
    by (Some y) b e = cc
    by None true e = let t : Monitor c.monitor ≡ Monitor m = cc in cc
    by None false e = cc

-- after an event the cycle's number is as before, or one more where it begins a cycle
pub cycle_then : (c : Core) (a k : ℕ) (p : Place) (q q' : Part) (h h' : Hand) (e : Event) → part_at c k ≡ Some q → part_step p q h e ≡ Some (q', h')
    → (changed c a k q' h' e).monitor.cycle ≡ c.monitor.cycle + begins (Some e)
cycle_then c a k p (Channel x) q' h h' e here = by (channel_step p x h e) refl
  where
    by : (o : Option (CoreChannel × Hand)) → channel_step p x h e ≡ o → as_channel o ≡ Some (q', h') → (changed c a k q' h' e).monitor.cycle ≡ c.monitor.cycle + begins (Some e)
    by None is t = cc
    by (Some r) is t = let s : (Channel r.0, r.1) ≡ (q', h') = cc in let z = channel_begins p x h e r.0 r.1 (channel_move p x h e r is) in
        let w : (changed c a k (Channel r.0) h' e).monitor.cycle ≡ c.monitor.cycle + begins (Some e) = omega arith in
        subst (λ (y : Part). (changed c a k y h' e).monitor.cycle ≡ c.monitor.cycle + begins (Some e)) (ap (λ (z : Part × Hand). z.0) s) w
cycle_then c a k p (Monitor m) q' h h' e here = by (monitor_step m h e) refl
  where
    by : (o : Option (CoreMonitor × Hand)) → monitor_step m h e ≡ o → as_monitor o ≡ Some (q', h') → (changed c a k q' h' e).monitor.cycle ≡ c.monitor.cycle + begins (Some e)
    by None is t = cc
    by (Some r) is t = let s : (Monitor r.0, r.1) ≡ (q', h') = cc in
        let z : r.0.cycle ≡ m.cycle + begins (Some e) = monitor_begins m h e r.0 r.1 (monitor_move m h e r is) in
        let w : r.0.cycle ≡ c.monitor.cycle + begins (Some e) = z ∙ ap (λ (n : CoreMonitor). n.cycle + begins (Some e)) (sym (monitor_is c k m here)) in
        subst (λ (y : Part). (changed c a k y h' e).monitor.cycle ≡ c.monitor.cycle + begins (Some e)) (ap (λ (z : Part × Hand). z.0) s) w

-- an early event keeps the bound
pub early_then : (c : Core) (k : ℕ) (p : Place) (q q' : Part) (h h' : Hand) (e : Event) (n : ℕ) → part_at c k ≡ Some q → part_step p q h e ≡ Some (q', h') → IsEarly q e
    → c.monitor.cycle ≤ 2 ^ 63 + n → c.monitor.cycle + begins (Some e) ≤ 2 ^ 63 + n
early_then c k p (Channel x) q' h h' e n here = by (channel_step p x h e) refl
  where
    by : (o : Option (CoreChannel × Hand)) → channel_step p x h e ≡ o → as_channel o ≡ Some (q', h') → IsEarly (Channel x) e → c.monitor.cycle ≤ 2 ^ 63 + n → c.monitor.cycle + begins (Some e) ≤ 2 ^ 63 + n
    by None is t early le = cc
    by (Some r) is t early le = let z = channel_begins p x h e r.0 r.1 (channel_move p x h e r is) in omega arith
early_then c k p (Monitor m) q' h h' e n here = by (monitor_step m h e) refl
  where
    by : (o : Option (CoreMonitor × Hand)) → monitor_step m h e ≡ o → as_monitor o ≡ Some (q', h') → IsEarly (Monitor m) e → c.monitor.cycle ≤ 2 ^ 63 + n → c.monitor.cycle + begins (Some e) ≤ 2 ^ 63 + n
    by None is t early le = cc
    by (Some r) is t early le = let s = ap (λ (z : CoreMonitor). z.cycle) (monitor_is c k m here) in
        let w = monitor_early m h e r.0 r.1 n (monitor_move m h e r is) early (omega arith) in omega arith

-- so does an event of the one that counts
pub bound_moves : (x y b n : ℕ) → x ≡ y + b → y ≤ 2 ^ 63 + n → x ≤ 2 ^ 63 + (n + b)
bound_moves x y b n e l = omega arith

pub bound_stays : (x y b n : ℕ) → x ≡ y + b → y + b ≤ 2 ^ 63 + n → x ≤ 2 ^ 63 + n
bound_stays x y b n e l = omega arith

pub bound_rests : (x n : ℕ) → x ≤ 2 ^ 63 + n → x ≤ 2 ^ 63 + (n + 0)
bound_rests x n l = omega arith
