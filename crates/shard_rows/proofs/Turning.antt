-- What turns on units in memory are.
use Rattle.std.proofs.Common.{◌≡◌, ◌≢◌, ℕ, true, false, List, [], ◌∷◌, Some, None, Option, refl, sym, ap, ◌∙◌, subst, inl, inr, lit≤}
use Rattle.core_steps.specs.Core.{Hand, in_any}
use Rattle.core_steps.specs.declared.state.CoreMonitor.{CoreMonitor}
use Rattle.core_steps.specs.declared.event.Event.{Event}
use Rattle.core_steps.specs.Events.{is_worker}
use Rattle.core_steps.specs.Rows as core
use Rattle.core_steps.specs.Rows.{Part, as_channel, as_monitor, channel_step, monitor_step}
use Rattle.core_steps.specs.Steps.{permits, place_in}
use Rattle.core_steps.specs.Told.{Told}
use Rattle.shards.specs.Backed.{next_id_then}
use Rattle.shards.specs.Due.{IsEarly, NothingIsDue}
use Rattle.shards.specs.Known.{Known, book_then, gave}
use Rattle.shards.specs.Plays.{Makes, Rests, Returns}
use Rattle.shard_rows.specs.declared.units.EmptyChannel.{EmptyChannel}
use Rattle.shard_rows.specs.declared.units.MemoryUnit.{MemoryUnit}
use Rattle.shard_rows.specs.declared.units.MemoryUnit.TheVariants.{Channel, Monitor}
use Rattle.shard_rows.specs.Units.{IsAlike, IsPlain, core_of, is_free, told_of}
use Rattle.shard_rows.proofs.Events.{free_may, next_monitor}

-- what a unit in memory tells besides its part never changes
pub stays : (v : Known MemoryUnit) (u u' : MemoryUnit) (h : Hand) → Returns v (told_of u) (told_of u') h
stays v (Channel c l) (Channel c' l') h = record { goes_on = record { faults = lit≤ tt; full = λ e. e; failed = λ e f. cc }; ends = inl refl; tells = refl; others = λ n. refl }
stays v (Channel c l) (Monitor m' l') h = record { goes_on = record { faults = lit≤ tt; full = λ e. e; failed = λ e f. cc }; ends = inl refl; tells = refl; others = λ n. refl }
stays v (Monitor m l) (Channel c' l') h = record { goes_on = record { faults = lit≤ tt; full = λ e. e; failed = λ e f. cc }; ends = inl refl; tells = refl; others = λ n. refl }
stays v (Monitor m l) (Monitor m' l') h = record { goes_on = record { faults = lit≤ tt; full = λ e. e; failed = λ e f. cc }; ends = inl refl; tells = refl; others = λ n. refl }

pub alike : (v w : Known MemoryUnit) (k : ℕ) (t t' : Told) (h : Hand) (o : Option Event) → w ≡ gave v k t t' h o
    → (v.tells ≡ true → IsPlain v.desk.book → IsPlain (book_then v.desk.book o)) → IsAlike v w
alike v w k t t' h o is plain = subst (λ (z : Known MemoryUnit). IsAlike v z) (sym is) (refl, refl, refl, refl, plain)

-- an event on the monitor
pub made_by : (v : Known MemoryUnit) (k : ℕ) (u : MemoryUnit) (m m' : CoreMonitor) (h h' : Hand) (e : Event) (l l' : Unit {0}) → u ≡ Monitor m l → v.own.hand ≡ h
    → (v.own.actor ≢ 0 → is_worker e ≡ true) → permits v.desk.book (in_any v.desk.pins) v.own.actor e ≡ true → (v.own.actor ≢ 0 → IsEarly (core.Monitor m) e)
    → monitor_step m h e ≡ Some (m', h') → Makes v k (told_of u) (told_of (Monitor m' l')) h' e
made_by v k u m m' h h' e l l' is hand who may early made =
    subst (λ (w : MemoryUnit). Makes v k (told_of w) (told_of (Monitor m' l')) h' e) (sym is) record {
      who = who;
      may = may;
      part = core.Monitor m;
      was = refl;
      new_part = core.Monitor m';
      is = refl;
      made = ap as_monitor (subst (λ (g : Hand). monitor_step m g e ≡ Some (m', h')) (sym hand) made);
      next_id = sym (next_monitor m m' h h' v.desk.book e made);
      early = early;
    }

-- an event on a channel
pub made_on : (v : Known MemoryUnit) (k : ℕ) (u : MemoryUnit) (c c' : EmptyChannel) (h h' : Hand) (e : Event) (l l' : Unit {0}) → u ≡ Channel c l → v.own.hand ≡ h
    → (v.own.actor ≢ 0 → is_worker e ≡ true) → is_free e ≡ true → next_id_then v.desk.book (Some e) 1024 ≡ 1024
    → channel_step (place_in v.channels v.desk.book k) (core_of c) h e ≡ Some (core_of c', h') → Makes v k (told_of u) (told_of (Channel c' l')) h' e
made_on v k u c c' h h' e l l' is hand who free next made =
    subst (λ (w : MemoryUnit). Makes v k (told_of w) (told_of (Channel c' l')) h' e) (sym is) record {
      who = who;
      may = free_may v.desk.book (in_any v.desk.pins) v.own.actor e free;
      part = core.Channel (core_of c);
      was = refl;
      new_part = core.Channel (core_of c');
      is = refl;
      made = ap as_channel (subst (λ (g : Hand). channel_step (place_in v.channels v.desk.book k) (core_of c) g e ≡ Some (core_of c', h')) (sym hand) made);
      next_id = sym next;
      early = λ n. tt;
    }

-- a turn without an event
pub rested : (v : Known MemoryUnit) (k : ℕ) (u : MemoryUnit) (c c' : EmptyChannel) (h h' : Hand) (l l' : Unit {0}) → u ≡ Channel c l → v.own.hand ≡ h → c' ≡ c → h' ≡ h
    → (v.own.actor ≢ 0 → NothingIsDue (place_in v.channels v.desk.book k) (told_of (Channel c l)) h) → Rests v k (told_of u) (told_of (Channel c' l')) h'
rested v k u c c' h h' l l' is hand same held due =
    subst (λ (w : MemoryUnit). Rests v k (told_of w) (told_of (Channel c' l')) h') (sym is)
    (subst (λ (x : EmptyChannel). Rests v k (told_of (Channel c l)) (told_of (Channel x l')) h') (sym same)
    (subst (λ (g : Hand). Rests v k (told_of (Channel c l)) (told_of (Channel c l')) g) (sym held)
    record { part = refl; hand = sym hand; next_id = refl; due = due }))
