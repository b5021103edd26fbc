-- What a call that makes a step needs of a good core, and how it meets the definition of a step.
use Rattle.std.proofs.Common.{◌≡◌, ℕ, ◌+◌, ◌^◌, ◌<◌, ◌≤◌, Bool, true, false, cond, length, Option, Some, None, Result, Ok, Err, IfOk, OnErr, refl, sym, ap, ◌∙◌, subst, arith}
use Rattle.std.specs.Prelude.{nat_eq, slice_get, is_some}
use Rattle.std.proofs.lemmas.Bool.{eqb-true, eqb-false, eq-eqb}
use Rattle.std.proofs.lemmas.Result.{IfOk-weaker}
use Rattle.core_steps.specs.Core.{Core, Hand, hand_at, held, new_hand}
use Rattle.core_steps.specs.declared.state.CoreChannel.{CoreChannel}
use Rattle.core_steps.specs.declared.state.CoreMonitor.{CoreMonitor}
use Rattle.core_steps.specs.declared.event.Step.{Step}
use Rattle.core_steps.specs.Good.{IsGood, one_if, weight}
use Rattle.core_steps.specs.Rows.{Channel, Monitor, as_channel, as_monitor, channel_step, monitor_step}
use Rattle.core_steps.specs.declared.state.Place.{Place}
use Rattle.core_steps.specs.Steps.{finish, part_of, permits, place_of, step, step_of}
use Rattle.core_steps.proofs.GoodSteps.{good_step}
use Rattle.core_steps.proofs.Lists.{got, not_got}
use Rattle.core_steps.proofs.Readers.{pending_bound}
use Rattle.core_steps.proofs.Shards.{step_lengths}

pub hand_credit : (c : Core) (a : ℕ) (h : Hand) → IsGood c → slice_get c.hands a ≡ Some h → h.credit ≤ 2 ^ 33
hand_credit c a h good mine =
    let P : Hand → Type 0 = λ x. weight x ≤ 2 ^ 33 in
    let fits = subst P (got c.hands a h new_hand mine).1 (good.sound.credit.hands a).sum in
    omega (arith, fits)

pub pending_small : (c : Core) → IsGood c → length c.channels ≤ 64 → length c.hands ≤ 65536 → c.monitor.pending < 2 ^ 63
pending_small c good few_channels few_hands = let bound = pending_bound c good in omega arith

-- where a hand has a store open, more stores began than ended
pub more_begun : (c : Core) (a : ℕ) (h : Hand) → IsGood c → slice_get c.hands a ≡ Some h → is_some h.opened ≡ true → c.monitor.stores_ended < c.monitor.stores_begun
more_begun c a h good mine open_here =
    let at : is_some (hand_at c.hands a).opened ≡ true = ap (λ (x : Hand). is_some x.opened) (got c.hands a h new_hand mine).1 ∙ open_here in
    (elim (nat_eq a 0) as (λ b. nat_eq a 0 ≡ b → c.monitor.stores_ended < c.monitor.stores_begun) [
      | true ↦ λ e. let first = subst (λ (i : ℕ). is_some (hand_at c.hands i).opened ≡ true) (eqb-true a 0 e) at in
          let booked : is_some c.book.opened ≡ true = sym good.sound.book.in_hand ∙ first in
          let count : c.monitor.stores_begun ≡ c.monitor.stores_ended + 1 = good.sound.book.begun ∙ ap (λ (b : Bool). c.monitor.stores_ended + one_if b) booked in
          omega arith
      | false ↦ λ e. let none = good.sound.book.no_other a (eqb-false a 0 e) in cc
    ]) refl

module _ (c : Core) (s : Step) (h : Hand) (mine : slice_get c.hands s.actor ≡ Some h) (may : permits c.book (held c.channels) s.actor s.event ≡ true) where
  on_channel : (x : CoreChannel) (made : Option (CoreChannel × Hand)) → slice_get c.channels s.shard ≡ Some x
      → made ≡ channel_step (place_of c s.shard) x h s.event → finish c s (as_channel made) ≡ step c s
  on_channel x made here is = ap (λ (o : Option (CoreChannel × Hand)). finish c s (as_channel o)) is
      ∙ sym (ap (λ (o : Option CoreChannel). step_of c s (part_of o (nat_eq s.shard (length c.channels)) c.monitor) (slice_get c.hands s.actor)) here
      ∙ (ap (λ (o : Option Hand). step_of c s (Some (Channel x)) o) mine
      ∙ ap (λ (b : Bool). cond b (finish c s (as_channel (channel_step (place_of c s.shard) x h s.event))) None) may))

  pub made_on_channel : {E : Type 0} (r : Result (Option (CoreChannel × Hand)) E) (x y : CoreChannel) (g : Hand) (p : Place) → slice_get c.channels s.shard ≡ Some x
      → p ≡ place_of c s.shard → y ≡ x → g ≡ h → IfOk r (λ made. made ≡ channel_step p y g s.event) → IfOk r (λ made. finish c s (as_channel made) ≡ step c s)
  made_on_channel r x y g p here placed copy copied = IfOk-weaker r (λ made. made ≡ channel_step p y g s.event) (λ made. finish c s (as_channel made) ≡ step c s)
      (λ made is. on_channel x made here (is ∙ (ap (λ (q : Place). channel_step q y g s.event) placed
      ∙ (ap (λ (z : CoreChannel). channel_step (place_of c s.shard) z g s.event) copy ∙ ap (λ (z : Hand). channel_step (place_of c s.shard) x z s.event) copied))))

  on_monitor : (made : Option (CoreMonitor × Hand)) → s.shard ≡ length c.channels
      → made ≡ monitor_step c.monitor h s.event → finish c s (as_monitor made) ≡ step c s
  on_monitor made here is = ap (λ (o : Option (CoreMonitor × Hand)). finish c s (as_monitor o)) is
      ∙ sym (ap (λ (o : Option CoreChannel). step_of c s (part_of o (nat_eq s.shard (length c.channels)) c.monitor) (slice_get c.hands s.actor)) (past (slice_get c.channels s.shard) refl)
      ∙ (ap (λ (b : Bool). step_of c s (part_of None b c.monitor) (slice_get c.hands s.actor)) (eq-eqb s.shard (length c.channels) here)
      ∙ (ap (λ (o : Option Hand). step_of c s (Some (Monitor c.monitor)) o) mine
      ∙ ap (λ (b : Bool). cond b (finish c s (as_monitor (monitor_step c.monitor h s.event))) None) may)))
    where
      past : (o : Option CoreChannel) → slice_get c.channels s.shard ≡ o → slice_get c.channels s.shard ≡ None
      past None e = e
      past (Some x) e = absurd (not_got c.channels s.shard x here e)

  pub made_on_monitor : {E : Type 0} (r : Result (Option (CoreMonitor × Hand)) E) (m : CoreMonitor) (g : Hand) → s.shard ≡ length c.channels
      → m ≡ c.monitor → g ≡ h → IfOk r (λ made. made ≡ monitor_step m g s.event) → IfOk r (λ made. finish c s (as_monitor made) ≡ step c s)
  made_on_monitor r m g here copy copied = IfOk-weaker r (λ made. made ≡ monitor_step m g s.event) (λ made. finish c s (as_monitor made) ≡ step c s)
      (λ made is. on_monitor made here (is ∙ (ap (λ (z : CoreMonitor). monitor_step z g s.event) copy ∙ ap (λ (z : Hand). monitor_step c.monitor z s.event) copied)))

-- what a call that makes a step leaves: a good core with as many channels and hands
pub record GoesOn (c d : Core) : Type 0 where
  pub good : IsGood d
  pub channels : length d.channels ≡ length c.channels
  pub actors : length d.hands ≡ length c.hands

same_goes_on : (c d : Core) → IsGood c → d ≡ c → GoesOn c d
same_goes_on c d good same = subst (GoesOn c) (sym same) record { good = good; channels = refl; actors = refl }

pub call_goes_on : {E : Type 0} (c d : Core) (s : Step) (r : Result Bool E) → IsGood c → (r ≡ Ok true → step c s ≡ Some d) → (r ≡ Ok false → d ≡ c)
    → OnErr r (d ≡ c) → GoesOn c d
call_goes_on c d s (Ok true) good made refused lost = let e = made refl in
    record { good = good_step c s d good e; channels = (step_lengths c s d e).0; actors = (step_lengths c s d e).1 }
call_goes_on c d s (Ok false) good made refused lost = same_goes_on c d good (refused refl)
call_goes_on c d s (Err e) good made refused lost = same_goes_on c d good lost
