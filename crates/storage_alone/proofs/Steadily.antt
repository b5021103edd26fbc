-- A storage is steady still once a channel, the monitor and the hand have changed.
use Rattle.std.proofs.Common.{◌≡◌, ℕ, ◌<◌, ◌≤◌, ◌^◌, arith, List, length, set, Some, sym, ap, subst, ◌∙◌, ⊎_elim}
use Rattle.std.specs.Prelude.{slice_get}
use Rattle.std.proofs.lemmas.List.{length-set}
use Rattle.call_counts.specs.Counts.{Rose}
use Rattle.core_steps.specs.Core.{Hand}
use Rattle.core_steps.specs.declared.state.CoreMonitor.{CoreMonitor}
use Rattle.core_steps.proofs.Shards.{get_set_here}
use Rattle.channel.specs.State.{ChannelState}
use Rattle.recovery.specs.Alone.{AloneState}
use Rattle.storage_alone.specs.Faults.{IsCalm, NoneFell, SomeRose}
use Rattle.storage_alone.specs.Steady.{IsSteady, IsSteadyChannel}
use Rattle.storage_alone.proofs.Events.{set_at}
use Rattle.storage_alone.proofs.Pinned.{PaysOnly}

some_one : {A : Type 0} {x y : A} → Some x ≡ Some y → x ≡ y
some_one e = cc

module _ {D : Type 0} where
  pub steady_on : (s : AloneState D) (j : ℕ) (c d : ChannelState D) (m : CoreMonitor) (h : Hand) → IsSteady s → slice_get s.channels j ≡ Some c
      → IsSteadyChannel (length s.channels) j s.monitor.stores_ended d → PaysOnly s.monitor s.hand m h → m.pending ≡ 0 → h.credit ≡ 0
      → IsSteady (record { channels = set s.channels j d; monitor = m; hand = h })
  steady_on s j c d m h steady there is pays pending credit = let long = length-set s.channels j d in record {
    some = subst (λ (n : ℕ). 0 < n) (sym long) steady.some;
    few = subst (λ (n : ℕ). n ≤ 64) (sym long) steady.few;
    channels = λ i x at. subst (λ (n : ℕ). IsSteadyChannel n i m.stores_ended x) (sym long)
        (subst (λ (k : ℕ). IsSteadyChannel (length s.channels) i k x) (sym pays.stores_ended)
        (⊎_elim
        (λ t. subst (λ (k : ℕ). IsSteadyChannel (length s.channels) k s.monitor.stores_ended x) (sym t.0)
        (subst (λ (z : ChannelState D). IsSteadyChannel (length s.channels) j s.monitor.stores_ended z) (sym t.1) is))
        (λ t. steady.channels i x t.1)
        (set_at s.channels j i d c x there at)));
    flags = ap length pays.begun ∙ (steady.flags ∙ sym long);
    none_open = pays.opened ∙ steady.none_open;
    all_ended = pays.stores_begun ∙ (steady.all_ended ∙ sym pays.stores_ended);
    most = subst (λ (n : ℕ). n ≤ 2 ^ 63) (sym pays.stores_ended) steady.most;
    no_credit = credit;
    none_pending = pending;
  }

  -- ---- counts of faults

  pub none_fell : (faults : D → ℕ) (s t : AloneState D) (j : ℕ) (c d : ChannelState D) → slice_get s.channels j ≡ Some c → t.channels ≡ set s.channels j d
      → faults c.files.disk ≤ faults d.files.disk → NoneFell faults s t
  none_fell faults s t j c d there is le = record {
    many = ap length is ∙ length-set s.channels j d;
    counts = λ i x y was now. ⊎_elim
        (λ e. let same : x ≡ c = some_one (sym was ∙ (ap (slice_get s.channels) e.0 ∙ there)) in
        subst (λ (z : ChannelState D). faults x.files.disk ≤ faults z.files.disk) (sym e.1)
        (subst (λ (z : ChannelState D). faults z.files.disk ≤ faults d.files.disk) (sym same) le))
        (λ e. let same : x ≡ y = some_one (sym was ∙ e.1) in subst (λ (z : ChannelState D). faults x.files.disk ≤ faults z.files.disk) same (omega arith))
        (set_at s.channels j i d c y there (ap (λ (l : List (ChannelState D)). slice_get l i) (sym is) ∙ now));
  }

  pub calm_still : (faults : D → ℕ) (s t : AloneState D) (j : ℕ) (c d : ChannelState D) → slice_get s.channels j ≡ Some c → t.channels ≡ set s.channels j d
      → faults d.files.disk ≡ faults c.files.disk → IsCalm faults s t
  calm_still faults s t j c d there is eq i x y was now = ⊎_elim
      (λ e. let same : x ≡ c = some_one (sym was ∙ (ap (slice_get s.channels) e.0 ∙ there)) in
      ap (λ (z : ChannelState D). faults z.files.disk) e.1 ∙ (eq ∙ ap (λ (z : ChannelState D). faults z.files.disk) (sym same)))
      (λ e. ap (λ (z : ChannelState D). faults z.files.disk) (some_one (sym e.1 ∙ was)))
      (set_at s.channels j i d c y there (ap (λ (l : List (ChannelState D)). slice_get l i) (sym is) ∙ now))

  pub some_rose : (faults : D → ℕ) (s t : AloneState D) (j : ℕ) (c d : ChannelState D) → slice_get s.channels j ≡ Some c → t.channels ≡ set s.channels j d
      → Rose (faults c.files.disk) (faults d.files.disk) → SomeRose faults s t
  some_rose faults s t j c d there is rose = record {
    number = j;
    before = c;
    behind = d;
    was_there = there;
    is_there = ap (λ (l : List (ChannelState D)). slice_get l j) is ∙ get_set_here s.channels j c d there;
    rose = rose;
  }
