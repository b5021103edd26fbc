-- What a channel's or the monitor's call makes of the core that a storage stands for.
use Rattle.std.proofs.Common.{◌≡◌, ◌≢◌, ◌⊎◌, ℕ, arith, Bool, true, List, [], ◌∷◌, length, map, set, Option, Some, None, refl, sym, ap, ◌∙◌, inl, inr}
use Rattle.std.specs.Prelude.{slice_get, nat_eq, option_map}
use Rattle.std.proofs.lemmas.Bool.{cases_eq, eq-eqb}
use Rattle.std.proofs.lemmas.List.{map-set}
use Rattle.std.proofs.lemmas.Option.{slice_get-map, slice_get_past}
use Rattle.core_steps.specs.Core.{Hand, held}
use Rattle.core_steps.specs.declared.state.Book.{Book}
use Rattle.core_steps.specs.declared.event.Event.{Event}
use Rattle.core_steps.specs.declared.event.Step.{Step}
use Rattle.core_steps.specs.declared.state.CoreChannel.{CoreChannel}
use Rattle.core_steps.specs.declared.state.CoreMonitor.{CoreMonitor}
use Rattle.core_steps.specs.Rows.{Channel, Monitor, as_channel, as_monitor, channel_step, monitor_step}
use Rattle.core_steps.specs.Steps.{book_after, part_of, permits, place_in, step}
use Rattle.core_steps.proofs.Shards.{get_set_else, get_set_here, step_is}
use Rattle.channel.specs.Core.{core_of}
use Rattle.channel.specs.State.{ChannelState}
use Rattle.recovery.specs.Alone.{AloneState, core_with}

-- the only actor's event on a shard
abbrev pub alone_at : ℕ → Event → Step
alone_at k e = record { actor = 0; shard = k; event = e }

-- ---- the channels that a storage has once one of them has changed

same_some : {A : Type 0} {x y : A} → Some x ≡ Some y → x ≡ y
same_some e = cc

-- an element of the list with y at k is y, or one of before
pub set_at : {A : Type 0} (xs : List A) (k j : ℕ) (y was x : A) → slice_get xs k ≡ Some was → slice_get (set xs k y) j ≡ Some x
    → ((j ≡ k) × (x ≡ y)) ⊎ ((j ≢ k) × (slice_get xs j ≡ Some x))
set_at xs k j y was x there is = elim (cases_eq j k) [
  | inl e ↦ inl (e, same_some (sym is ∙ (ap (slice_get (set xs k y)) e ∙ get_set_here xs k was y there)))
  | inr n ↦ inr (n, sym (get_set_else xs k j y n) ∙ is)
]

-- the storage once channel j and the hand have changed
abbrev pub with_channel : {D : Type 0} → AloneState D → ℕ → ChannelState D → Hand → AloneState D
with_channel s j d h = record { channels = set s.channels j d; monitor = s.monitor; hand = h }

-- the storage once the monitor and the hand have changed
abbrev pub with_monitor : {D : Type 0} → AloneState D → CoreMonitor → Hand → AloneState D
with_monitor s m h = record { channels = s.channels; monitor = m; hand = h }

module _ {D : Type 0} (reads : D → ℕ → List ℕ) (leaves : D → ℕ → List ℕ → Bool) where
  abbrev cores : List (ChannelState D) → List CoreChannel
  cores cs = map (λ (c : ChannelState D). core_of reads c) cs

  pub channel_step_made : (s : AloneState D) (b : Book) (j : ℕ) (c d : ChannelState D) (h : Hand) (e : Event) → slice_get s.channels j ≡ Some c
      → permits b (held (cores s.channels)) 0 e ≡ true → book_after b e ≡ b
      → channel_step (place_in (length (cores s.channels)) b j) (core_of reads c) s.hand e ≡ Some (core_of reads d, h)
      → step (core_with reads leaves s b) (alone_at j e) ≡ Some (core_with reads leaves (with_channel s j d h) b)
  channel_step_made s b j c d h e there may stays made =
      let core = core_with reads leaves s b in
      let here : part_of (slice_get (cores s.channels) j) (nat_eq j (length (cores s.channels))) s.monitor ≡ Some (Channel (core_of reads c)) =
      ap (λ (o : Option CoreChannel). part_of o (nat_eq j (length (cores s.channels))) s.monitor)
      (slice_get-map (λ (x : ChannelState D). core_of reads x) s.channels j ∙ ap (λ (o : Option (ChannelState D)). option_map (λ (x : ChannelState D). core_of reads x) o) there) in
      step_is core 0 j e (Channel (core_of reads c)) (Channel (core_of reads d)) s.hand h here refl may (ap as_channel made)
      ∙ ap (λ (k : Book). Some (record { channels = set (cores s.channels) j (core_of reads d); monitor = s.monitor; hands = h ∷ []; book = k })) stays
      ∙ ap (λ (cs : List CoreChannel). Some (record { channels = cs; monitor = s.monitor; hands = h ∷ []; book = b }))
      (sym (map-set (λ (x : ChannelState D). core_of reads x) s.channels j d))

  pub monitor_step_made : (s : AloneState D) (b : Book) (m : CoreMonitor) (h : Hand) (e : Event)
      → permits b (held (cores s.channels)) 0 e ≡ true → monitor_step s.monitor s.hand e ≡ Some (m, h)
      → step (core_with reads leaves s b) (alone_at (length (cores s.channels)) e) ≡ Some (core_with reads leaves (with_monitor s m h) (book_after b e))
  monitor_step_made s b m h e may made =
      let core = core_with reads leaves s b in
      let n = length (cores s.channels) in
      let here : part_of (slice_get (cores s.channels) n) (nat_eq n n) s.monitor ≡ Some (Monitor s.monitor) =
      ap (λ (o : Option CoreChannel). part_of o (nat_eq n n) s.monitor) (slice_get_past (cores s.channels) n (omega arith))
      ∙ ap (λ (t : Bool). part_of None t s.monitor) (eq-eqb n n refl) in
      step_is core 0 n e (Monitor s.monitor) (Monitor m) s.hand h here refl may (ap as_monitor made)
