-- The event of a part that is stored.
use Rattle.std.proofs.Common.{◌≡◌, ◌≤◌, ◌+◌, ℕ, Bool, true, false, not, ◌&&◌, nat_eq, length, Option, Some, None, refl, sym, ap, ◌∙◌, arith}
use Rattle.std.specs.Prelude.{nat_lt}
use Rattle.std.proofs.lemmas.Bool.{and_from, eq-eqb, le-leb, lt-ltb}
use Rattle.graph_model.specs.Ids.{has}
use Rattle.graph_model.specs.Graph.{ids}
use Rattle.core_steps.specs.declared.state.CoreChannel.{CoreChannel}
use Rattle.core_steps.specs.declared.state.OpenStore.{OpenStore}
use Rattle.core_steps.specs.declared.state.Place.{Place}
use Rattle.core_steps.specs.declared.event.Event.TheVariants.{StorePart}
use Rattle.core_steps.specs.Core.{Hand, is_idle, written_of}
use Rattle.core_steps.specs.Rows.{channel_step, given, may_take, part_given, part_marked, part_taken, store_part}
use Rattle.channel.proofs.Rest.{unmarked}
use Rattle.core_hands.specs.OpenStores.{channels_of, number_of, with_part}

is_given : {A : Type 0} (test : Bool) (x : A) → test ≡ true → given test x ≡ Some x
is_given test x e = rw e refl

-- what the event asks of the channel and the hand
pub record MayTake (p : Place) (core : CoreChannel) (hand : Hand) (number : ℕ) : Type 0 where
  pub idle : is_idle core.phase ≡ true
  pub number_is : number_of hand.opened ≡ Some number
  pub in_store : has p.number (channels_of hand.opened) ≡ true
  pub not_yet : has p.number (written_of hand.opened) ≡ false
  pub next : number ≡ core.last_part + 1
  pub confirmed : core.confirmed ≡ core.last_part
  pub credit : length p.records ≤ hand.credit

module _ (p : Place) (core : CoreChannel) (hand : Hand) (number : ℕ) (may : MayTake p core hand number) where
  taken_from : (o : Option OpenStore) → number_of o ≡ Some number → has p.number (channels_of o) ≡ true → has p.number (written_of o) ≡ false
      → store_part p o core hand ≡ Some (part_taken p number core, record hand { opened = with_part p.number o })
  taken_from None number_is in_store not_yet = absurd cc
  taken_from (Some o) number_is in_store not_yet =
      let same : o.number ≡ number = cc in
      let first : (has p.number o.channels && not (has p.number o.written)) ≡ true = and_from (has p.number o.channels) (not (has p.number o.written)) in_store (ap not not_yet) in
      let older : nat_lt core.last_part o.number ≡ true = lt-ltb core.last_part o.number (omega (arith, same, may.next)) in
      let is : may_take p o core hand ≡ true =
      and_from (has p.number o.channels && not (has p.number o.written)) _ first
      (and_from (nat_lt core.last_part o.number) _ older
      (and_from (nat_eq core.confirmed core.last_part) _ (eq-eqb core.confirmed core.last_part may.confirmed) (le-leb (length p.records) hand.credit may.credit))) in
      is_given (may_take p o core hand) (part_marked (ids p.records) core.phase (part_taken p o.number core, part_given p o hand)) is
      ∙ ap (λ (r : CoreChannel × Hand). Some r) (unmarked (ids p.records) core.phase (part_taken p o.number core, part_given p o hand) may.idle)
      ∙ ap (λ (n : ℕ). Some (part_taken p n core, part_given p o hand)) same

  pub part_event : (core' : CoreChannel) (hand' : Hand) → core' ≡ part_taken p number core → hand' ≡ record hand { opened = with_part p.number hand.opened } → channel_step p core hand
      StorePart ≡ Some (core', hand')
  part_event core' hand' core_is hand_is =
      taken_from hand.opened may.number_is may.in_store may.not_yet
      ∙ ap (λ (x : CoreChannel). Some (x, record hand { opened = with_part p.number hand.opened })) (sym core_is) ∙ ap (λ (h : Hand). Some (core', h)) (sym hand_is)
