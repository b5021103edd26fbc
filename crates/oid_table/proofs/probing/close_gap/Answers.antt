-- Each turn moves a key back or leaves it, and the scan is one place further.
use Rattle.std.proofs.Common.{refl, sym, ap, ◌∙◌, Some, arith}
use Rattle.std.proofs.lemmas.Option.{slice_get-get_or, slice_get_within}
use Rattle.oid_table.proofs.GapLemmas.{IsScanned-start, IsScanned-stay, IsScanned-swap, IsReached-from_scan, contents_of-swap, count-swap, fewer_left}
use Rattle.oid_table.proofs.probing.close_gap.Goals as goal
use Rattle.oid_table.proofs.probing.close_gap.Goals.{then-distance, else-distance}

pub scan-init : goal.scan-init
scan-init g c = record {
  scanned = rw c.next-place.ensures.value (IsScanned-start c.args.slots.now c.args.gap c.requires.gap c.requires.reached c.requires.other);
  places = refl;
  contents = refl;
  count = refl;
}

pub distance-requires-clause-to : goal.distance-requires-clause-to
distance-requires-clause-to g c = rw c.scan.invariant.places (slice_get_within c.scan.slots c.scan.gap _ c.scan.invariant.scanned.gap_empty)

pub swap-requires-clause-a_in_bounds : goal.swap-requires-clause-a_in_bounds
swap-requires-clause-a_in_bounds g c = slice_get_within c.scan.slots c.scan.gap _ c.scan.invariant.scanned.gap_empty

pub scan-smaller : goal.scan-smaller
scan-smaller g c =
    let slots = c.scan.slots in
    let full = slice_get-get_or slots c.scan.place c.index-slots-place.result c.scan.invariant.scanned.inside ∙ ap Some c.in-Full.is in
    let start_in = rw c.scan.invariant.places at (slice_get_within c.args.slots.now c.args.gap _ c.requires.gap) in
    let left = fewer_left slots c.args.gap c.scan.gap c.scan.place start_in c.scan.invariant.scanned c.in-Full.key c.in-Full.field-1 full in
    rw (c.next-place-in-Full.ensures.value, c.scan.invariant.places) left

pub scan-preserved : goal.scan-preserved
scan-preserved g c =
    let slots = c.scan.slots in
    let full = slice_get-get_or slots c.scan.place c.index-slots-place.result c.scan.invariant.scanned.inside ∙ ap Some c.in-Full.is in
    let start_in = rw c.scan.invariant.places at (slice_get_within c.args.slots.now c.args.gap _ c.requires.gap) in
    let s = c.scan.invariant.scanned in
    elim c.if-distance.branch [
      | then-distance w ↦
          let back = rw (c.distance.ensures.value, c.distance-in-Full.ensures.value, c.home-home.ensures.value, c.scan.invariant.places) at w.if-distance.true in
          let after = w.slots-is ∙ w.swap.ensures.after in
          record {
            scanned = rw (after, w.gap-is, c.next-place-in-Full.ensures.value, c.scan.invariant.places) (IsScanned-swap slots c.args.gap c.scan.gap c.scan.place start_in s c.in-Full.key c.in-Full.field-1 full back);
            places = c.scan.invariant.places ∙ sym c.if-distance.auto.slots;
            contents = rw after (contents_of-swap slots c.args.gap c.scan.gap c.scan.place start_in s c.in-Full.key c.in-Full.field-1 full back) ∙ c.scan.invariant.contents;
            count = rw after (count-swap slots c.args.gap c.scan.gap c.scan.place start_in s c.in-Full.key c.in-Full.field-1 full back) ∙ c.scan.invariant.count;
          }
      | else-distance w ↦
          let not_back = rw (c.distance.ensures.value, c.distance-in-Full.ensures.value, c.home-home.ensures.value, c.scan.invariant.places) at w.if-distance.false in
          record {
            scanned = rw (w.slots-is, w.gap-is, c.next-place-in-Full.ensures.value, c.scan.invariant.places)
                (IsScanned-stay slots c.args.gap c.scan.gap c.scan.place start_in s c.in-Full.key c.in-Full.field-1 full (λ back. omega arith));
            places = c.scan.invariant.places ∙ sym c.if-distance.auto.slots;
            contents = rw w.slots-is c.scan.invariant.contents;
            count = rw w.slots-is c.scan.invariant.count;
          }
    ]

pub returns-clause-reached : goal.returns-clause-reached
returns-clause-reached g c =
    let slots = c.scan.slots in
    let read = slice_get-get_or slots c.scan.place c.index-slots-place.result c.scan.invariant.scanned.inside in
    let start_in = rw c.scan.invariant.places at (slice_get_within c.args.slots.now c.args.gap _ c.requires.gap) in
    IsReached-from_scan slots c.args.gap c.scan.gap c.scan.place start_in c.scan.invariant.scanned (read ∙ ap Some c.in_default.is)
