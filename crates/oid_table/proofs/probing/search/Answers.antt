-- A search ends at the key, or at an empty place which it would have passed.
use Rattle.std.proofs.Common.{Some, refl, ap, ◌∙◌, arith, length}
use Rattle.std.proofs.lemmas.Option.{slice_get_read}
use Rattle.oid_table.specs.Distances.{home_of}
use Rattle.oid_table.specs.Slots.{Holds}
use Rattle.oid_table.proofs.DistanceLemmas.{distance-next_place, home_of-lt}
use Rattle.oid_table.proofs.ReachLemmas.{Lacks-from_empty, goes_on, passed_more}
use Rattle.oid_table.proofs.probing.search.Goals as goal

pub returns-in-Empty-clause-searched : goal.returns-in-Empty-clause-searched
returns-in-Empty-clause-searched g c =
    let read = slice_get_read c.args.slots.now _ c.probe.place _ refl c.probe.invariant.inside c.index-slots-place.is in
    let empty = read ∙ ap Some c.in-Empty.is in
    (record { empty = empty; passed = c.probe.invariant.passed }, Lacks-from_empty c.args.slots.now c.probe.place c.args.key c.requires.reached empty c.probe.invariant.passed)

pub returns-in-Full-clause-searched : goal.returns-in-Full-clause-searched
returns-in-Full-clause-searched g c =
    let read = slice_get_read c.args.slots.now _ c.probe.place _ refl c.probe.invariant.inside c.index-slots-place.is in
    let same = c.if-stored-key.true in
    record { value = c.in-Full.field-1; full = cc }

pub probe-smaller : goal.probe-smaller
probe-smaller g c =
    let slots = c.args.slots.now in
    let read = slice_get_read slots _ c.probe.place _ refl c.probe.invariant.inside c.index-slots-place.is in
    let held : Holds slots c.probe.place c.in-Full.stored = record { value = c.in-Full.field-1; full = read ∙ ap Some c.in-Full.is } in
    let more = goes_on slots c.probe.place c.args.key c.in-Full.stored c.probe.invariant.inside held c.if-stored-key.false c.probe.invariant.passed c.requires.empty in
    let further = distance-next_place (length slots) (home_of (length slots) c.args.key) c.probe.place (home_of-lt (length slots) c.args.key (omega arith)) c.probe.invariant.inside more in
    rw c.next-place.ensures.value (omega arith)

pub probe-preserved : goal.probe-preserved
probe-preserved g c =
    let slots = c.args.slots.now in
    let read = slice_get_read slots _ c.probe.place _ refl c.probe.invariant.inside c.index-slots-place.is in
    let held : Holds slots c.probe.place c.in-Full.stored = record { value = c.in-Full.field-1; full = read ∙ ap Some c.in-Full.is } in
    record {
      inside = c.next-place.ensures.within;
      passed = rw c.next-place.ensures.value (passed_more slots c.probe.place c.args.key c.in-Full.stored c.probe.invariant.inside held c.if-stored-key.false c.probe.invariant.passed c.requires.empty);
    }
