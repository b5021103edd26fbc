use Rattle.std.proofs.Common.{◌≡◌, length, arith, subst, true, false, ◌∙◌}
use Rattle.std.proofs.lemmas.List.{get_or_default}
use Rattle.entity_region.specs.Units.{IsScanned}
use Rattle.entity_region.proofs.RunLemmas.{scanned_more, scanned_all}
use Rattle.entity_region.proofs.runs.scan.Goals as goal
use Rattle.entity_region.proofs.runs.scan.Goals.{then-used, else-used, then-back-place, else-back-place}

pub units-preserved : goal.units-preserved
units-preserved c =
    let inside = c.units-test.true in
    let default = get_or_default c.args.units.now c.units.place true false inside in
    elim c.if-used.branch [
      | then-used w ↦
          scanned_more _ _ _ _ _ _ _ _ true c.units.invariant inside (default ∙ w.if-used.true) (λ used. w.back-is) (λ clear. absurd cc) (elim c.if-back-place.branch [
            | then-back-place v ↦ λ all. v.front-is
            | else-back-place v ↦ λ all. absurd (v.if-back-place.false all)
          ]) (elim c.if-back-place.branch [
            | then-back-place v ↦ λ some. absurd (some v.if-back-place.true)
            | else-back-place v ↦ λ some. v.front-is
          ]) (omega arith)
      | else-used w ↦
          scanned_more _ _ _ _ _ _ _ _ false c.units.invariant inside (default ∙ w.if-used.false) (λ used. absurd cc) (λ clear. w.back-is) (elim c.if-back-place.branch [
            | then-back-place v ↦ λ all. v.front-is
            | else-back-place v ↦ λ all. absurd (v.if-back-place.false all)
          ]) (elim c.if-back-place.branch [
            | then-back-place v ↦ λ some. absurd (some v.if-back-place.true)
            | else-back-place v ↦ λ some. v.front-is
          ]) (omega arith)
    ]

pub returns : goal.returns
returns c =
    let place : c.units.place ≡ length c.args.units.now = omega arith in
    scanned_all c.args.units.now c.units.front c.units.back c.units.most (subst (λ k. IsScanned c.args.units.now k c.units.front c.units.back c.units.most) place c.units.invariant)
