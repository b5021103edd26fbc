use Rattle.std.proofs.Common.{◌≡◌, length, arith, subst, ◌+◌, true, false, ◌∙◌, sym}
use Rattle.std.proofs.lemmas.List.{get_or_default}
use Rattle.entity_region.specs.Units.{IsSought}
use Rattle.entity_region.proofs.RunLemmas.{sought_used, sought_clear, sought_found, sought_all}
use Rattle.entity_region.proofs.runs.first_among.Goals as goal
use Rattle.entity_region.proofs.runs.first_among.Goals.{then-used, else-used}

pub returns-then-run-wanted : goal.returns-then-run-wanted
returns-then-run-wanted c =
    let inside = c.units-test.true in
    let default = get_or_default c.args.units.now c.units.place true false inside in
    elim c.if-used.branch [
      | then-used w ↦ let some = c.requires.some in let none = w.run-is in let all = c.if-run-wanted.true in absurd (omega arith)
      | else-used w ↦ sought_found _ _ _ c.units.run c.units.invariant inside (default ∙ w.if-used.false) (sym w.run-is ∙ c.if-run-wanted.true)
    ]

pub units-preserved : goal.units-preserved
units-preserved c =
    let inside = c.units-test.true in
    let default = get_or_default c.args.units.now c.units.place true false inside in
    elim c.if-used.branch [
      | then-used w ↦
          subst (λ k. IsSought c.args.units.now c.args.wanted (c.units.place + 1) k) (sym w.run-is) (sought_used _ _ _ c.units.run c.units.invariant inside (default ∙ w.if-used.true))
      | else-used w ↦
          subst (λ k. IsSought c.args.units.now c.args.wanted (c.units.place + 1) k) (sym w.run-is) (sought_clear _ _ _ c.units.run c.units.invariant inside (default ∙ w.if-used.false)
          (λ all. c.if-run-wanted.false (w.run-is ∙ all)))
    ]

pub unreachable-requires : goal.unreachable-requires
unreachable-requires c =
    let place : c.units.place ≡ length c.args.units.now = omega arith in
    sought_all c.args.units.now c.args.wanted c.units.run (subst (λ k. IsSought c.args.units.now c.args.wanted k c.units.run) place c.units.invariant) c.requires.there
