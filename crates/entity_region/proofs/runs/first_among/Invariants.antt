use Rattle.entity_region.specs.Units.{IsSought}
use Rattle.entity_region.proofs.runs.first_among.Given as goal

abbrev pub invariant-units : goal.invariant-units
invariant-units l = IsSought l.units l.wanted l.place l.run
