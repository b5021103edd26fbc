use Rattle.entity_region.specs.Units.{IsScanned}
use Rattle.entity_region.proofs.runs.scan.Given as goal

abbrev pub invariant-units : goal.invariant-units
invariant-units l = IsScanned l.units l.place l.front l.back l.most
