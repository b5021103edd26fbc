use Rattle.entity_region.specs.Units.{IsGrown}
use Rattle.entity_region.proofs.tree.shape_for.Given as goal

abbrev pub invariant-halve : goal.invariant-halve
invariant-halve l = IsGrown l.count l.width l.leaves l.shape.levels l.shape.nodes l.shape.units

abbrev pub decreases-halve : goal.decreases-halve
decreases-halve l = l.width
