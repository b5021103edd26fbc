use Rattle.entity_region.proofs.tree.+fill.Given as goal

abbrev pub decreases-fill : goal.decreases-fill
decreases-fill l = l.levels
