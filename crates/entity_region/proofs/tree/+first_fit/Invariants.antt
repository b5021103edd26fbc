use Rattle.entity_region.proofs.tree.+first_fit.Given as goal

abbrev pub decreases-first_fit : goal.decreases-first_fit
decreases-first_fit l = l.levels
