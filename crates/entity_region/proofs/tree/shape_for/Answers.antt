use Rattle.std.proofs.Common.{arith, ap}
use Rattle.entity_region.proofs.ShapeLemmas.{grown_more}
use Rattle.entity_region.proofs.tree.shape_for.Goals as goal
use Rattle.entity_region.proofs.tree.shape_for.Goals.{then-width-eq1, else-width-eq1}

pub halve-preserved : goal.halve-preserved
halve-preserved c =
    let half = c.div_ceil-width.ensures in
    elim c.if-width-eq1.branch [
      | then-width-eq1 w ↦
          let levels = ap (λ s. s.levels) w.shape-is in
          let nodes = ap (λ s. s.nodes) w.shape-is in
          let units = ap (λ s. s.units) w.shape-is in
          rw (levels, nodes) (grown_more _ c.halve.width _ c.halve.leaves c.halve.shape.levels c.halve.shape.nodes c.halve.shape.units _ c.halve.invariant c.if-leaves-lt-MOST_LEAVES.true (omega arith)
          (λ odd. units) (λ even. absurd (even w.if-width-eq1.true)))
      | else-width-eq1 w ↦
          let levels = ap (λ s. s.levels) w.shape-is in
          let nodes = ap (λ s. s.nodes) w.shape-is in
          let units = ap (λ s. s.units) w.shape-is in
          rw (levels, nodes) (grown_more _ c.halve.width _ c.halve.leaves c.halve.shape.levels c.halve.shape.nodes c.halve.shape.units _ c.halve.invariant c.if-leaves-lt-MOST_LEAVES.true (omega arith)
          (λ odd. absurd (w.if-width-eq1.false odd)) (λ even. units))
    ]
