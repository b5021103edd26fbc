use Rattle.std.proofs.Common.{sym, ◌∙◌}
use Rattle.entity_region.proofs.ViewLemmas.{live_view, disjoint_view}
use Rattle.entity_region.proofs.region.Region.live.Goals as goal

pub returns-clause-count : goal.returns-clause-count
returns-clause-count c = rw (← c.self.view_is) (sym c.self.invariant.spare.counted ∙ sym (live_view c.self.inside.places.items))

pub returns-clause-apart : goal.returns-clause-apart
returns-clause-apart c = rw (← c.self.view_is) (disjoint_view c.self.invariant.count c.self.inside.bytes.items c.self.inside.places.items c.self.invariant.sized c.self.invariant.laid_out)
