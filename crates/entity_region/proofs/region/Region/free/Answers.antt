use Rattle.entity_region.specs.Sound.{clear_units}
use Rattle.entity_region.proofs.ViewLemmas.{free_view}
use Rattle.entity_region.proofs.region.Region.free.Goals as goal

pub returns : goal.returns
returns c =
    rw (← c.self.view_is) (free_view c.self.inside.bytes.items c.self.inside.places.items c.self.invariant.count (clear_units c.self.inside.units.items) c.self.inside.free c.self.invariant.sized
    c.self.invariant.counted c.self.invariant.free_is)
