-- A channel that was just made has no row.
use Rattle.std.proofs.Common.{ap, ◌∙◌}
use Rattle.std.specs.Ordering.{nat_cmp}
use Rattle.std.specs.FinMap.{get, get-empty}
use Rattle.disk_rows.proofs.channels.an_entity_is_found.Goals as goal

pub found-requires-clause-new : goal.found-requires-clause-new
found-requires-clause-new g c = ap (λ m. get m 1024) c.in_ok-channel.ensures.rows ∙ get-empty nat_cmp 1024
