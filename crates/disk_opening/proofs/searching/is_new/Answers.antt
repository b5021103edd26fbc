-- An id is put among those that were looked at.
use Rattle.std.proofs.Common.{◌∙◌}
use Rattle.disk_opening.proofs.KeySets.{inserted, was_new, was_there}
use Rattle.disk_opening.proofs.searching.is_new.Goals as goal

pub returns-clause-new : goal.returns-clause-new
returns-clause-new c new =
    let none = was_new c.args.id c.args.looked.now.keys c.in_ok-new.new c.in_ok-new.ensures.added new in
    (none, c.in_ok-new.ensures.keys ∙ inserted c.args.id c.args.looked.now.keys none)

pub returns-clause-known : goal.returns-clause-known
returns-clause-known c old =
    (was_there c.args.id c.args.looked.now.keys c.in_ok-new.new c.in_ok-new.ensures.added old, rw old at c.in_ok-new.ensures.unchanged)
