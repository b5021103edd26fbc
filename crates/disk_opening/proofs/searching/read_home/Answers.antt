-- The entity of an id is read from the disk of its channel.
use Rattle.disk_opening.proofs.HomeRows.{home_row}
use Rattle.disk_opening.proofs.searching.read_home.Goals as goal

pub read_at-requires-clause-row : goal.read_at-requires-clause-row
read_at-requires-clause-row g c =
    let found = c.in-Some.ensures in
    c.requires.rows c.in-Some.home c.args.id c.in-Some.row (home_row c.args.indexes.now c.args.id c.in-Some.home c.in-Some.row found.home found.row)

pub read_at-requires-clause-there : goal.read_at-requires-clause-there
read_at-requires-clause-there g c tells =
    let found = c.in-Some.ensures in
    c.requires.there tells c.in-Some.home c.args.id c.in-Some.row (home_row c.args.indexes.now c.args.id c.in-Some.home c.in-Some.row found.home found.row)
