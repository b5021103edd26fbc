-- The bytes that were read begin with the row's header.
use Rattle.std.proofs.Common.{arith}
use Rattle.channel.proofs.Spelled.{header_in_front}
use Rattle.disk_opening.proofs.entities.read_row.Goals as goal

pub returns-in-Ok-clause-header : goal.returns-in-Ok-clause-header
returns-in-Ok-clause-header g c =
    let right = c.requires.row.header in
    header_in_front c.read_entity.new.out c.args.row.header.length c.args.row.header (omega (arith, right.4)) (omega (arith, right.1, c.requires.window, c.read_entity.auto.out)) c.in-Ok.ensures.same
