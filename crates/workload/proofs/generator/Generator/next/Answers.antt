-- The line that is made is the next one.
use Rattle.std.proofs.Common.{◌≡◌, ◌<◌, ◌-◌, ◌+◌, Some, subst, rules, arith}
use Rattle.workload.specs.Lines.{IsNext, lines_from}
use Rattle.workload.proofs.Behind.{next_of}
use Rattle.workload.proofs.generator.Generator.next.Goals as goal

pub returns-clause-next : goal.returns-clause-next
returns-clause-next c =
    rw (← c.self.view_is)
    (next_of c.self.inside.lines c.self.inside.number c.self.inside.at _ (search rules)
    (c.in_ok-line.ensures.line c.self.inside.number c.self.invariant.2))
