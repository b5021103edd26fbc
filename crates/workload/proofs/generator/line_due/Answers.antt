-- A drawn line leads to what stands before the next one.
use Rattle.std.proofs.Common.{◌≡◌, ◌≤◌, ◌<◌, rules, arith}
use Rattle.workload.specs.Lines.{StandBefore, drawn_end}
use Rattle.workload.proofs.Behind.{stand_behind, two_on_ok}
use Rattle.workload.proofs.generator.line_due.Goals as goal

pub returns-then-at-drawn_lines_end-clause-stands :
    goal.returns-then-at-drawn_lines_end-clause-stands
returns-then-at-drawn_lines_end-clause-stands c number stand =
    two_on_ok c.drawn_line.result _ _ _
    (λ state_is bound_is. stand_behind c.args.lines number c.args.at _ _ _ _ (search rules) (search rules) stand state_is bound_is)
    c.drawn_line.ensures.state c.drawn_line.ensures.slots
