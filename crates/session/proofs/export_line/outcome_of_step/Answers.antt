use Rattle.std.proofs.Common.{◌≡◌, ◌<◌, ◌^◌, Some, arith, subst, sym}
use Rattle.session_lines.specs.Exports.{IsDueNext, IsExportStep}
use Rattle.session_lines.specs.Steady.{IsSmallId}
use Rattle.session_lines.specs.declared.exporting.ExportStep.{ExportStep}
use Rattle.session.proofs.ExportAsks.{end_answers, line_tells, looks_awaits}
use Rattle.session.proofs.export_line.outcome_of_step.Goals as goal

pub returns-in-Look-clause-steady : goal.returns-in-Look-clause-steady
returns-in-Look-clause-steady c = λ memory due.
    let asked : c.args.export.asked ≡ Some c.in-Look.id = subst (λ (s : ExportStep). IsDueNext c.args.export s) c.in-Look.is due in
    let small : c.in-Look.id < 2 ^ 64 = omega arith in
    (asked, subst IsSmallId (sym asked) small)

pub returns-in-Look-clause-meets : goal.returns-in-Look-clause-meets
returns-in-Look-clause-meets c = λ is_next_type text state memory storage due rest step.
    looks_awaits is_next_type text state memory storage due c.args.export c.in-Look.id rest (subst (λ (s : ExportStep). IsExportStep state text c.args.export s) c.in-Look.is step)

pub returns-in-Line-clause-meets : goal.returns-in-Line-clause-meets
returns-in-Line-clause-meets c = λ is_next_type text state memory storage due rest step.
    line_tells text state memory storage due c.args.export c.in-Line.bytes rest (subst (λ (s : ExportStep). IsExportStep state text c.args.export s) c.in-Line.is step)

pub returns-in-End-clause-meets : goal.returns-in-End-clause-meets
returns-in-End-clause-meets c = λ is_next_type text state memory storage due rest step.
    end_answers text state memory storage due c.args.export c.in-End.bytes rest (subst (λ (s : ExportStep). IsExportStep state text c.args.export s) c.in-End.is step)
