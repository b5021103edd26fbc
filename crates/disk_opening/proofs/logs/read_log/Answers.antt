-- A cut that was met is one of the log with this channel's header.
use Rattle.std.proofs.Common.{◌≡◌, ◌∙◌, ℕ, List, Err, ap, subst}
use Rattle.channel.specs.Images.{log_header}
use Rattle.disk_opening.specs.LogFaults.{IsCutAt}
use Rattle.disk_opening.specs.declared.logs.ChannelLogFault.TheVariants as told
use Rattle.disk_opening.proofs.FaultsSaid.{same_fault}
use Rattle.disk_opening.proofs.logs.read_log.Goals as goal

pub returns-in_err-inventory-clause-cut : goal.returns-in_err-inventory-clause-cut
returns-in_err-inventory-clause-cut g c tells at is =
    let opening = c.in_ok-opening.opening in
    let was = same_fault c.from_residual-in_err-inventory.result c.in_err-inventory.field-0.0 (told.Log at) c.from_residual-in_err-inventory.ensures.1 is in
    let here = c.in_err-inventory.ensures.cut tells at (ap Err was) in
    let headed : opening.header ≡ log_header c.args.channels c.args.channel = c.in_ok-opening.ensures.file.1 ∙ c.header_of.ensures in
    subst (λ (h : List ℕ). IsCutAt h (g.D.Disk.reads c.args.disk.now 0) at) headed (subst (λ (r : ℕ → List ℕ). IsCutAt opening.header (r 0) at) (c.begin.ensures.reads tells) here)
