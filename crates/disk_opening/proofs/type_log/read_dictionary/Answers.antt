-- The dictionary log is read with the header of so many channels.
use Rattle.std.proofs.Common.{◌≡◌, ◌∙◌, ℕ, List, Err, ap, subst}
use Rattle.recovery.specs.Images.{types_header}
use Rattle.disk_opening.specs.LogFaults.{IsCutAt}
use Rattle.disk_opening.specs.declared.type_log.DictionaryFault.TheVariants as told
use Rattle.disk_opening.proofs.FaultsSaid.{same_fault}
use Rattle.disk_opening.proofs.type_log.read_dictionary.Goals as goal

pub returns-in_err-dictionary-clause-cut : goal.returns-in_err-dictionary-clause-cut
returns-in_err-dictionary-clause-cut g c tells at is =
    let opening = c.in_ok-opening.opening in
    let was = same_fault c.from_residual-in_err-dictionary.result c.in_err-dictionary.field-0.0 (told.Log at) c.from_residual-in_err-dictionary.ensures.1 is in
    let here = c.in_err-dictionary.ensures.cut tells at (ap Err was) in
    let headed : opening.header ≡ types_header c.args.channels = c.in_ok-opening.ensures.file.1 ∙ c.types_header_of.ensures in
    subst (λ (h : List ℕ). IsCutAt h (g.D.Disk.reads c.args.disk.now 1) at) headed (subst (λ (r : ℕ → List ℕ). IsCutAt opening.header (r 1) at) (c.begin.ensures.reads tells) here)
