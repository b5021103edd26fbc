-- The length in front tells where a payload ends.
use Rattle.std.proofs.Common.{[], sym, ◌∙◌}
use Rattle.std.proofs.lemmas.List.{append-nil}
use Rattle.gated_log.specs.Log.{sized}
use Rattle.gated_log.proofs.CutShortLogs.{same_record}
use Rattle.gated_log.proofs.laws.no_record_begins_another.Goals as goal

pub returns : goal.returns
returns c more same =
    let first = c.args.first.now in
    let second = c.args.second.now in
    same_record first second more [] c.requires.first c.requires.second (same ∙ sym (append-nil (sized second)))
