-- What is kept is what stands elsewhere.
use Rattle.std.proofs.Common.{◌∙◌, ap, map, rules}
use Rattle.std.proofs.lemmas.Fn.{filter_same}
use Rattle.disk_opening.specs.Ranges.{range_in}
use Rattle.disk_opening.proofs.LeftOut.{is_elsewhere, left_out}
use Rattle.disk_opening.proofs.ranges.Ranges.leave_out.Goals as goal

pub returns : goal.returns
returns c =
    let kept = filter_same _ (is_elsewhere c.args.file) _ (λ x b f' h. (search (rules, h), search (rules, h))) _ _ c.retain.ensures.filtered in
    rw (← c.self.view_is) (ap (map range_in) kept ∙ left_out c.args.file _)
