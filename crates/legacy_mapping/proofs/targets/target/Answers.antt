-- The name that was found, or the old one.
use Rattle.std.proofs.Common.{◌≡◌, List, ℕ, subst, sym, rules}
use Rattle.legacy_mapping.specs.Sources.{IsTarget}
use Rattle.legacy_mapping.proofs.SourceLemmas.{is_target}
use Rattle.legacy_mapping.proofs.targets.target.Goals as goal

pub returns : goal.returns
returns c =
    let is = is_target c.args.table.now c.args.name c.unwrap_or-new.result c.new_type.result c.unwrap_or-new.ensures c.new_type.ensures.found c.new_type.ensures.only in
    let copy : c.in_ok-new.field-0 ≡ c.unwrap_or-new.result.now = search rules in
    subst (IsTarget c.args.table.now c.args.name.now) (sym copy) is
