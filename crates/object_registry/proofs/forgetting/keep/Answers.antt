use Rattle.std.proofs.Common.{ap, ◌∙◌, rules}
use Rattle.std.specs.List.{list_any}
use Rattle.std.specs.Ordering.{nat_cmp}
use Rattle.std.specs.BTreeMap.{is_at}
use Rattle.std.proofs.lemmas.Map.Made.{filter_same_pairs}
use Rattle.object_registry.specs.Entries.{held_in}
use Rattle.object_registry.proofs.EntryLemmas.{held-filter}
use Rattle.object_registry.proofs.forgetting.keep.Goals as goal

pub returns-clause-kept : goal.returns-clause-kept
returns-clause-kept c =
    let kept = filter_same_pairs _ (λ e. list_any (is_at (nat_cmp e.0)) c.args.kept.now.keys) _ (λ k v b w f' t. search rules) _ _ c.retain.ensures.filtered in
    ap held_in kept ∙ held-filter c.args.instances.now.entries c.args.kept.now.keys
