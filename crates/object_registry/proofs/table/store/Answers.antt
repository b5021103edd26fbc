use Rattle.std.proofs.Common.{◌≡◌, Some, None, ap, sym, ◌∙◌, rules}
use Rattle.std.specs.Ordering.{nat_cmp}
use Rattle.std.specs.BTreeMap.{is_at}
use Rattle.std.specs.Map.{lookup}
use Rattle.object_registry.proofs.EntryLemmas.{save-none, save-one}
use Rattle.object_registry.specs.Entries.{held_in}
use Rattle.object_registry.proofs.table.store.Goals as goal

pub returns-in-Some-clause-saved : goal.returns-in-Some-clause-saved
returns-in-Some-clause-saved c =
    let was : lookup (is_at (nat_cmp c.args.id)) c.args.table.now.entries ≡ Some c.in-Some.instance.now = search rules in
    ap held_in ((c.get_mut.follows.holds c.store.new.self).0 ∙ rw c.store.ensures) ∙ save-one c.args.table.now.entries c.args.id c.in-Some.instance.now c.get_mut.ensures.ordered was

pub returns-in-None-clause-saved : goal.returns-in-None-clause-saved
returns-in-None-clause-saved c =
    let none : lookup (is_at (nat_cmp c.args.id)) c.args.table.now.entries ≡ None = search rules in
    rw c.get_mut.follows.holds-at-none (sym (save-none c.args.table.now.entries c.args.id none))
