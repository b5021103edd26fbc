use Rattle.std.proofs.Common.{◌≡◌, Option, Some, None, IfSome, ap, sym, subst, ◌∙◌, rules}
use Rattle.std.specs.Ordering.{nat_cmp}
use Rattle.std.specs.BTreeMap.{is_at}
use Rattle.std.specs.Map.{lookup}
use Rattle.session_model.specs.Instances.{Instance, put_instance}
use Rattle.object_registry.specs.Entries.{held_in}
use Rattle.object_registry.specs.Registered.{with_member}
use Rattle.object_registry.proofs.EntryLemmas.{instance_at-held, put_instance-set}
use Rattle.object_registry.proofs.table.set.Goals as goal

pub set-requires : goal.set-requires
set-requires c =
    let was : lookup (is_at (nat_cmp c.args.id)) c.args.table.now.entries ≡ Some c.in-Some.instance.now = search rules in
    rw (instance_at-held c.args.table.now.entries c.args.id, was) at c.requires

pub unreachable-requires : goal.unreachable-requires
unreachable-requires c =
    let none : lookup (is_at (nat_cmp c.args.id)) c.args.table.now.entries ≡ None = search rules in
    rw (instance_at-held c.args.table.now.entries c.args.id, none) at c.requires

pub returns-clause-set : goal.returns-clause-set
returns-clause-set c =
    let es = c.args.table.now.entries in
    let was : lookup (is_at (nat_cmp c.args.id)) es ≡ Some c.in-Some.instance.now = search rules in
    let set = ap held_in (c.get_mut.follows.holds c.set.new.self).0 ∙ put_instance-set es c.args.id c.in-Some.instance.now c.set.new.self c.get_mut.ensures.ordered was in
    subst (λ (o : Option Instance). IfSome o (λ i. held_in (c.get_mut.follows.lender c.set.new.self).entries ≡ put_instance c.args.id (with_member i c.args.member c.args.value) (held_in es)))
    (sym (instance_at-held es c.args.id ∙ was)) (set ∙ ap (λ (i : Instance). put_instance c.args.id i (held_in es)) c.set.ensures)
