use Rattle.std.proofs.Common.{◌≡◌, ℕ, List, Some, None, sym, subst, rules}
use Rattle.std.specs.Ordering.{nat_cmp}
use Rattle.std.specs.BTreeMap.{is_at}
use Rattle.std.specs.Map.{lookup}
use Rattle.session_model.specs.Answer.{without_at}
use Rattle.object_registry.specs.Entries.{held_in}
use Rattle.object_registry.specs.Registered.{ChangesRefs}
use Rattle.object_registry.proofs.EntryLemmas.{Entries, instance_at-held}
use Rattle.object_registry.proofs.RefLemmas.{changes_refs}
use Rattle.object_registry.proofs.table.take_ref.Goals as goal

pub take_ref-requires : goal.take_ref-requires
take_ref-requires c =
    let was : lookup (is_at (nat_cmp c.args.id)) c.args.table.now.entries ≡ Some c.in-Some.instance.now = search rules in
    rw (instance_at-held c.args.table.now.entries c.args.id, was) at c.requires

pub unreachable-requires : goal.unreachable-requires
unreachable-requires c =
    let none : lookup (is_at (nat_cmp c.args.id)) c.args.table.now.entries ≡ None = search rules in
    rw (instance_at-held c.args.table.now.entries c.args.id, none) at c.requires

pub returns-clause-taken : goal.returns-clause-taken
returns-clause-taken c =
    let es = c.args.table.now.entries in
    let was : lookup (is_at (nat_cmp c.args.id)) es ≡ Some c.in-Some.instance.now = search rules in
    subst (λ (new : Entries). ChangesRefs (λ (ids : List ℕ). without_at ids c.args.at) c.args.id c.args.member (held_in es) (held_in new))
    (sym (c.get_mut.follows.holds c.take_ref.new.self).0)
    (changes_refs (λ (ids : List ℕ). without_at ids c.args.at) es c.args.id c.args.member c.in-Some.instance.now c.take_ref.new.self c.get_mut.ensures.ordered was c.take_ref.ensures)
