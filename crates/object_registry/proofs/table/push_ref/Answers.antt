use Rattle.std.proofs.Common.{◌≡◌, ◌++◌, ◌∷◌, [], ℕ, List, Some, None, sym, subst, ◌∙◌, rules}
use Rattle.std.specs.Ordering.{nat_cmp}
use Rattle.std.specs.BTreeMap.{is_at}
use Rattle.std.specs.Map.{lookup}
use Rattle.std.proofs.lemmas.Map.Steps.{set_value_same}
use Rattle.std.proofs.lemmas.Result.{on_ok_weaker, on_err_weaker}
use Rattle.object_registry.specs.Entries.{held_in}
use Rattle.object_registry.specs.Registered.{ChangesRefs}
use Rattle.object_registry.proofs.EntryLemmas.{Entries, instance_at-held}
use Rattle.object_registry.proofs.RefLemmas.{changes_refs}
use Rattle.object_registry.proofs.table.push_ref.Goals as goal

pub push_ref-requires : goal.push_ref-requires
push_ref-requires c =
    let was : lookup (is_at (nat_cmp c.args.id)) c.args.table.now.entries ≡ Some c.in-Some.instance.now = search rules in
    rw (instance_at-held c.args.table.now.entries c.args.id, was) at c.requires

pub unreachable-requires : goal.unreachable-requires
unreachable-requires c =
    let none : lookup (is_at (nat_cmp c.args.id)) c.args.table.now.entries ≡ None = search rules in
    rw (instance_at-held c.args.table.now.entries c.args.id, none) at c.requires

pub returns-clause-ok : goal.returns-clause-ok
returns-clause-ok c =
    let es = c.args.table.now.entries in
    let was : lookup (is_at (nat_cmp c.args.id)) es ≡ Some c.in-Some.instance.now = search rules in
    on_ok_weaker c.push_ref.result (λ h. subst (λ (new : Entries). ChangesRefs (λ (ids : List ℕ). ids ++ c.args.target ∷ []) c.args.id c.args.member (held_in es) (held_in new))
    (sym (c.get_mut.follows.holds c.push_ref.new.self).0)
    (changes_refs (λ (ids : List ℕ). ids ++ c.args.target ∷ []) es c.args.id c.args.member c.in-Some.instance.now c.push_ref.new.self c.get_mut.ensures.ordered was h)) c.push_ref.ensures.ok

pub returns-clause-err : goal.returns-clause-err
returns-clause-err c =
    let es = c.args.table.now.entries in
    let was : lookup (is_at (nat_cmp c.args.id)) es ≡ Some c.in-Some.instance.now = search rules in
    on_err_weaker c.push_ref.result (λ same. (c.get_mut.follows.holds c.push_ref.new.self).0 ∙ rw same (set_value_same (is_at (nat_cmp c.args.id)) es c.in-Some.instance.now was)) c.push_ref.ensures.err
