-- A `refs` member with another list, in the table of instances.
use Rattle.std.proofs.Common.{◌≡◌, ℕ, List, Option, Some, None, ap, sym, subst, ◌∙◌}
use Rattle.std.specs.Prelude.{IfSome}
use Rattle.std.specs.Ordering.{nat_cmp}
use Rattle.std.specs.List.Sorted.{IsStrictlySortedBy}
use Rattle.std.specs.Map.{keys_of, lookup, set_value}
use Rattle.std.specs.BTreeMap.{is_at}
use Rattle.entity_form.specs.declared.value.Value.TheVariants.{Refs}
use Rattle.session_model.specs.Instances.{Instance, put_instance}
use Rattle.object_registry.specs.Entries.{held_in}
use Rattle.object_registry.specs.Registered.{ChangesRefs, refs_at, with_member}
use Rattle.object_registry.proofs.EntryLemmas.{Entries, instance_at-held, put_instance-set}

weaker : {X : Type 0} (o : Option X) (P Q : X → Type 0) → ((x : X) → P x → Q x) → IfSome o P → IfSome o Q
weaker None P Q f h = tt
weaker (Some x) P Q f h = f x h

pub changes_refs : (change : List ℕ → List ℕ) (es : Entries) (x at : ℕ) (old new : Instance) → IsStrictlySortedBy nat_cmp (keys_of es) → lookup (is_at (nat_cmp x)) es ≡ Some old
    → IfSome (refs_at old at) (λ ids. new ≡ with_member old at (Refs (change ids))) → ChangesRefs change x at (held_in es) (held_in (set_value (is_at (nat_cmp x)) es new))
changes_refs change es x at old new s found h =
    subst (λ (o : Option Instance). IfSome o (λ i. IfSome (refs_at i at) (λ ids. held_in (set_value (is_at (nat_cmp x)) es new) ≡ put_instance x (with_member i at (Refs (change ids))) (held_in es))))
    (sym (instance_at-held es x ∙ found))
    (weaker (refs_at old at) (λ ids. new ≡ with_member old at (Refs (change ids))) (λ ids. held_in (set_value (is_at (nat_cmp x)) es new) ≡ put_instance x (with_member old at (Refs (change ids))) (held_in es))
    (λ ids e. put_instance-set es x old new s found ∙ ap (λ (i : Instance). put_instance x i (held_in es)) e) h)
