use Rattle.std.proofs.Common.{◌≡◌, ℕ, List, [], ◌∷◌, ◌++◌, ap, sym, ◌∙◌, rules}
use Rattle.entity_form.specs.declared.value.Object.{Object}
use Rattle.object_registry.specs.Entries.{held_in}
use Rattle.object_registry.specs.Registered.{put_loaded}
use Rattle.object_registry.proofs.EntryLemmas.{put_loaded-last}
use Rattle.object_registry.proofs.table.put_all.Goals as goal

pub loop-id-preserved : goal.loop-id-preserved
loop-id-preserved c =
    let last : c.loop-id.left.items ≡ c.pop.new.self.items ++ (c.in-Some.id, c.in-Some.object) ∷ [] = search rules in
    let instances = held_in c.loop-id.table.entries in
    let step = put_loaded-last c.pop.new.self.items (c.in-Some.id, c.in-Some.object) instances in
    (rw (c.in_ok-put.ensures.ok, c.loaded.ensures) (sym step ∙ (ap (λ (ps : List (ℕ × Object)). put_loaded ps instances) (sym last) ∙ c.loop-id.invariant.0)), c.in_ok-put.ensures.ordered)
