use Rattle.std.proofs.Common.{◌≡◌, ℕ, List, ◌++◌, Some, None, sym, ap, ◌∙◌, append-nil, rules}
use Rattle.std.proofs.lemmas.Result.{on_ok_weaker}
use Rattle.session_model.specs.Instances.{instance_at, kept_refs}
use Rattle.object_registry.specs.Entries.{held_in}
use Rattle.object_registry.proofs.EdgeLemmas.{edges_at, edges_of-instance}
use Rattle.object_registry.proofs.forgetting.KeptEdgesEdges.push_edges.Goals as goal

pub returns-in-Some : goal.returns-in-Some
returns-in-Some c =
    let is = held_in c.args.self.now.instances.now.entries in
    let found : instance_at is c.args.id ≡ Some c.in-Some.instance.now = search rules in
    on_ok_weaker c.push_kept.result (λ made. made ∙ ap (λ (es : List ℕ). c.args.ids.now.items ++ es) (sym (edges_of-instance kept_refs is c.args.id ∙ ap (edges_at kept_refs) found))) c.push_kept.ensures

pub returns-in-None : goal.returns-in-None
returns-in-None c =
    let is = held_in c.args.self.now.instances.now.entries in
    let none : instance_at is c.args.id ≡ None = search rules in
    rw (edges_of-instance kept_refs is c.args.id, none) (sym (append-nil c.args.ids.now.items))
