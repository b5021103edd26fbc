use Rattle.std.proofs.Common.{◌≡◌, ℕ, List, ◌++◌, Some, None, sym, ap, ◌∙◌, append-nil, rules}
use Rattle.std.specs.List.{flat_map}
use Rattle.std.proofs.lemmas.Result.{on_ok_weaker}
use Rattle.entity_form.specs.Values.{refs_of}
use Rattle.entity_form.specs.declared.value.Value.{Value}
use Rattle.session_model.specs.Instances.{Instance, instance_at}
use Rattle.object_registry.specs.References.{without_none}
use Rattle.object_registry.proofs.EdgeLemmas.{edges_at, edges_of-instance}
use Rattle.storer.specs.Gathered.{taken}
use Rattle.storer.proofs.edges.GatherEdgesEdges.push_edges.Goals as goal

pub returns-in-Some : goal.returns-in-Some
returns-in-Some c =
    let gathering = c.args.self.now.gathering in
    let is = c.args.self.now.registry.now.instances in
    let edges : Instance → List ℕ = λ i. taken gathering is (flat_map refs_of i.object.values) in
    let found : instance_at is c.args.id ≡ Some c.in-Some.instance.now = search rules in
    let values : c.as_slice.result.now ≡ c.in-Some.instance.now.object.values = search rules in
    on_ok_weaker c.push_values.result (λ made. made ∙ ap (λ (vs : List Value). c.args.ids.now.items ++ without_none (taken gathering is (flat_map refs_of vs))) values
    ∙ ap (λ (es : List ℕ). c.args.ids.now.items ++ es) (sym (edges_of-instance edges is c.args.id ∙ ap (edges_at edges) found))) c.push_values.ensures

pub returns-in-None : goal.returns-in-None
returns-in-None c =
    let gathering = c.args.self.now.gathering in
    let is = c.args.self.now.registry.now.instances in
    let edges : Instance → List ℕ = λ i. taken gathering is (flat_map refs_of i.object.values) in
    let none : instance_at is c.args.id ≡ None = search rules in
    rw (edges_of-instance edges is c.args.id, none) (sym (append-nil c.args.ids.now.items))
