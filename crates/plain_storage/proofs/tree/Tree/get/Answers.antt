-- The entity of an id is looked up.
use Rattle.std.proofs.Common.{ap, subst, ◌∙◌}
use Rattle.std.specs.Prelude.{IsTrue}
use Rattle.graph_model.specs.Graph.{Graph, entity_of, ids}
use Rattle.graph_model.specs.Ids.{rises}
use Rattle.plain_storage.proofs.TreeEntries.{entity_of-entries, rises-entries}
use Rattle.plain_storage.proofs.tree.Tree.get.Goals as goal

pub returns-clause-found : goal.returns-clause-found
returns-clause-found c = c.get.ensures.value ∙ entity_of-entries c.self.inside.entities.entries c.args.id ∙ ap (λ (g : Graph). entity_of g c.args.id) c.self.view_is

pub returns-clause-order : goal.returns-clause-order
returns-clause-order c = subst (λ (g : Graph). IsTrue (rises (ids g))) c.self.view_is (rises-entries c.self.inside.entities.entries c.self.invariant)
