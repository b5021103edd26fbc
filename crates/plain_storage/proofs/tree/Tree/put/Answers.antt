-- An entity is put in its place.
use Rattle.std.proofs.Common.{ap, ◌∙◌}
use Rattle.graph_model.specs.Graph.{Graph, put}
use Rattle.plain_storage.specs.Trees.{graph_of}
use Rattle.plain_storage.proofs.TreeEntries.{record_of, put-entries}
use Rattle.plain_storage.proofs.tree.Tree.put.Goals as goal

pub returns-clause-ok : goal.returns-clause-ok
returns-clause-ok c =
    ap graph_of c.in_ok-insert.ensures.entries ∙ put-entries c.self.inside.entities.entries c.args.id c.args.entity
    ∙ ap (λ (g : Graph). put (record_of c.args.id c.args.entity) g) c.self.view_is
