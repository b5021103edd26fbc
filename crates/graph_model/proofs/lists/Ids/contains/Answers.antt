use Rattle.graph_model.proofs.Places.{has-list_any}
use Rattle.graph_model.proofs.lists.Ids.contains.Goals as goal

pub returns : goal.returns
returns c = rw (c.contains.ensures.value, c.deref.ensures.value, ← c.self.view_is) (has-list_any c.args.id c.self.inside.items.items)
