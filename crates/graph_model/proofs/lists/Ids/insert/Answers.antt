use Rattle.std.proofs.lemmas.List.Folds.{length-prefix_len}
use Rattle.graph_model.proofs.Places.{insert_at}
use Rattle.graph_model.proofs.lists.Ids.insert.Goals as goal

pub returns-clause-ok : goal.returns-clause-ok
returns-clause-ok c = rw (c.in_ok-insert.ensures.items, c.place_of-place.ensures, c.as_slice.ensures.value, ← c.self.view_is, length-prefix_len) (insert_at c.args.id c.self.inside.items.items)
