use Rattle.std.proofs.Common.{sym, ◌∙◌}
use Rattle.graph_model.proofs.Places.{remove_found, remove_none}
use Rattle.graph_model.proofs.lists.Ids.remove.Goals as goal

pub returns-in-Some : goal.returns-in-Some
returns-in-Some c = let found = rw c.as_slice.ensures.value at c.index_of.ensures in
    rw (c.remove.ensures.items, ← c.self.view_is) (remove_found c.args.id c.self.inside.items.items c.in-Some.place (sym found ∙ c.in-Some.is))

pub returns-in_default : goal.returns-in_default
returns-in_default c = let found = rw c.as_slice.ensures.value at c.index_of.ensures in
    rw (← c.self.view_is) (sym (remove_none c.args.id c.self.inside.items.items (sym found ∙ c.in_default.is)))
