use Rattle.std.proofs.Common.{rules}
use Rattle.std.proofs.lemmas.Fn.{filter_same}
use Rattle.graph_model.proofs.entity.Records.remove.Goals as goal

pub returns : goal.returns
returns c = rw (← c.self.view_is) (filter_same _ _ _ (λ x b f' h. (search (rules, h), search (rules, h))) _ _ c.retain.ensures.filtered)
