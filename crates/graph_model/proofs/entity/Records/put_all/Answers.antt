use Rattle.std.proofs.Common.{◌≡◌, ◌∙◌, List, ◌++◌, ◌∷◌, [], ◌-◌, sym, ap, take, arith, rules}
use Rattle.std.proofs.lemmas.Grind.{common_steps}
use Rattle.graph_model.specs.declared.entity.Record.{Record}
use Rattle.graph_model.specs.Graph.{put_all}
use Rattle.graph_model.proofs.Graphs.{put_all_last}
use Rattle.graph_model.proofs.entity.Records.put_all.Goals as goal

pub loop-left-preserved : goal.loop-left-preserved
loop-left-preserved c = let i = c.loop-left.invariant in
    let records = c.as_slice-records.result.now in
    let at = c.loop-left.left - 1 in
    let copy : c.in_ok-clone.field-0 ≡ c.index-records-left.result = search rules in
    let last : take c.loop-left.left records ≡ take at records ++ c.index-records-left.result ∷ [] = grind (arith, common_steps) in
    (omega arith, rw (c.in_ok-put.ensures.ok, copy) (sym (put_all_last (take at records) c.index-records-left.result c.loop-left.self) ∙ (ap (λ (rs : List Record). put_all rs c.loop-left.self) (sym last) ∙ i.1)))
