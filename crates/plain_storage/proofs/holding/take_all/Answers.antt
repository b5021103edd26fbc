use Rattle.std.proofs.Common.{◌||◌, List, sym, ap, ◌∙◌}
use Rattle.graph_model.specs.Graph.{ids, put_all}
use Rattle.graph_model.specs.Ids.{has}
use Rattle.graph_model.specs.declared.entity.Record.{Record}
use Rattle.graph_model.proofs.Graphs.{put_all_last}
use Rattle.plain_storage.proofs.HeldIds.{taken_more}
use Rattle.plain_storage.proofs.holding.take_all.Goals as goal

pub loop-record-preserved : goal.loop-record-preserved
loop-record-preserved c =
    let rest = c.pop.new.self.items in
    let held = c.loop-record.held in
    let last = c.in-Some.ensures.items in
    record {
      graph = rw c.in_ok-put.ensures.ok
          (sym (put_all_last rest c.in-Some.record c.loop-record.graph) ∙ ap (λ (rs : List Record). put_all rs c.loop-record.graph) (sym last) ∙ c.loop-record.invariant.graph);
      held = λ x. sym (taken_more rest c.in-Some.record held c.insert.new.self c.in_ok-insert.ensures.updates x)
          ∙ ap (λ (rs : List Record). has x (ids rs) || has x held.keys) (sym last) ∙ c.loop-record.invariant.held x;
    }
