use Rattle.std.proofs.Common.{◌∙◌}
use Rattle.std.proofs.lemmas.Bool.{both_ways}
use Rattle.std.proofs.lemmas.Result.{on_ok_weaker}
use Rattle.graph_model.specs.Ids.{has}
use Rattle.object_registry.proofs.Numbers.{insert_key-new, was_new, was_there}
use Rattle.object_registry.proofs.walking.look_at.Goals as goal

pub returns-then-branch-clause-known : goal.returns-then-branch-clause-known
returns-then-branch-clause-known g c = on_ok_weaker c.push_edges.result
    (λ made had. absurd (both_ways (has c.args.id c.args.found.now.keys) (was_new c.args.id c.args.found.now.keys c.in_ok-insert.field-0 c.in_ok-insert.ensures.added c.if-branch.true) had)) c.push_edges.ensures

pub returns-then-branch-clause-new : goal.returns-then-branch-clause-new
returns-then-branch-clause-new g c = on_ok_weaker c.push_edges.result (λ made new.
    (c.in_ok-insert.ensures.keys ∙ insert_key-new c.args.id c.args.found.now.keys new, made)) c.push_edges.ensures

pub returns-else-branch-clause-new : goal.returns-else-branch-clause-new
returns-else-branch-clause-new g c = λ new.
    absurd (both_ways (has c.args.id c.args.found.now.keys) new (was_there c.args.id c.args.found.now.keys c.in_ok-insert.field-0 c.in_ok-insert.ensures.added c.if-branch.false))
