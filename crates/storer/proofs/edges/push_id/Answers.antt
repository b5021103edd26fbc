use Rattle.std.proofs.Common.{sym, ◌∙◌, append-nil}
use Rattle.storer.proofs.TakenIds.{taken-one, taken-none}
use Rattle.storer.proofs.edges.push_id.Goals as goal

pub returns-in_ok-push : goal.returns-in_ok-push
returns-in_ok-push c = rw (taken-one c.args.gathering c.args.registry.now.instances c.args.id (sym c.is_followed.ensures ∙ c.if-is_followed.true)) c.in_ok-push.ensures.items

pub returns-else-is_followed : goal.returns-else-is_followed
returns-else-is_followed c = rw (taken-none c.args.gathering c.args.registry.now.instances c.args.id (sym c.is_followed.ensures ∙ c.if-is_followed.false)) (sym (append-nil c.args.ids.now.items))
