use Rattle.std.proofs.Common.{Option, Some, sym, ap, ◌∙◌, subst}
use Rattle.core_steps.specs.declared.event.Event.{Event}
use Rattle.core_steps.specs.Events.{kind_of}
use Rattle.shards.specs.Known.{book_then}
use Rattle.shard_rows.specs.Units.{IsPlain, told_of}
use Rattle.shard_rows.proofs.Events.{plain_after}
use Rattle.shard_rows.proofs.Turning.{alike, stays}
use Rattle.shard_rows.proofs.leaving.leave_as.Goals as goal

pub leave-requires-clause-returns : goal.leave-requires-clause-returns
leave-requires-clause-returns c = stays _ c.args.turn.was c.args.unit _

pub leave-requires-clause-event : goal.leave-requires-clause-event
leave-requires-clause-event c = λ said. let t = c.requires.event said in (t.0, t.1, t.2, tt)

pub returns-clause-alike : goal.returns-clause-alike
returns-clause-alike c = let got = c.leave.ensures.event in alike c.args.turn.known _ c.args.turn.shard (told_of c.args.turn.was) (told_of c.args.unit) c.args.hand got.0 got.1
    (λ said plain. let e = got.2 said in subst (λ (o : Option Event). IsPlain (book_then c.args.turn.known.desk.book o)) (sym e.1)
    (plain_after c.args.turn.known.desk.book e.0 (λ y. c.requires.kind (sym e.2 ∙ y)) plain))
