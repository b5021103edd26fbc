use Rattle.std.proofs.Common.{Option, Some, sym, subst}
use Rattle.core_steps.specs.declared.event.Event.{Event}
use Rattle.shards.specs.Known.{book_then}
use Rattle.shard_rows.specs.Units.{IsPlain, told_of}
use Rattle.shard_rows.proofs.Events.{plain_begun}
use Rattle.shard_rows.proofs.Turning.{alike, stays}
use Rattle.shard_rows.proofs.leaving.leave_store.Goals as goal

pub leave_store-requires-clause-returns : goal.leave_store-requires-clause-returns
leave_store-requires-clause-returns c = stays _ c.args.turn.was c.args.unit _

pub leave_store-requires-clause-event : goal.leave_store-requires-clause-event
leave_store-requires-clause-event c = λ said. (c.requires.event said, tt)

pub returns-clause-alike : goal.returns-clause-alike
returns-clause-alike c = let got = c.leave_store.ensures.known in alike c.args.turn.known _ c.args.turn.shard (told_of c.args.turn.was) (told_of c.args.unit) c.args.hand got.0 got.1
    (λ said plain. let e = got.2 said in subst (λ (o : Option Event). IsPlain (book_then c.args.turn.known.desk.book o)) (sym e.0)
    (plain_begun c.args.turn.known.desk.book c.args.op.now c.requires.plain plain))
