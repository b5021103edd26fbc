use Rattle.std.proofs.Common.{arith, ℕ, sym, ap, ◌∙◌, eqb, subst}
use mathlib.Core.Option.{none}
use prog.Atomic.{either}
use Rattle.atomic_table.specs.Table.{Allows, step}
use Rattle.shards.specs.Kept.{Kept}
use Rattle.shards.specs.Known.{ShardsState}
use Rattle.shards.specs.Plays.{tried}
use Rattle.shards.proofs.Steps.{tries}
use Rattle.shards.proofs.shards.try_word.Goals as goal

pub compare_exchange-requires : goal.compare_exchange-requires
compare_exchange-requires g c = let size = c.shards.invariant in let told = g.C.CoreUnit.told in let me = c.args.seat.now.me in let slot_count : ℕ = c.shards.inside.table.shared.table_id.slots in
    let count = ap (λ (s : ShardsState). s.channels) c.shards.view_is in let shard = c.requires.shard in let place = c.word_of.ensures in (
      c.requires.table ∙ sym (ap (λ (s : ShardsState). s.table) c.shards.view_is),
      omega arith,
      subst (λ (w : ℕ). Allows (Kept told g.C.BackedUnit.backs) slot_count c.args.seat.now.id me w (λ n. either (eqb n 0) 1 n) (tried told (step slot_count w 0 1 none) me)) (sym place)
          (tries told g.C.BackedUnit.backs _ _ _ c.args.shard (omega arith) c.requires.live c.requires.free),
    )

pub returns-clause-free : goal.returns-clause-free
returns-clause-free g c = (c.compare_exchange.ensures.2 c.args.shard c.word_of.ensures).0

pub returns-clause-taken : goal.returns-clause-taken
returns-clause-taken g c = (c.compare_exchange.ensures.2 c.args.shard c.word_of.ensures).1
