use Rattle.std.proofs.Common.{◌≡◌}
use Rattle.shard_speed.proofs.exchanges.exchange_often.Given as goal

abbrev pub invariant-loop-number : goal.invariant-loop-number
invariant-loop-number l = (l.seat.table_id ≡ l.table.shared.table_id) × (l.table.shared.table_id.words ≡ 1)
