-- Which word of the table is which shard's.
use Rattle.std.specs.Prelude.{ℕ, ◌*◌}

-- the words of two shards lie 128 bytes apart; the stop word is that of the shard behind the last
abbrev pub word_of : ℕ → ℕ
word_of k = k * 16
