-- What a `Region` ends as, where a block's bytes are lent to be written.
use Rattle.std.specs.Prelude.{ℕ, List}
use Rattle.std.specs.Borrow.{Lends, Fml, MutBor, Array, u8}
use Rattle.entity_region.specs.Space.{Space, with_bytes}
use Rattle.entity_region.specs.contracts.region.Region.{the_row}

-- once the borrow r ends, the last bytes written through r stand from the block's offset on
abbrev pub LendsBytes : MutBor Space → ℕ → MutBor (List ℕ) → Fml
LendsBytes s number r = Lends the_row (Array u8 0) s r (with_bytes s.now number)
