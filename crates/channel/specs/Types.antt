-- What a log of type records keeps.
use Rattle.std.specs.Prelude.{◌≡◌}
use Rattle.gated_log.specs.State.{LogState}

-- it is the same log: the file and the header stay, whatever is added to it
pub record IsSameLog (old new : LogState) : Type 0 where
  pub file : new.file ≡ old.file
  pub header : new.header ≡ old.header
