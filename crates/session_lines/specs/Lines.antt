-- The lines that are printed.
use Rattle.std.specs.Prelude.{◌≡◌, ℕ, List, [], ◌∷◌, ◌++◌}
use Rattle.graph_export.specs.Line.{HasNoFeed}

-- one line: a text without a line feed, and the line feed that ends it
pub record IsLine (bytes : List ℕ) : Type 0 where
  pub text : List ℕ
  pub bytes_is : bytes ≡ text ++ 10 ∷ []
  pub no_feed : HasNoFeed text
