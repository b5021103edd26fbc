-- The bytes of a text.
use Rattle.std.specs.Prelude.{ℕ, List, codes, string_bytes}
use Rattle.type_desc.specs.declared.text.Letters.{Letters}
use Rattle.type_desc.specs.declared.text.Letters.TheVariants.{Own, Root, Target}

-- its own bytes, or those of a built-in name
abbrev pub bytes_of : Letters → List ℕ
bytes_of (Own string) = string_bytes string
bytes_of Root = codes "Root"
bytes_of Target = codes "target"
