-- The disks of a run.
use Rattle.std.specs.Prelude.{◌≡◌, List, [], ◌∷◌}

-- P of the one disk, before and after
abbrev pub OfOneDisk : {D : Type 0} → List D → List D → (D → D → Type 0) → Type 0
OfOneDisk {D} before after P = (old new : D) → before ≡ old ∷ [] → after ≡ new ∷ [] → P old new
