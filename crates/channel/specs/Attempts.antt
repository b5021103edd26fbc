-- What a channel keeps of what it tried in vain.
use Rattle.std.specs.Prelude.{ℕ, List, take, Option, Some, None}
use Rattle.core_steps.specs.Told.{Tried, TriedPart, TriedType}
use Rattle.channel.specs.declared.channel.Attempt.{Attempt}
use Rattle.channel.specs.declared.channel.Attempt.TheVariants.{Part, Record}

-- a type record stands at the front of the window
abbrev pub tried_of : List ℕ → Option Attempt → Option Tried
tried_of window None = None
tried_of window (Some (Part number next_id)) = Some (TriedPart number next_id)
tried_of window (Some (Record length)) = Some (TriedType (take length window))
