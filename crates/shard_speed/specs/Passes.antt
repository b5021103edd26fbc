-- A unit that tells nothing, and what its turns leave of a pass.
use Rattle.std.specs.Prelude.{◌≡◌, ℕ, false, None, []}
use Rattle.core_steps.specs.declared.unit.Ending.TheVariants.{Sound}
use Rattle.core_steps.specs.Told.{Told}
use Rattle.shards.specs.Known.{Known}

abbrev pub untold : Told
untold = record { part = None; ending = Sound; faults = 0; failed = false; full = false; next_id = 0; log_channels = 0; prepared = None; types = []; tried = None }

-- the actor, those that joined it, and how many actors there are
abbrev pub IsAlike : {C : Type 0} → Known C → Known C → Type 0
IsAlike v w = (w.own.actor ≡ v.own.actor) × (w.joined ≡ v.joined) × (w.desk.made ≡ v.desk.made) × (w.tells ≡ v.tells)

-- the session's pass, which no other has joined, where there are so many actors
abbrev pub IsSession : {C : Type 0} → ℕ → Known C → Type 0
IsSession n v = (v.own.actor ≡ 0) × (v.joined ≡ []) × (v.desk.made ≡ n) × (v.tells ≡ false)
