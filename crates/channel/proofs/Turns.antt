-- What a look-up of an id that the table lacks leaves of what a channel tells.
use Rattle.std.proofs.Common.{◌≡◌, inr, ℕ, Bool, true, false, cond, List, Some, None, IsTrue, refl, sym, ap, subst, ◌∙◌, arith}
use Rattle.std.proofs.lemmas.Bool.{false≢true}
use Rattle.core_steps.specs.declared.unit.Ending.{Ending}
use Rattle.core_steps.specs.declared.unit.Ending.TheVariants as ending
use Rattle.core_steps.specs.Rows.{Channel as IsChannel}
use Rattle.channel.specs.Core.{core_of, told_of}
use Rattle.channel.specs.Sound.{IsSound}
use Rattle.channel.specs.State.{ChannelState}
use Rattle.channel.specs.Turns.{IsRightEnding, IsTurn}
use Rattle.channel.proofs.Sounds.{called}

pub silent : (tells : Bool) → (IsTrue tells → ⊥) → tells ≡ false
silent true wrong = absurd (wrong refl)
silent false wrong = refl

-- `sound` is there so that the channel is known at a call
pub turn_gone : {D : Type 0} (tells : Bool) (reads : D → ℕ → List ℕ) (faults : D → ℕ) (c : ChannelState D) (end : Ending) (failed : Bool) (id : ℕ) → IsSound tells reads c → end ≡ ending.Broken id
    → failed ≡ c.failed → tells ≡ false → IsTurn (told_of tells reads faults c) (told_of tells reads faults (called c c.files c.types end failed c.tried))
turn_gone tells reads faults c end failed id sound ends same quiet =
    let now = told_of tells reads faults (called c c.files c.types end failed c.tried) in record {
      goes_on = record { faults = omega arith; full = λ full. full; failed = λ fails fine. absurd (false≢true (sym fine ∙ (sym same ∙ fails))) };
      ends = inr (subst (λ (e : Ending). IsRightEnding e now) (sym ends) (ap (λ (b : Bool). cond b (Some (IsChannel (core_of reads c))) None) quiet));
    }
