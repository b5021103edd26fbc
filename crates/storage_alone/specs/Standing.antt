-- What a channel gives away of itself by its invariant.
use Rattle.std.specs.Prelude.{◌≡◌, ℕ, Bool, false, IsTrue, List}
use Rattle.store_io.specs.Whole.{EachImage}
use Rattle.channel.specs.Left.{EndsOrTried, HoldsOrTried}
use Rattle.channel.specs.OnDisk.{HoldsChannel}
use Rattle.channel.specs.Sound.{IsSound}
use Rattle.channel.specs.State.{ChannelState}

-- the channel is sound, what is read is what it holds, and each image has that, or with it what was tried in vain
pub record IsStanding {D : Type 0} (tells : Bool) (reads : D → ℕ → List ℕ) (leaves : D → ℕ → List ℕ → Bool) (c : ChannelState D) : Type 0 where
  pub sound : IsSound tells reads c
  pub read : IsTrue tells → c.failed ≡ false → HoldsChannel reads c (reads c.files.disk)
  pub images : IsTrue tells → EachImage (leaves c.files.disk) (HoldsOrTried reads c)
  pub ends : IsTrue tells → EachImage (leaves c.files.disk) (EndsOrTried reads c)
