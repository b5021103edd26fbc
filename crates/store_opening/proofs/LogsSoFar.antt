-- The logs that were read so far, and one more.
use Rattle.std.proofs.Common.{◌≡◌, ℕ, ◌+◌, ◌<◌, List, [], ◌∷◌, ◌++◌, length, Result, Ok, Err, IsErrAnd, IsErrOf, sym, subst, arith, inl, inr}
use Rattle.std.proofs.lemmas.Bool.{cases_order}
use Rattle.std.proofs.lemmas.Option.{slice_get_cases}
use Rattle.store_io.specs.Disk.{Only}
use Rattle.channel.specs.Images.{HasLog, Image}
use Rattle.recovery.specs.Images.{image_at}
use Rattle.disk_opening.specs.declared.logs.ChannelLog.{ChannelLog}
use Rattle.store_opening.specs.Damage.{HaveLogsBelow, IsFirstWrongLog}
use Rattle.store_opening.specs.Left.{AreSyncedBelow, LeaveNoMore, Leaves, leaves_at}
use Rattle.store_opening.specs.LogsRead.{AreLogsOpen, AreLogsRead, IsLogOpen, IsLogRead}
use Rattle.store_opening.specs.WrongFiles.{IsWrongLog}
use Rattle.store_opening.specs.declared.fault.Cause.{Cause}
use Rattle.store_opening.proofs.SyncedDisks.{each_more, only_still}

pub logs_below : (n place : ℕ) (images : List Image) (logs : List ChannelLog) → length images ≡ n → length logs ≡ place → AreLogsRead n images logs → HaveLogsBelow images place
logs_below n place images logs many count read i below = elim (slice_get_cases logs i).1 [
  | inl t ↦ subst (λ (k : ℕ). HasLog k i (image_at images i)) (sym many) (read i t.0 t.2).has
  | inr past ↦ absurd (omega (arith, past.0))
]

pub first_wrong : (n j place : ℕ) (images : List Image) (logs : List ChannelLog) (cause : Cause) → length images ≡ n → length logs ≡ place → place < n → AreLogsRead n images logs
    → (j ≡ place) × IsWrongLog n place (image_at images place 0) cause → IsFirstWrongLog images j cause
first_wrong n j place images logs cause many count within read wrong = subst (λ (k : ℕ). IsFirstWrongLog images k cause) (sym wrong.0) record {
  within = omega (arith, many);
  front = logs_below n place images logs many count read;
  wrong = subst (λ (k : ℕ). IsWrongLog k place (image_at images place 0) cause) (sym many) wrong.1;
}

pub open_more : (n place : ℕ) (logs : List ChannelLog) (l : ChannelLog) → length logs ≡ place → AreLogsOpen n logs → IsLogOpen n place l → AreLogsOpen n (logs ++ l ∷ [])
open_more n place logs l count all here = each_more (λ (j : ℕ) (k : ChannelLog). IsLogOpen n j k) logs l all (subst (λ (j : ℕ). IsLogOpen n j l) (sym count) here)

pub read_more : (n place : ℕ) (images : List Image) (logs : List ChannelLog) (l : ChannelLog) → length logs ≡ place → AreLogsRead n images logs → IsLogRead n place (image_at images place) l
    → AreLogsRead n images (logs ++ l ∷ [])
read_more n place images logs l count all here =
    each_more (λ (j : ℕ) (k : ChannelLog). IsLogRead n j (image_at images j) k) logs l all (subst (λ (j : ℕ). IsLogRead n j (image_at images j) l) (sym count) here)

-- the files in front stay synced, and the next one is
pub synced_more : (place file : ℕ) (images : List Image) (old new : List Leaves) → AreSyncedBelow place file images old → LeaveNoMore old new
    → Only (image_at images place file) (leaves_at new place file) → AreSyncedBelow (place + 1) file images new
synced_more place file images old new all less here i below = elim (cases_order i place) [
  | inl e ↦ subst (λ (j : ℕ). Only (image_at images j file) (leaves_at new j file)) (sym e) here
  | inr (inl lt) ↦ only_still file (image_at images i file) old new i less (all i lt)
  | inr (inr gt) ↦ absurd (omega arith)
]

pub same_fault : {T E : Type 0} (r : Result T E) (e d : E) → IsErrAnd r (λ f. f ≡ e) → IsErrOf r d → e ≡ d
same_fault (Ok x) e d is was = absurd is
same_fault (Err f) e d is was = cc
