-- A type record that was to be kept on channel 0, and what is there after each answer.
use Rattle.std.proofs.Common.{◌≡◌, ◌⊎◌, inl, inr, ℕ, ◌+◌, Bool, false, List, [], ◌∷◌, ◌++◌, length, take, drop, Option, Some, None, Result, Err, IsTrue, IfSome, refl, sym, ap, subst, ◌∙◌, arith}
use Rattle.std.specs.Prelude.{IfErr, IsErrOf}
use Rattle.std.proofs.lemmas.List.{take-append-le, take_at}
use Rattle.store_io.specs.Disk.{Only}
use Rattle.store_io.specs.Whole.{EachImage, IsImage}
use Rattle.gated_log.specs.State.{LogState}
use Rattle.gated_log.specs.Log.{Each, IsLogOf, payloads_of}
use Rattle.gated_log.specs.Of.{IsOf}
use Rattle.gated_log.proofs.Payloads.{before_or_after}
use Rattle.core_steps.specs.declared.unit.Ending.{Ending}
use Rattle.core_steps.specs.Told.{Tried}
use Rattle.transactions_file.specs.Transactions.{Transactions}
use Rattle.channel_files.specs.declared.fault.FilesFault.{FilesFault}
use Rattle.channel_files.specs.declared.fault.FilesFault.TheVariants as files
use Rattle.channel_files.specs.Chunks.{Chunk, content_of}
use Rattle.channel_files.specs.Channel.{Channel}
use Rattle.channel_files.specs.Heads.{full_record}
use Rattle.channel_files.specs.Outcomes.{IsAppended, Stays}
use Rattle.channel_files.specs.Shows.{Shows}
use Rattle.channel_files.proofs.Appended.{each_shows}
use Rattle.channel.specs.Images.{log_header}
use Rattle.channel.specs.ChunkRule.{AreRightTo}
use Rattle.channel.specs.Shown.{EndsAt, disk_held}
use Rattle.channel.proofs.ShownParts.{ends_shown}
use Rattle.channel.specs.declared.fault.ChannelFault.{ChannelFault}
use Rattle.channel.specs.declared.fault.ChannelFault.TheVariants as channel
use Rattle.channel.specs.Faults.{UnlessFault}
use Rattle.channel.specs.State.{ChannelState}
use Rattle.channel.specs.Core.{core_of, last_part, log_next_id, payloads_kept, types_kept}
use Rattle.channel.specs.OnDisk.{AgreesWithImages, HoldsChannel, HoldsWith}
use Rattle.channel.specs.Sound.{IsSound, HasRoom}
use Rattle.channel.proofs.Images.{holds_shown, kept_in}
use Rattle.channel.proofs.OnDisks.{KeepsRows, core_still, on_disk_still, waits_same}
use Rattle.channel.proofs.Sounds.{SameFiles, called, keeps_rows, room_called, sound_called}

-- the log with one record more, of so many bytes
abbrev pub log_with : LogState → ℕ → LogState
log_with log size = record log { length = log.length + 5 + size; count = log.count + 1 }

-- `Full` comes where the log takes no record, and leaves the disk
pub full_stays : {A : Type 0} (P : Type 0) (r : Result A FilesFault) (number : ℕ) (o : Option ℕ)
    → IfSome o (λ n. IsErrOf r (files.Full n) × P) → (o ≡ None → IfErr r (λ e. e ≡ files.Fault)) → r ≡ Err (files.Full number) → P
full_stays P r number (Some n) full not_full is = full.1
full_stays {A} P r number None full not_full is = absurd (wrong number (subst (λ (r : Result A FilesFault). IfErr r (λ e. e ≡ files.Fault)) is (not_full refl)))
  where
    wrong : (n : ℕ) → files.Full n ≡ files.Fault → ⊥
    wrong n is = cc

-- what holds holds unless the answer is `Fault`
pub unless_full : (A : Type 0) (f : ChannelFault) (number : ℕ) (P : Type 0) → f ≡ channel.Full number → P → UnlessFault {A = A} (Err f) P
unless_full A f number P is holds = subst (λ (f : ChannelFault). UnlessFault {A = A} (Err f) P) (sym is) holds

-- the bytes that a vector has once they were written over as many
pub written_over : (count : ℕ) (out items : List ℕ) → length out ≡ count → take count (out ++ drop (length out) items) ≡ out
written_over count out items is = take_at out (drop (length out) items) count is

-- what is kept, where another record stands behind it or not
pub kept_before : (payloads now : List (List ℕ)) (text : List ℕ) (count : ℕ) → count ≡ length payloads → (now ≡ payloads) ⊎ (now ≡ payloads ++ text ∷ []) → take count now ≡ take count payloads
kept_before payloads now text count is (inl same) = ap (take count) same
kept_before payloads now text count is (inr more) = ap (take count) more ∙ take-append-le count payloads (text ∷ []) (omega (arith, is))

-- a channel that had not failed called its files, with this answer
pub record TypeCall {D A : Type 0} (tells : Bool) (reads : D → ℕ → List ℕ) (leaves : D → ℕ → List ℕ → Bool)
    (old : ChannelState D) (new : Channel D) (log log_now : LogState) (text : List ℕ) (result : Result A FilesFault) : Type 0 where
  pub was : IsSound tells reads old
  pub sound : old.failed ≡ false
  pub types_are : old.types ≡ Some log
  pub appended : IsAppended tells reads leaves old.files.disk new.disk log text result
  pub stays : Stays tells reads leaves old.files new

module _ {D A : Type 0} {tells : Bool} {reads : D → ℕ → List ℕ} {leaves : D → ℕ → List ℕ → Bool} {old : ChannelState D} {new : Channel D} {log log_now : LogState}
    {text : List ℕ} {result : Result A FilesFault} (call : TypeCall tells reads leaves old new log log_now text result) where
  same_files : SameFiles old.files new
  same_files = record { transactions = call.stays.transactions; sizes = call.stays.sizes; confirmed = call.stays.confirmed }

  -- ---- the channel

  module _ (ending : Ending) (failed : Bool) (tried : Option Tried) where
    pub keeps : IsTrue tells → KeepsRows reads old (called old new (Some log_now) ending failed tried)
    keeps told = keeps_rows old new (Some log_now) ending failed tried reads same_files (call.stays.content told)

    pub sound_typed : old.number ≡ 0 → log_now.file ≡ log.file → (IsTrue tells → failed ≡ false → IsOf log_now (reads new.disk 1))
        → IsSound tells reads (called old new (Some log_now) ending failed tried)
    sound_typed on_0 file there =
        sound_called old new (Some log_now) ending failed tried tells reads call.was same_files (λ _. refl, λ _. on_0)
        (file ∙ subst (λ (o : Option LogState). IfSome o (λ log. log.file ≡ 1)) call.types_are call.was.types_file)
        (λ told fine.
        on_disk_still reads old (called old new (Some log_now) ending failed tried) (keeps told)
        (call.was.on_disk told call.sound) (call.stays.of_disk told) (there told fine)
        (waits_same reads old (called old new (Some log_now) ending failed tried) (keeps told) (call.was.on_disk told call.sound) (ap (λ (t : Transactions). t.inventory.state) call.stays.transactions)))

    pub room_typed : (spare : ℕ) → HasRoom old spare → HasRoom (called old new (Some log_now) ending failed tried) spare
    room_typed spare room = room_called old new (Some log_now) ending failed tried spare room same_files (λ _. call.sound)

    -- what the channel stands for stays
    pub core_typed : IsTrue tells → core_of reads (called old new (Some log_now) ending failed tried) ≡ core_of reads old
    core_typed told = core_still reads old (called old new (Some log_now) ending failed tried) (keeps told) (call.was.on_disk told call.sound)

    -- each image agrees with what is read
    pub images_typed : IsTrue tells → AgreesWithImages reads leaves old → Each (leaves new.disk 1) (IsLogOf log_now.header (payloads_of (reads new.disk 1)))
        → AgreesWithImages reads leaves (called old new (Some log_now) ending failed tried)
    images_typed told agrees types = record { files = call.stays.as_read told agrees.files; types = types }

  -- ---- the log of types

  log_of_disk : IsTrue tells → IsOf log (reads old.files.disk 1)
  log_of_disk told = subst (λ (o : Option LogState). IfSome o (λ log. IsOf log (reads old.files.disk 1))) call.types_are (call.was.on_disk told call.sound).types

  log_images : AgreesWithImages reads leaves old → Each (leaves old.files.disk 1) (IsLogOf log.header (payloads_of (reads old.files.disk 1)))
  log_images agrees =
      subst (λ (o : Option LogState). IfSome o (λ log. Each (leaves old.files.disk 1) (IsLogOf log.header (payloads_of (reads old.files.disk 1))))) call.types_are agrees.types

  kept_are : IsTrue tells → types_kept reads old ≡ payloads_of (reads old.files.disk 1)
  kept_are told = ap (payloads_kept (reads old.files.disk 1)) call.types_are ∙ kept_in (Some log) (reads old.files.disk 1) (log_of_disk told)

  -- at `Full` nothing changed
  same_disk : (number : ℕ) → result ≡ Err (files.Full number) → new.disk ≡ old.files.disk
  same_disk number is = full_stays (new.disk ≡ old.files.disk) result number (full_record log.length) call.appended.full call.appended.not_full is

  pub log_at_full : (number : ℕ) → result ≡ Err (files.Full number) → log_now ≡ log → IsTrue tells → IsOf log_now (reads new.disk 1)
  log_at_full number is same told =
      subst (λ (l : LogState). IsOf l (reads new.disk 1)) (sym same) (subst (λ (d : D). IsOf log (reads d 1)) (sym (same_disk number is)) (log_of_disk told))

  pub images_at_full : (number : ℕ) → result ≡ Err (files.Full number) → log_now ≡ log → AgreesWithImages reads leaves old
      → Each (leaves new.disk 1) (IsLogOf log_now.header (payloads_of (reads new.disk 1)))
  images_at_full number is same agrees =
      subst (λ (l : LogState). Each (leaves new.disk 1) (IsLogOf l.header (payloads_of (reads new.disk 1)))) (sym same)
      (subst (λ (d : D). Each (leaves d 1) (IsLogOf log.header (payloads_of (reads d 1)))) (sym (same_disk number is)) (log_images agrees))

  -- what the disk reads has the records of before, or these and the new one
  pub not_kept : IsTrue tells → AgreesWithImages reads leaves old → IsTrue (leaves new.disk 1 (reads new.disk 1)) → log_now ≡ log
      → payloads_kept (reads new.disk 1) (Some log_now) ≡ types_kept reads old
  not_kept told agrees left same =
      let before = payloads_of (reads old.files.disk 1) in
      let with_or_not = before_or_after log.header before text (reads new.disk 1) (call.appended.stop told (log_images agrees) (reads new.disk 1) left) in
      ap (λ (l : LogState). payloads_kept (reads new.disk 1) (Some l)) same
      ∙ kept_before before (payloads_of (reads new.disk 1)) text log.count (log_of_disk told).count with_or_not
      ∙ sym (ap (payloads_kept (reads old.files.disk 1)) call.types_are)

  -- ---- each image

  shown_still : IsTrue tells → AgreesWithImages reads leaves old
      → EachImage (leaves new.disk) (Shows new.transactions.log.header (last_part old) (log_next_id old) 0 0 (content_of (reads old.files.disk)))
  shown_still told agrees image left =
      let header = new.transactions.log.header in
      let shown = each_shows new.transactions (reads new.disk) (leaves new.disk) (call.stays.of_disk told) (call.stays.as_read told agrees.files) image left in
      subst (λ (l : List Chunk). Shows header (last_part old) (log_next_id old) 0 0 l image) (call.stays.content told)
      (subst (λ (t : Transactions). Shows header t.inventory.state.last t.inventory.state.next_id 0 0 (content_of (reads new.disk)) image) call.stays.transactions shown)

  holds_with : IsTrue tells → AgreesWithImages reads leaves old → (types : List (List ℕ)) (image : ℕ → List ℕ) → IsImage (leaves new.disk) image
      → IsLogOf log.header types (image 1) → HoldsWith reads old types image
  holds_with told agrees types image left there =
      holds_shown reads old (call.was.on_disk told call.sound) image types (shown_still told agrees image left)
      (subst (λ (o : Option LogState). IfSome o (λ log. IsLogOf log.header types (image 1))) (sym call.types_are) there)

  -- each has what the channel stands for, and the record or not
  pub stop_typed : IsTrue tells → AgreesWithImages reads leaves old
      → EachImage (leaves new.disk) (λ image. HoldsChannel reads old image ⊎ HoldsWith reads old (types_kept reads old ++ text ∷ []) image)
  stop_typed told agrees image left =
      let kept = types_kept reads old in
      let same = sym (kept_are told) in
      elim (call.appended.stop told (log_images agrees) (image 1) (left 1)) [
        | inl without ↦ inl (holds_with told agrees kept image left (subst (λ (l : List (List ℕ)). IsLogOf log.header l (image 1)) same without))
        | inr with ↦ inr (holds_with told agrees (kept ++ text ∷ []) image left (subst (λ (l : List (List ℕ)). IsLogOf log.header (l ++ text ∷ []) (image 1)) same with))
      ]

  -- so each image ends with what the disk held
  pub ends_typed : IsTrue tells → AgreesWithImages reads leaves old → old.files.transactions.log.header ≡ log_header old.channels old.number → (most : ℕ)
      → AreRightTo old.channels old.number most (last_part old) (content_of (reads old.files.disk))
      → EachImage (leaves new.disk) (EndsAt old.channels old.number (last_part old) most (disk_held reads old))
  ends_typed told agrees header most right image left = ends_shown reads leaves old (call.was.on_disk told call.sound) agrees header most right image
      (subst (λ (t : Transactions). Shows t.log.header (last_part old) (log_next_id old) 0 0 (content_of (reads old.files.disk)) image) call.stays.transactions (shown_still told agrees image left))

-- where a stop leaves what is read and nothing else, it leaves the log
pub synced_log : (log : LogState) (bytes : List ℕ) (leaves : List ℕ → Bool) → Only bytes leaves → IsOf log bytes → Each leaves (IsLogOf log.header (payloads_of bytes))
synced_log log bytes leaves only is image left = subst (IsLogOf log.header (payloads_of bytes)) (sym (only image left)) is.is
