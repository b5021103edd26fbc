-- What each image shows of a channel's chunks, with or without a part that was to be stored.
use Rattle.std.proofs.Common.{◌≡◌, ◌⊎◌, ℕ, ◌+◌, ◌≤◌, List, [], ◌∷◌, ◌++◌, length, map, Bool, Option, Some, Result, IsTrue, IfSome, inl, inr, sym, subst}
use Rattle.std.specs.List.{AllByRecursion}
use Rattle.store_io.specs.Whole.{EachImage, IsImage}
use Rattle.gated_log.specs.Log.{payloads_of}
use Rattle.graph_model.specs.declared.entity.Record.{Record}
use Rattle.channel_files.specs.declared.fault.FilesFault.{FilesFault}
use Rattle.channel_files.specs.declared.place.Place.{Place}
use Rattle.channel_files.specs.Channel.{Channel}
use Rattle.channel_files.specs.Chunks.{Range, chunk_at, content_of, ranges_of}
use Rattle.channel_files.specs.Heads.{chunk_of}
use Rattle.channel_files.specs.Outcomes.{IsStored, next_place}
use Rattle.channel_files.specs.Shows.{Shows}
use Rattle.channel_files.proofs.Appended.{each_shows}
use Rattle.channel_files.proofs.Within.{AllWithin, all_fit}
use Rattle.channel.specs.ChunkRule.{AllUpTo, AreRightTo, IsOwn}
use Rattle.channel.specs.Core.{last_part, log_next_id}
use Rattle.channel.specs.Entities.{chunk_for}
use Rattle.channel.specs.Images.{log_header}
use Rattle.channel.specs.OnDisk.{AgreesWithImages, IsOnDisk}
use Rattle.channel.specs.Parts.{IsPart}
use Rattle.channel.specs.Shown.{EndsAt, HasPart, disk_held}
use Rattle.channel.specs.State.{ChannelState}
use Rattle.channel.proofs.FromShows.{ends_from_shows}
use Rattle.channel.proofs.PartShows.{has_part_from_shows}

pub numbers_to : (image : ℕ → List ℕ) (files : List (ℕ × ℕ)) (last : ℕ) (ranges : List Range) → AllWithin files last ranges → AllUpTo last (map (chunk_at image) ranges)
numbers_to image files last [] all = tt
numbers_to image files last (r ∷ ranges) all = (all.1.0, numbers_to image files last ranges all.1.1)

-- no chunk that is read has a number above the last part
pub all_read_to : {D : Type 0} (reads : D → ℕ → List ℕ) (c : ChannelState D) → IsOnDisk reads c → AllUpTo (last_part c) (content_of (reads c.files.disk))
all_read_to reads c on = numbers_to (reads c.files.disk) c.files.transactions.inventory.state.files (last_part c) (ranges_of (payloads_of (reads c.files.disk 0)))
    (all_fit (payloads_of (reads c.files.disk 0)) c.files.transactions.inventory.state on.of_disk.kept.inventory).within

module _ {D : Type 0} (reads : D → ℕ → List ℕ) (leaves : D → ℕ → List ℕ → Bool) (c : ChannelState D) (on : IsOnDisk reads c) (agrees : AgreesWithImages reads leaves c)
    (header : c.files.transactions.log.header ≡ log_header c.channels c.number) (most : ℕ) (right : AreRightTo c.channels c.number most (last_part c) (content_of (reads c.files.disk))) where
  all_to : AllUpTo (last_part c) (content_of (reads c.files.disk))
  all_to = numbers_to (reads c.files.disk) c.files.transactions.inventory.state.files (last_part c) (ranges_of (payloads_of (reads c.files.disk 0)))
      (all_fit (payloads_of (reads c.files.disk 0)) c.files.transactions.inventory.state on.of_disk.kept.inventory).within

  pub ends_shown : (image : ℕ → List ℕ) → Shows c.files.transactions.log.header (last_part c) (log_next_id c) 0 0 (content_of (reads c.files.disk)) image
      → EndsAt c.channels c.number (last_part c) most (disk_held reads c) image
  ends_shown image shown = ends_from_shows c.channels c.number (last_part c) (log_next_id c) 0 0 (content_of (reads c.files.disk)) image
      (subst (λ (h : List ℕ). Shows h (last_part c) (log_next_id c) 0 0 (content_of (reads c.files.disk)) image) header shown) most right

  pub each_ends : EachImage (leaves c.files.disk) (EndsAt c.channels c.number (last_part c) most (disk_held reads c))
  each_ends image left = ends_shown image (each_shows c.files.transactions (reads c.files.disk) (leaves c.files.disk) on.of_disk agrees.files image left)

  pub ends_or_has : (tells : Bool) (files : Channel D) (number next : ℕ) (rs : List Record) (result : Result Place FilesFault) → IsPart rs
      → IsStored tells reads leaves c.files files number (chunk_for rs) next result → IsTrue tells → number ≡ last_part c + 1 → (image : ℕ → List ℕ) → IsImage (leaves files.disk) image
      → most ≤ next → AllByRecursion (IsOwn c.channels c.number next) rs
      → EndsAt c.channels c.number (last_part c) most (disk_held reads c) image ⊎ HasPart c.channels c.number (last_part c) most rs next (disk_held reads c) image
  ends_or_has tells files number next rs result part stored told is image left le own = elim (stored.shows told agrees.files image left) [
    | inl shown ↦ inl (ends_shown image shown)
    | inr shown ↦ inr (has_part_from_shows c.channels c.number (last_part c) most next (log_next_id c) (content_of (reads c.files.disk))
        (next_place c.files (length (chunk_for rs))) rs image
        (subst (λ (k : ℕ). Shows (log_header c.channels c.number) k next k (log_next_id c) (content_of (reads c.files.disk) ++ chunk_of k (next_place c.files (length (chunk_for rs))) (chunk_for rs) ∷ []) image) is
        (subst (λ (h : List ℕ). Shows h number next number (log_next_id c) (content_of (reads c.files.disk) ++ chunk_of number (next_place c.files (length (chunk_for rs))) (chunk_for rs) ∷ []) image) header shown))
        part own all_to right le)
  ]

  -- for what is prepared
  pub parts_held : (tells : Bool) (files : Channel D) (number next : ℕ) (rs : List Record) (o : Option (List Record)) (result : Result Place FilesFault) → o ≡ Some rs → IsPart rs
      → IsStored tells reads leaves c.files files number (chunk_for rs) next result → IsTrue tells → number ≡ last_part c + 1 → (image : ℕ → List ℕ) → IsImage (leaves files.disk) image
      → most ≤ next → IfSome o (AllByRecursion (IsOwn c.channels c.number next))
      → EndsAt c.channels c.number (last_part c) most (disk_held reads c) image ⊎ IfSome o (λ part. HasPart c.channels c.number (last_part c) most part next (disk_held reads c) image)
  parts_held tells files number next rs o result some part stored told is image left le own = elim
      (ends_or_has tells files number next rs result part stored told is image left le (subst (λ (q : Option (List Record)). IfSome q (AllByRecursion (IsOwn c.channels c.number next))) some own)) [
        | inl e ↦ inl e
        | inr h ↦ inr (subst (λ (q : Option (List Record)). IfSome q (λ part. HasPart c.channels c.number (last_part c) most part next (disk_held reads c) image)) (sym some) h)
      ]
