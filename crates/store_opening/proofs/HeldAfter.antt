-- Disks of which the last stores were taken back that not all channels have hold what they held.
use Rattle.std.proofs.Common.{◌≡◌, ℕ, zero, suc, ◌<◌, List, [], ◌∷◌, length, get_or, Option, Some, None, sym, ap, ◌∙◌, subst, arith, inl, inr, ⊎_elim}
use Rattle.std.specs.Prelude.{All, Contains}
use Rattle.tx_entry.specs.declared.entry.Entry.{Entry}
use Rattle.tx_entry.specs.declared.entry.Entry.TheVariants.{Creation, Store, Transfer, Truncation, Deletion}
use Rattle.transactions_file.specs.Inventory.{State}
use Rattle.channel_files.specs.Shows.{newest_of}
use Rattle.store_agreement.specs.Agreement.{Agrees, IsStoreOf, numbers_of}
use Rattle.store_agreement.specs.declared.agreement.Last.{Last}
use Rattle.channel.specs.ChunkRule.{HasRightChunks}
use Rattle.channel.specs.Images.{HasLog, Image, state_of}
use Rattle.channel.specs.Shown.{IsLastOrNext, ShowsAt, disk_at}
use Rattle.recovery.specs.Disks.{ShowAlike}
use Rattle.recovery.specs.Images.{image_at, last_of, lasts_of}
use Rattle.recovery.specs.Stored.{HasTypes, IsStored, Stored}
use Rattle.store_opening.specs.TakenBack.{AreAfter, IsAfter}
use Rattle.store_opening.proofs.ShownAgain.{ends_after, same_state, shows_same}

newest_is : (number : ℕ) (o : Option Entry) → IsStoreOf number o → newest_of o ≡ number
newest_is number (Some (Store n file at len next_id)) is = is
newest_is number (Some (Creation file)) is = absurd is
newest_is number (Some (Transfer source file at len)) is = absurd is
newest_is number (Some (Truncation file n d)) is = absurd is
newest_is number (Some (Deletion file)) is = absurd is
newest_is number None is = absurd is

last_or_next : (m : ℕ) (image : Image) → Agrees m (last_of image) → IsLastOrNext m (state_of image)
last_or_next m image (inl e) = inl e
last_or_next m image (inr t) = inr (t.0, newest_is (state_of image).last (state_of image).entry t.1)

-- how the image of a channel ends
end_at : (P : Last → Type 0) (images : List Image) (j : ℕ) → j < length images → All P (lasts_of images) → P (last_of (image_at images j))
end_at P [] j within all = absurd (omega arith)
end_at P (image ∷ images) zero within all = all 0 (last_of image) (omega arith)
end_at P (image ∷ images) (suc j) within all = end_at P images j (omega arith) (λ k d lt. all (suc k) d (omega arith))

-- some channel ends with a number that is one of theirs
one_ends : (m : ℕ) (images : List Image) → Contains (numbers_of (lasts_of images)) m → (j : ℕ) × (j < length images) × ((state_of (image_at images j)).last ≡ m)
one_ends m [] c = absurd (omega (arith, c.1))
one_ends m (image ∷ images) c = by (one_ends m images) c.0 c.1 c.2
  where
    by : (Contains (numbers_of (lasts_of images)) m → (j : ℕ) × (j < length images) × ((state_of (image_at images j)).last ≡ m))
        → (k : ℕ) → k < length (numbers_of (lasts_of (image ∷ images))) → get_or (numbers_of (lasts_of (image ∷ images))) k m ≡ m
        → (j : ℕ) × (j < length (image ∷ images)) × ((state_of (image_at (image ∷ images) j)).last ≡ m)
    by rest zero lt is = (0, omega arith, is)
    by rest (suc k) lt is = let t = rest (k, omega arith, is) in (suc t.0, omega (arith, t.1), t.2)

module _ (n j m next : ℕ) (old new : Image) (has : HasLog n j old) (agrees : Agrees m (last_of old)) (right : HasRightChunks n j next m old) (after : IsAfter n j m old new) where
  shows_after : ShowsAt n j m next (disk_at m old) new
  shows_after = ⊎_elim
      (λ same. shows_same n j m next old new has after.files same after.log.is_log (last_or_next m old agrees) right)
      (λ t. (ends_after n j m next old new has after.files t.1.file t.1.at t.1.dropped t.1.last t.0 t.1.again t.1.split after.log.is_log right).shows)
      after.log.same

  -- a channel that ended at the number ends there still
  ends_still : (state_of old).last ≡ m → (state_of new).last ≡ m
  ends_still is = ⊎_elim
      (λ same. ap (λ (s : State). s.last) (same_state n j m next old new has after.files same) ∙ is)
      (λ t. let ahead = t.0 in absurd (omega arith))
      after.log.same

module _ (old new : List Image) (what : Stored) (is : IsStored old what) (after : AreAfter what.number old new) where
  some : 0 < length old
  some = let t = is.next_id.one in omega (arith, t.1)

  agrees_at : (j : ℕ) → j < length old → Agrees what.number (last_of (image_at old j))
  agrees_at j lt = end_at (Agrees what.number) old j lt is.agreed.each

  pub alike_after : ShowAlike old new what.number what.next_id
  alike_after = record {
    some = some;
    many = after.many;
    shows = λ j lt. shows_after (length old) j what.number what.next_id (image_at old j) (image_at new j) (is.logs j lt) (agrees_at j lt) (is.chunks j lt) (after.each j lt);
    ends = let t = one_ends what.number old is.agreed.least.one in (
      t.0,
      t.1,
      ends_still (length old) t.0 what.number what.next_id (image_at old t.0) (image_at new t.0) (is.logs t.0 t.1) (agrees_at t.0 t.1) (is.chunks t.0 t.1) (after.each t.0 t.1) t.2,
    );
  }

  pub types_after : HasTypes (length new) (image_at new 0) what.types
  types_after = subst (λ (n : ℕ). HasTypes n (image_at new 0) what.types) (sym after.many) record {
    file = after.types_file;
    few = is.types.few;
    recorded = is.types.recorded;
    spelled = after.types ∙ is.types.spelled;
  }
