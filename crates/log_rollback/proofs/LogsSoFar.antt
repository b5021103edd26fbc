-- The logs that were taken back so far, and one more.
use Rattle.std.proofs.Common.{◌≡◌, ◌≢◌, ℕ, ◌+◌, ◌<◌, false, IsTrue, List, [], ◌∷◌, ◌++◌, length, map, sym, ap, ◌∙◌, subst, arith, inl, inr}
use Rattle.std.specs.Prelude.{slice_get}
use Rattle.std.proofs.lemmas.Bool.{cases_eq, cases_order}
use Rattle.std.proofs.lemmas.Option.{slice_get_within}
use Rattle.store_io.specs.Disk.{Only, OthersStay}
use Rattle.gated_log.specs.Log.{Each, length_of, payloads_of}
use Rattle.transactions_file.specs.Transactions.{Transactions}
use Rattle.channel.specs.Images.{Image, log_header, state_of}
use Rattle.recovery.specs.Images.{image_at}
use Rattle.store_opening.specs.Left.{AreSyncedBelow, Leaves, leaves_at}
use Rattle.store_opening.specs.TakenBack.{IsTakenBack}
use Rattle.store_opening.proofs.SyncedDisks.{each_more}
use Rattle.log_rollback.specs.Finished.{AllOthersStay, AreFinishedBelow, AreOpenAt, AreTakenBackOrNot, AreUntouchedFrom, HasHeader, HaveHeaders, IsFinished, IsOpenAt}
use Rattle.log_rollback.specs.Full.{IsFullAt}
use Rattle.log_rollback.proofs.OneDisk.{told_same}

abbrev no_image : Image
no_image = λ (file : ℕ). []

abbrev nothing : Leaves
nothing = λ (file : ℕ) (bytes : List ℕ). false

pub finished_at_first : (n m : ℕ) (old new : List Image) → AreFinishedBelow n m 0 old new
finished_at_first n m old new i below = absurd (omega arith)

pub synced_at_first : (file : ℕ) (images : List Image) (leaves : List Leaves) → AreSyncedBelow 0 file images leaves
synced_at_first file images leaves i below = absurd (omega arith)

-- one more of what holds below a number
pub below_more : (P : ℕ → Type 0) (place : ℕ) → ((i : ℕ) → i < place → P i) → P place → (i : ℕ) → i < place + 1 → P i
below_more P place all here i below = elim (cases_order i place) [
  | inl e ↦ subst P (sym e) here
  | inr (inl lt) ↦ all i lt
  | inr (inr gt) ↦ absurd (omega arith)
]

pub headers_more : (n place : ℕ) (logs : List Transactions) (t : Transactions) → length logs ≡ place → HaveHeaders n logs → HasHeader (log_header n place) t → HaveHeaders n (logs ++ t ∷ [])
headers_more n place logs t count all here = each_more (λ (j : ℕ) (q : Transactions). HasHeader (log_header n j) q) logs t all (subst (λ (j : ℕ). HasHeader (log_header n j) t) (sym count) here)

-- ONE DISK WAS CALLED, THE OTHERS ARE AS THEY WERE

module _ {A : Type 0} (reads : A → Image) (leaves : A → Leaves) (place : ℕ) (mid new : List A) (away : (i : ℕ) → i ≢ place → slice_get new i ≡ slice_get mid i) where
  read_away : (i : ℕ) → i ≢ place → image_at (map reads new) i ≡ image_at (map reads mid) i
  read_away i ne = told_same reads new mid i no_image (away i ne)

  left_away : (i : ℕ) → i ≢ place → leaves_at (map leaves new) i ≡ leaves_at (map leaves mid) i
  left_away i ne = told_same leaves new mid i nothing (away i ne)

  pub untouched_on : (first : List A) → AreUntouchedFrom place first mid → AreUntouchedFrom (place + 1) first new
  untouched_on first was i le = away i (λ e. absurd (omega arith)) ∙ was i (omega arith)

  pub open_more : (m : ℕ) (logs : List Transactions) (t : Transactions) → length logs ≡ place → AreOpenAt m (map reads mid) logs → IsOpenAt m (image_at (map reads new) place 0) t → AreOpenAt m (map reads new) (logs ++ t ∷ [])
  open_more m logs t count all here = each_more (λ (j : ℕ) (q : Transactions). IsOpenAt m (image_at (map reads new) j 0) q) logs t
      (λ j q is. let lt = slice_get_within logs j q is in subst (λ (i : Image). IsOpenAt m (i 0) q) (sym (read_away j (λ e. absurd (omega arith)))) (all j q is))
      (subst (λ (j : ℕ). IsOpenAt m (image_at (map reads new) j 0) t) (sym count) here)

  pub finished_on : (n m : ℕ) (images : List Image) → AreFinishedBelow n m place images (map reads mid) → AreFinishedBelow n m place images (map reads new)
  finished_on n m images all i below = subst (λ (k : Image). IsFinished (log_header n i) m (state_of (image_at images i)) (payloads_of (image_at images i 0)) (k 0)) (sym (read_away i (λ e. absurd (omega arith)))) (all i below)

  pub synced_more : AreSyncedBelow place 0 (map reads mid) (map leaves mid) → Only (image_at (map reads new) place 0) (leaves_at (map leaves new) place 0) → AreSyncedBelow (place + 1) 0 (map reads new) (map leaves new)
  synced_more all here = below_more (λ i. Only (image_at (map reads new) i 0) (leaves_at (map leaves new) i 0)) place
      (λ i below. subst (λ (k : Image). Only (k 0) (leaves_at (map leaves new) i 0)) (sym (read_away i (λ e. absurd (omega arith))))
      (subst (λ (l : Leaves). Only (image_at (map reads mid) i 0) (l 0)) (sym (left_away i (λ e. absurd (omega arith)))) (all i below)))
      here

  -- what is done with the disk that was called, which was as at first
  module _ (first : List A) (untouched : AreUntouchedFrom place first mid) where
    pub read_first : image_at (map reads mid) place ≡ image_at (map reads first) place
    read_first = told_same reads mid first place no_image (untouched place (omega arith))

    pub left_first : leaves_at (map leaves mid) place ≡ leaves_at (map leaves first) place
    left_first = told_same leaves mid first place nothing (untouched place (omega arith))

    pub finished_more : (n m : ℕ) → AreFinishedBelow n m place (map reads first) (map reads mid)
        → IsFinished (log_header n place) m (state_of (image_at (map reads mid) place)) (payloads_of (image_at (map reads mid) place 0)) (image_at (map reads new) place 0)
        → AreFinishedBelow n m (place + 1) (map reads first) (map reads new)
    finished_more n m all here = below_more (λ i. IsFinished (log_header n i) m (state_of (image_at (map reads first) i)) (payloads_of (image_at (map reads first) i 0)) (image_at (map reads new) i 0)) place
        (finished_on n m (map reads first) all)
        (subst (λ (k : Image). IsFinished (log_header n place) m (state_of k) (payloads_of (k 0)) (image_at (map reads new) place 0)) read_first here)

    pub left_on : (n m : ℕ) → AreTakenBackOrNot n m (map reads first) (map leaves mid)
        → Each (leaves_at (map leaves new) place 0) (IsTakenBack (log_header n place) m (state_of (image_at (map reads mid) place)) (payloads_of (image_at (map reads mid) place 0)))
        → AreTakenBackOrNot n m (map reads first) (map leaves new)
    left_on n m all here i within bytes left = elim (cases_eq i place) [
      | inl e ↦ subst (λ (j : ℕ). IsTakenBack (log_header n j) m (state_of (image_at (map reads first) j)) (payloads_of (image_at (map reads first) j 0)) bytes) (sym e)
          (subst (λ (k : Image). IsTakenBack (log_header n place) m (state_of k) (payloads_of (k 0)) bytes) read_first (here bytes (subst (λ (j : ℕ). IsTrue (leaves_at (map leaves new) j 0 bytes)) e left)))
      | inr ne ↦ all i within bytes (subst (λ (l : Leaves). IsTrue (l 0 bytes)) (left_away i ne) left)
    ]

    pub others_on : AllOthersStay 0 (map reads first) (map reads mid) (map leaves first) (map leaves mid)
        → OthersStay 0 (image_at (map reads mid) place) (image_at (map reads new) place) (leaves_at (map leaves mid) place) (leaves_at (map leaves new) place)
        → AllOthersStay 0 (map reads first) (map reads new) (map leaves first) (map leaves new)
    others_on all here i = elim (cases_eq i place) [
      | inl e ↦ subst (λ (j : ℕ). OthersStay 0 (image_at (map reads first) j) (image_at (map reads new) j) (leaves_at (map leaves first) j) (leaves_at (map leaves new) j)) (sym e)
          (subst (λ (k : Image). OthersStay 0 k (image_at (map reads new) place) (leaves_at (map leaves first) place) (leaves_at (map leaves new) place)) read_first
          (subst (λ (l : Leaves). OthersStay 0 (image_at (map reads mid) place) (image_at (map reads new) place) l (leaves_at (map leaves new) place)) left_first here))
      | inr ne ↦ subst (λ (k : Image). OthersStay 0 (image_at (map reads first) i) k (leaves_at (map leaves first) i) (leaves_at (map leaves new) i)) (sym (read_away i ne))
          (subst (λ (l : Leaves). OthersStay 0 (image_at (map reads first) i) (image_at (map reads mid) i) (leaves_at (map leaves first) i) l) (sym (left_away i ne)) (all i))
    ]

    pub full_first : (m bytes : ℕ) → length mid ≡ length first → length (map reads mid) ≡ length mid → length (map reads first) ≡ length first
        → IsFullAt m (map reads mid) place bytes → IsFullAt m (map reads first) place bytes
    full_first m bytes many a b full = record {
      within = omega (arith, full.within, many, a, b);
      ahead = sym (ap (λ (k : Image). (state_of k).last) read_first) ∙ full.ahead;
      long = full.long ∙ ap (λ (k : Image). length_of (payloads_of (k 0))) read_first;
      over = full.over;
    }

    pub full_now : (m bytes : ℕ) → length mid ≡ length first → length (map reads mid) ≡ length mid → length (map reads first) ≡ length first
        → IsFullAt m (map reads first) place bytes → IsFullAt m (map reads mid) place bytes
    full_now m bytes many a b full = record {
      within = omega (arith, full.within, many, a, b);
      ahead = ap (λ (k : Image). (state_of k).last) read_first ∙ full.ahead;
      long = full.long ∙ sym (ap (λ (k : Image). length_of (payloads_of (k 0))) read_first);
      over = full.over;
    }
