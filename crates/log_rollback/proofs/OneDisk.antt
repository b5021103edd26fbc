-- A call of one of several disks.
use Rattle.std.proofs.Common.{◌≡◌, ◌≢◌, ℕ, zero, suc, ◌<◌, false, IsTrue, List, [], ◌∷◌, length, set, get_or, map, refl, sym, ap, ◌∙◌, subst, inl, inr}
use Rattle.std.specs.Prelude.{slice_get}
use Rattle.std.proofs.lemmas.Bool.{cases_eq}
use Rattle.store_io.specs.Disk.{Only, OthersStay}
use Rattle.gated_log.specs.Log.{Each, payloads_of}
use Rattle.transactions_file.specs.Inventory.{State}
use Rattle.transactions_file.specs.Transactions.{Transactions}
use Rattle.channel.specs.Images.{Image, state_of}
use Rattle.recovery.specs.Images.{image_at}
use Rattle.disk_opening.proofs.DiskLists.{told_at}
use Rattle.store_opening.specs.Left.{Leaves, leaves_at}
use Rattle.store_opening.specs.TakenBack.{IsTakenBack}
use Rattle.store_opening.proofs.SyncedDisks.{told_there}
use Rattle.log_rollback.specs.Finished.{AllOthersStay, IsFinished, IsOpenAt}

pub elsewhere : {A : Type 0} (xs : List A) (j i : ℕ) (y : A) → i ≢ j → slice_get (set xs j y) i ≡ slice_get xs i
elsewhere [] j i y ne = refl
elsewhere (x ∷ xs) zero zero y ne = absurd (ne refl)
elsewhere (x ∷ xs) zero (suc i) y ne = refl
elsewhere (x ∷ xs) (suc j) zero y ne = refl
elsewhere (x ∷ xs) (suc j) (suc i) y ne = elsewhere xs j i y (λ e. ne (ap suc e))

-- what is told of a disk that is as it was
pub told_same : {A B : Type 0} (f : A → B) (xs ys : List A) (i : ℕ) (d : B) → slice_get xs i ≡ slice_get ys i → get_or (map f xs) i d ≡ get_or (map f ys) i d
told_same f [] [] i d same = refl
told_same f [] (y ∷ ys) zero d same = absurd cc
told_same f [] (y ∷ ys) (suc i) d same = told_same f [] ys i d same
told_same f (x ∷ xs) [] zero d same = absurd cc
told_same f (x ∷ xs) [] (suc i) d same = told_same f xs [] i d same
told_same f (x ∷ xs) (y ∷ ys) zero d same = let e : x ≡ y = cc in ap f e
told_same f (x ∷ xs) (y ∷ ys) (suc i) d same = told_same f xs ys i d same

-- THE DISK THAT WAS CALLED

module _ {A : Type 0} (reads : A → Image) (leaves : A → Leaves) (xs : List A) (j : ℕ) (x y : A) (within : j < length xs) where
  abbrev old : A
  old = get_or xs j x

  abbrev none : Image
  none = λ (file : ℕ). []

  abbrev nothing : Leaves
  nothing = λ (file : ℕ) (bytes : List ℕ). false

  read_before : image_at (map reads xs) j ≡ reads old
  read_before = told_at reads xs j x none within

  read_now : image_at (map reads (set xs j y)) j ≡ reads y
  read_now = told_there reads xs j y none within

  left_before : leaves_at (map leaves xs) j ≡ leaves old
  left_before = told_at leaves xs j x nothing within

  left_now : leaves_at (map leaves (set xs j y)) j ≡ leaves y
  left_now = told_there leaves xs j y nothing within

  pub only_before : (file : ℕ) → Only (image_at (map reads xs) j file) (leaves_at (map leaves xs) j file) → Only (reads old file) (leaves old file)
  only_before file only = subst (λ (l : Leaves). Only (reads old file) (l file)) left_before (subst (λ (i : Image). Only (i file) (leaves_at (map leaves xs) j file)) read_before only)

  pub only_now : (file : ℕ) → Only (reads y file) (leaves y file) → Only (image_at (map reads (set xs j y)) j file) (leaves_at (map leaves (set xs j y)) j file)
  only_now file only = subst (λ (l : Leaves). Only (image_at (map reads (set xs j y)) j file) (l file)) (sym left_now) (subst (λ (i : Image). Only (i file) (leaves y file)) (sym read_now) only)

  pub others_there : (file : ℕ) → OthersStay file (reads old) (reads y) (leaves old) (leaves y)
      → OthersStay file (image_at (map reads xs) j) (image_at (map reads (set xs j y)) j) (leaves_at (map leaves xs) j) (leaves_at (map leaves (set xs j y)) j)
  others_there file others = record {
    reads = λ f ne. ap (λ (i : Image). i f) read_now ∙ others.reads f ne ∙ sym (ap (λ (i : Image). i f) read_before);
    leaves = λ f ne. ap (λ (l : Leaves). l f) left_now ∙ others.leaves f ne ∙ sym (ap (λ (l : Leaves). l f) left_before);
  }

  -- and of all disks the other files
  pub all_others : (file : ℕ) → OthersStay file (reads old) (reads y) (leaves old) (leaves y) → AllOthersStay file (map reads xs) (map reads (set xs j y)) (map leaves xs) (map leaves (set xs j y))
  all_others file others i = elim (cases_eq i j) [
    | inl e ↦ subst (λ (k : ℕ). OthersStay file (image_at (map reads xs) k) (image_at (map reads (set xs j y)) k) (leaves_at (map leaves xs) k) (leaves_at (map leaves (set xs j y)) k)) (sym e) (others_there file others)
    | inr ne ↦ record {
      reads = λ f other. ap (λ (k : Image). k f) (told_same reads (set xs j y) xs i none (elsewhere xs j i y ne));
      leaves = λ f other. ap (λ (l : Leaves). l f) (told_same leaves (set xs j y) xs i nothing (elsewhere xs j i y ne));
    }
  ]

  pub open_there : (m : ℕ) (t : Transactions) → IsOpenAt m (reads y 0) t → IsOpenAt m (image_at (map reads (set xs j y)) j 0) t
  open_there m t is = subst (λ (i : Image). IsOpenAt m (i 0) t) (sym read_now) is

  -- the log of before, which gives the inventory s
  module _ (header : List ℕ) (m : ℕ) (s : State) (same : s ≡ state_of (image_at (map reads xs) j)) where
    pub finished_there : IsFinished header m s (payloads_of (reads old 0)) (reads y 0)
        → IsFinished header m (state_of (image_at (map reads xs) j)) (payloads_of (image_at (map reads xs) j 0)) (image_at (map reads (set xs j y)) j 0)
    finished_there is =
        let images = map reads xs in
        subst (λ (i : Image). IsFinished header m (state_of (image_at images j)) (payloads_of (image_at images j 0)) (i 0)) (sym read_now)
        (subst (λ (q : State). IsFinished header m q (payloads_of (image_at images j 0)) (reads y 0)) same
        (subst (λ (i : Image). IsFinished header m s (payloads_of (i 0)) (reads y 0)) (sym read_before) is))

    pub left_there : Each (leaves y 0) (IsTakenBack header m s (payloads_of (reads old 0)))
        → Each (leaves_at (map leaves (set xs j y)) j 0) (IsTakenBack header m (state_of (image_at (map reads xs) j)) (payloads_of (image_at (map reads xs) j 0)))
    left_there each bytes left =
        let images = map reads xs in
        subst (λ (q : State). IsTakenBack header m q (payloads_of (image_at images j 0)) bytes) same
        (subst (λ (i : Image). IsTakenBack header m s (payloads_of (i 0)) bytes) (sym read_before)
        (each bytes (subst (λ (l : Leaves). IsTrue (l 0 bytes)) left_now left)))
