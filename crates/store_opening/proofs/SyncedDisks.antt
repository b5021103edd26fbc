-- What a call of one disk leaves of all.
use Rattle.std.proofs.Common.{◌≡◌, ℕ, zero, suc, ◌<◌, Bool, false, IsTrue, List, [], ◌∷◌, ◌++◌, length, set, get_or, map, Option, Some, refl, sym, ◌∙◌, subst, arith, length-set, inl, inr}
use Rattle.std.specs.Prelude.{slice_get}
use Rattle.std.proofs.lemmas.Bool.{cases_eq}
use Rattle.std.proofs.lemmas.List.{length-map}
use Rattle.store_io.specs.Disk.{Only, OthersStay}
use Rattle.channel.specs.Images.{Image}
use Rattle.recovery.specs.Images.{image_at}
use Rattle.disk_opening.proofs.DiskLists.{told_at}
use Rattle.store_opening.specs.Left.{LeaveNoMore, Leaves, LeavesNoMore, leaves_at}

-- what is told of the disk at a place, once it was called
pub told_there : {A B : Type 0} (f : A → B) (xs : List A) (j : ℕ) (y : A) (d : B) → j < length xs → get_or (map f (set xs j y)) j d ≡ f y
told_there f [] j y d within = absurd (omega arith)
told_there f (x ∷ xs) zero y d within = refl
told_there f (x ∷ xs) (suc j) y d within = told_there f xs j y d (omega arith)

-- WHAT A STOP MAY LEAVE

no_more_each : {A : Type 0} (leaves : A → Leaves) (xs : List A) (j : ℕ) (x y : A) → LeavesNoMore (leaves (get_or xs j x)) (leaves y) → (k : ℕ)
    → LeavesNoMore (leaves_at (map leaves xs) k) (leaves_at (map leaves (set xs j y)) k)
no_more_each leaves [] j x y less k = λ file bytes is. is
no_more_each leaves (z ∷ xs) zero x y less zero = less
no_more_each leaves (z ∷ xs) zero x y less (suc k) = λ file bytes is. is
no_more_each leaves (z ∷ xs) (suc j) x y less zero = λ file bytes is. is
no_more_each leaves (z ∷ xs) (suc j) x y less (suc k) = no_more_each leaves xs j x y less k

pub one_leaves_no_more : {A : Type 0} (leaves : A → Leaves) (xs : List A) (j : ℕ) (x y : A) → LeavesNoMore (leaves (get_or xs j x)) (leaves y)
    → LeaveNoMore (map leaves xs) (map leaves (set xs j y))
one_leaves_no_more leaves xs j x y less = record {
  many = length-map (set xs j y) leaves ∙ length-set xs j y ∙ sym (length-map xs leaves);
  each = no_more_each leaves xs j x y less;
}

pub no_more_at_first : (leaves : List Leaves) → LeaveNoMore leaves leaves
no_more_at_first leaves = record { many = refl; each = λ j file bytes is. is }

pub no_more_still : (first old new : List Leaves) → LeaveNoMore first old → LeaveNoMore old new → LeaveNoMore first new
no_more_still first old new was is = record { many = is.many ∙ was.many; each = λ j file bytes may. was.each j file bytes (is.each j file bytes may) }

-- what is synced stays so
pub only_still : (file : ℕ) (bytes : List ℕ) (old new : List Leaves) (j : ℕ) → LeaveNoMore old new → Only bytes (leaves_at old j file) → Only bytes (leaves_at new j file)
only_still file bytes old new j less only = λ c is. only c (less.each j file c is)

-- what a stop leaves of a file of the disk that was called is what was read of it
pub only_there : {A : Type 0} (reads : A → Image) (leaves : A → Leaves) (xs : List A) (j : ℕ) (x y : A) (file : ℕ) → j < length xs → Only (reads (get_or xs j x) file) (leaves y file)
    → Only (image_at (map reads xs) j file) (leaves_at (map leaves (set xs j y)) j file)
only_there reads leaves xs j x y file within only =
    subst (λ (l : Leaves). Only (image_at (map reads xs) j file) (l file)) (sym (told_there leaves xs j y (λ (f : ℕ) (bytes : List ℕ). false) within))
    (subst (λ (i : Image). Only (i file) (leaves y file)) (sym (told_at reads xs j x (λ (f : ℕ). []) within)) only)

-- ONE DISK

-- a sync leaves no more of its file, and the others as they were
pub sync_no_more : (file : ℕ) (old_reads new_reads : ℕ → List ℕ) (old new : Leaves) → ((c : List ℕ) → IsTrue (new file c) → IsTrue (old file c)) → OthersStay file old_reads new_reads old new → LeavesNoMore old new
sync_no_more file old_reads new_reads old new stop others f c is = elim (cases_eq f file) [
  | inl e ↦ subst (λ (g : ℕ). IsTrue (old g c)) (sym e) (stop c (subst (λ (g : ℕ). IsTrue (new g c)) e is))
  | inr ne ↦ subst (λ (l : List ℕ → Bool). IsTrue (l c)) (others.leaves f ne) is
]

pub no_more_on : (old mid new : Leaves) → LeavesNoMore old mid → new ≡ mid → LeavesNoMore old new
no_more_on old mid new less same = subst (LeavesNoMore old) (sym same) less

pub only_on : (file : ℕ) (bytes : List ℕ) (mid new : Leaves) → Only bytes (mid file) → new ≡ mid → Only bytes (new file)
only_on file bytes mid new only same = subst (λ (l : Leaves). Only bytes (l file)) (sym same) only

-- ONE MORE OF A LIST

same_some : {A : Type 0} {a b : A} → ◌≡◌ {A = Option A} (Some a) (Some b) → a ≡ b
same_some e = cc

-- what holds of each, by its place, holds with one more
pub each_more : {A : Type 0} (P : ℕ → A → Type 0) (xs : List A) (x : A) → ((j : ℕ) (a : A) → slice_get xs j ≡ Some a → P j a) → P (length xs) x
    → (j : ℕ) (a : A) → slice_get (xs ++ x ∷ []) j ≡ Some a → P j a
each_more P [] x all here zero a is = subst (P 0) (same_some is) here
each_more P [] x all here (suc j) a is = absurd cc
each_more P (y ∷ xs) x all here zero a is = all 0 a is
each_more P (y ∷ xs) x all here (suc j) a is = each_more (λ (i : ℕ) b. P (suc i) b) xs x (λ i b e. all (suc i) b e) here j a is

pub none_at_first : {A : Type 0} (P : ℕ → A → Type 0) (xs : List A) → xs ≡ [] → (j : ℕ) (a : A) → slice_get xs j ≡ Some a → P j a
none_at_first P [] none j a is = absurd cc
none_at_first P (x ∷ xs) none j a is = absurd cc
