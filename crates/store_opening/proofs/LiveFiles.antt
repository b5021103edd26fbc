-- The live files of a channel, one by one.
use Rattle.std.proofs.Common.{◌≡◌, ℕ, zero, suc, ◌+◌, ◌≤◌, ◌<◌, ◌==◌, Bool, true, false, cond, List, [], ◌∷◌, length, get_or, Some, refl, sym, subst, arith, inl, inr}
use Rattle.std.specs.Prelude.{is_some}
use Rattle.std.proofs.lemmas.Bool.{cases_order, eqb-true}
use Rattle.store_io.specs.Disk.{Only}
use Rattle.transactions_file.specs.Files.{IsRising, is_live, length_of}
use Rattle.store_opening.specs.Left.{Leaves, LeavesNoMore}

rising_top : (low high : ℕ) (files : List (ℕ × ℕ)) → IsRising low high files → low ≤ high
rising_top low high [] r = r
rising_top low high (p ∷ files) r = let h = rising_top (p.0 + 1) high files r.1 in omega (arith, r.0)

-- their numbers are below the top
pub file_below : (low high : ℕ) (files : List (ℕ × ℕ)) (i : ℕ) (d : ℕ × ℕ) → IsRising low high files → i < length files → (get_or files i d).0 < high
file_below low high [] i d r lt = absurd (omega arith)
file_below low high (p ∷ files) zero d r lt = let h = rising_top (p.0 + 1) high files r.1 in omega arith
file_below low high (p ∷ files) (suc i) d r lt = file_below (p.0 + 1) high files i d r.1 (omega arith)

-- a live file stands at some place
pub live_at : (files : List (ℕ × ℕ)) (f : ℕ) → is_live files f ≡ true → (i : ℕ) × (i < length files) × ((get_or files i (0, 0)).0 ≡ f)
live_at [] f live = absurd cc
live_at (p ∷ files) f live = by (live_at files f) (p.0 == f) refl live
  where
    by : (is_live files f ≡ true → (i : ℕ) × (i < length files) × ((get_or files i (0, 0)).0 ≡ f)) → (b : Bool) → (p.0 == f) ≡ b → is_some (cond b (Some p.1) (length_of files f)) ≡ true
        → (i : ℕ) × (i < length (p ∷ files)) × ((get_or (p ∷ files) i (0, 0)).0 ≡ f)
    by rest true e l = (0, omega arith, eqb-true p.0 f e)
    by rest false e l = let t = rest l in (suc t.0, omega (arith, t.1), t.2)

-- the files in front are synced
abbrev pub AreFrontSynced : (ℕ → List ℕ) → Leaves → List (ℕ × ℕ) → ℕ → Type 0
AreFrontSynced reads leaves files n = (i : ℕ) → i < n → Only (reads (get_or files i (0, 0)).0) (leaves (get_or files i (0, 0)).0)

pub front_more : (reads : ℕ → List ℕ) (old new : Leaves) (files : List (ℕ × ℕ)) (n : ℕ) → AreFrontSynced reads old files n → LeavesNoMore old new
    → Only (reads (get_or files n (0, 0)).0) (new (get_or files n (0, 0)).0) → AreFrontSynced reads new files (n + 1)
front_more reads old new files n all less here i below = elim (cases_order i n) [
  | inl e ↦ subst (λ (k : ℕ). Only (reads (get_or files k (0, 0)).0) (new (get_or files k (0, 0)).0)) (sym e) here
  | inr (inl lt) ↦ λ c is. all i lt c (less (get_or files i (0, 0)).0 c is)
  | inr (inr gt) ↦ absurd (omega arith)
]

pub all_synced : (reads : ℕ → List ℕ) (leaves : Leaves) (files : List (ℕ × ℕ)) → AreFrontSynced reads leaves files (length files) → (f : ℕ) → is_live files f ≡ true → Only (reads f) (leaves f)
all_synced reads leaves files all f live = let t = live_at files f live in subst (λ (k : ℕ). Only (reads k) (leaves k)) t.2 (all t.0 t.1)
