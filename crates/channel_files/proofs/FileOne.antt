-- A file that a call leaves as it was.
use Rattle.std.proofs.Common.{ℕ, ◌≤◌, Bool, List, ◌∙◌, arith}
use Rattle.store_io.specs.Disk.{OthersStay}
use Rattle.channel_files.specs.Outcomes.{FileStays}

-- a change of the log, which is file 0, leaves file 1
pub stays_beside_log : {r0 r1 : ℕ → List ℕ} {l0 l1 : ℕ → List ℕ → Bool} → OthersStay 0 r0 r1 l0 l1 → FileStays 1 r0 r1 l0 l1
stays_beside_log others = record { reads = others.reads 1 (λ e. absurd (omega (arith, e))); leaves = others.leaves 1 (λ e. absurd (omega (arith, e))) }

-- so does a change of a data file, whose number is at least 2
pub stays_beside_data : {r0 r1 : ℕ → List ℕ} {l0 l1 : ℕ → List ℕ → Bool} (file : ℕ) → 2 ≤ file → OthersStay file r0 r1 l0 l1 → FileStays 1 r0 r1 l0 l1
stays_beside_data file apart others = record { reads = others.reads 1 (λ e. absurd (omega (arith, e, apart))); leaves = others.leaves 1 (λ e. absurd (omega (arith, e, apart))) }

-- and two changes that leave it
pub stays_twice : {file : ℕ} {r0 r1 r2 : ℕ → List ℕ} {l0 l1 l2 : ℕ → List ℕ → Bool} → FileStays file r0 r1 l0 l1 → FileStays file r1 r2 l1 l2 → FileStays file r0 r2 l0 l2
stays_twice first second = record { reads = second.reads ∙ first.reads; leaves = second.leaves ∙ first.leaves }
