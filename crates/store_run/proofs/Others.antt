-- Files that stay as they are, over several calls.
use Rattle.std.proofs.Common.{ℕ, Bool, List, refl, ◌∙◌}
use Rattle.plain_storage.specs.Images.{OtherFilesStay}

pub others_same : {reads : ℕ → List ℕ} {leaves : ℕ → List ℕ → Bool} → OtherFilesStay reads reads leaves leaves
others_same = record { reads = λ f not0 not1. refl; leaves = λ f not0 not1. refl }

pub others_then : {reads0 reads1 reads2 : ℕ → List ℕ} {leaves0 leaves1 leaves2 : ℕ → List ℕ → Bool}
    → OtherFilesStay reads0 reads1 leaves0 leaves1 → OtherFilesStay reads1 reads2 leaves1 leaves2 → OtherFilesStay reads0 reads2 leaves0 leaves2
others_then first second = record {
  reads = λ f not0 not1. second.reads f not0 not1 ∙ first.reads f not0 not1;
  leaves = λ f not0 not1. second.leaves f not0 not1 ∙ first.leaves f not0 not1;
}
