-- Images of a file whose log is finished.
use Rattle.std.proofs.Common.{⊎_elim, inl, ◌≡◌, ◌≢◌, ◌<◌, ◌≤◌, ℕ, Bool, List, IsTrue, length, sym, subst, ◌∙◌, arith}
use Rattle.std.proofs.lemmas.Bool.{cases_lt}
use Rattle.store_io.specs.Disk.{Only, OthersStay}
use Rattle.gated_log.specs.Log.{payloads_of, Each}
use Rattle.plain_storage.specs.Logs.{IsLogFile}
use Rattle.plain_storage.specs.Finishing.{AreSameLogs, IsSameLog}
use Rattle.plain_storage.specs.Images.{AreClean, EachPair, OtherFilesStay}
use Rattle.plain_storage.specs.Stores.{plain_header}
use Rattle.plain_storage.specs.Types.{types_header}
use Rattle.plain_storage.proofs.Opening.{short_payloads}

-- a long file stays, and a short one stays short
pub image_same : (header file image : List ℕ) (len : ℕ) → IsLogFile header (payloads_of file) file → payloads_of image ≡ payloads_of file → (9 < len → image ≡ file) → (len ≤ 9 → length image ≤ 9)
    → IsSameLog header file image
image_same header file image len log same long short = record {
  payloads = same;
  log = ⊎_elim (λ more. subst (λ (l : List ℕ). IsLogFile header (payloads_of l) l) (sym (long more)) log) (λ less. inl (short less, short_payloads image (short less))) (cases_lt 9 len);
}

abbrev pub Reads : Type 0
Reads = ℕ → List ℕ

abbrev pub Leaves : Type 0
Leaves = ℕ → List ℕ → Bool

pub apart : (a b : ℕ) → a < b → a ≢ b
apart a b less same = omega arith

pub apart_too : (a b : ℕ) → a < b → b ≢ a
apart_too a b less same = omega arith

-- one log was finished, whatever was answered
pub record FinishesOne (file : ℕ) (header : List ℕ) (r r' : Reads) (l l' : Leaves) : Type 0 where
  pub stop : Only (r file) (l file) → Each (l' file) (IsSameLog header (r file))
  pub others : OthersStay file r r' l l'

-- the log of stores was finished, and that of types is as it was
pub stop_first : (r r1 : Reads) (l l1 : Leaves) → FinishesOne 0 plain_header r r1 l l1 → IsSameLog types_header (r 1) (r 1) → AreClean r l → EachPair l1 (AreSameLogs r)
stop_first r r1 l l1 first types clean image0 image1 left0 left1 =
    let before : IsTrue (l 1 image1) = subst (λ (test : List ℕ → Bool). IsTrue (test image1)) (first.others.leaves 1 (apart_too 0 1 (omega arith))) left1 in
    record {
      stores = first.stop clean.stores image0 left0;
      types = subst (λ (image : List ℕ). IsSameLog types_header (r 1) image) (sym (clean.types image1 before)) types;
    }

-- both were finished
pub stop_both : (r r1 r2 : Reads) (l l1 l2 : Leaves) → FinishesOne 0 plain_header r r1 l l1 → FinishesOne 1 types_header r1 r2 l1 l2 → AreClean r l → EachPair l2 (AreSameLogs r)
stop_both r r1 r2 l l1 l2 first second clean image0 image1 left0 left1 =
    let apart_1 = apart_too 0 1 (omega arith) in
    let mid : IsTrue (l1 0 image0) = subst (λ (test : List ℕ → Bool). IsTrue (test image0)) (second.others.leaves 0 (apart 0 1 (omega arith))) left0 in
    let reads : r1 1 ≡ r 1 = first.others.reads 1 apart_1 in
    let clean_1 : Only (r1 1) (l1 1) =
    subst (λ (file : List ℕ). Only file (l1 1)) (sym reads) (subst (λ (test : List ℕ → Bool). Only (r 1) test) (sym (first.others.leaves 1 apart_1)) clean.types) in
    record {
      stores = first.stop clean.stores image0 mid;
      types = subst (λ (file : List ℕ). IsSameLog types_header file image1) reads (second.stop clean_1 image1 left1);
    }

pub others_first : (r r1 : Reads) (l l1 : Leaves) → OthersStay 0 r r1 l l1 → OtherFilesStay r r1 l l1
others_first r r1 l l1 first = record { reads = λ f a b. first.reads f a; leaves = λ f a b. first.leaves f a }

pub others_both : (r r1 r2 : Reads) (l l1 l2 : Leaves) → OthersStay 0 r r1 l l1 → OthersStay 1 r1 r2 l1 l2 → OtherFilesStay r r2 l l2
others_both r r1 r2 l l1 l2 first second = record { reads = λ f a b. second.reads f b ∙ first.reads f a; leaves = λ f a b. second.leaves f b ∙ first.leaves f a }
