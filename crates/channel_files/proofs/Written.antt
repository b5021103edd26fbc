-- Bytes are written behind what the inventory knows of a file.
use Rattle.std.proofs.Common.{◌≡◌, ◌≢◌, ℕ, ◌+◌, ◌≤◌, Bool, List, ◌++◌, length, take, drop, refl, sym, ◌∙◌, ap, subst, arith, length-append, length-drop}
use Rattle.std.proofs.lemmas.List.{take-take, take_at, drop_at, length-take-le}
use Rattle.store_io.specs.Disk.{Torn, Follows, Holds, OthersStay}
use Rattle.store_io.specs.Whole.{EachImage, StepsIn}
use Rattle.store_io.proofs.Whole.{image_before}
use Rattle.gated_log.specs.Log.{IsLogOf, Keeps, payloads_of}
use Rattle.gated_log.proofs.Steps.{follows_torn}
use Rattle.transactions_file.specs.Files.{length_in}
use Rattle.transactions_file.specs.Transactions.{Transactions, IsKept}
use Rattle.channel_files.specs.Chunks.{ranges_of, chunks_in, content_of}
use Rattle.channel_files.specs.Channel.{IsOfDisk}
use Rattle.channel_files.specs.Images.{AgreesBelow, IsAsRead, EachAsRead}
use Rattle.channel_files.proofs.Within.{all_fit, by_file}
use Rattle.channel_files.proofs.Changes.{chunks_kept}

keeps : (at : ℕ) (bytes old new : List ℕ) → at ≤ length old → Holds old at bytes new → Keeps at old new
keeps at bytes old new within holds = record {
  front = ap (λ (l : List ℕ). take at l) holds ∙ take_at (take at old) (bytes ++ drop (length bytes) (drop at old)) at (length-take-le at old within);
  no_shorter = omega (
    arith,
    ap length holds,
    length-append (take at old) (bytes ++ drop (length bytes) (drop at old)),
    length-append bytes (drop (length bytes) (drop at old)),
    length-drop (length bytes) (drop at old),
    length-drop at old,
    length-take-le at old within,
  );
}

-- the bytes stand where they were written
pub stands : (at : ℕ) (bytes old new : List ℕ) → at ≤ length old → Holds old at bytes new → take (length bytes) (drop at new) ≡ bytes
stands at bytes old new within holds =
    let rest = drop (length bytes) (drop at old) in
    ap (λ (l : List ℕ). take (length bytes) (drop at l)) holds
    ∙ ap (λ (l : List ℕ). take (length bytes) l) (drop_at (take at old) (bytes ++ rest) at (length-take-le at old within))
    ∙ take_at bytes rest (length bytes) refl

pub reaches : (at : ℕ) (bytes old new : List ℕ) → at ≤ length old → Holds old at bytes new → at + length bytes ≤ length new
reaches at bytes old new within holds =
    omega (arith, ap length holds, length-append (take at old) (bytes ++ drop (length bytes) (drop at old)), length-append bytes (drop (length bytes) (drop at old)), length-take-le at old within)

agrees_write : (files : List (ℕ × ℕ)) (base was image : ℕ → List ℕ) (file at : ℕ) → AgreesBelow files base was → StepsIn (Keeps at) file was image → length_in files file ≤ at
    → AgreesBelow files base image
agrees_write files base was image file at agrees steps le = record {
  long = by_file (λ f. length_in files f ≤ length (image f)) file (omega (arith, agrees.long file, steps.there.no_shorter)) (λ f ne. omega (arith, agrees.long f, ap length (steps.others f ne)));
  same =
      by_file (λ f. take (length_in files f) (image f) ≡ take (length_in files f) (base f)) file
      (sym (take-take (length_in files file) at (image file) le) ∙ ap (λ (l : List ℕ). take (length_in files file) l) steps.there.front ∙ take-take (length_in files file) at (was file) le ∙ agrees.same file)
      (λ f ne. ap (λ (l : List ℕ). take (length_in files f) l) (steps.others f ne) ∙ agrees.same f);
}

module _ (t : Transactions) (r0 : ℕ → List ℕ) (file at : ℕ) (d : IsOfDisk t r0) (behind : length_in t.inventory.state.files file ≤ at) (apart : 2 ≤ file) where
  not_log : 0 ≢ file
  not_log e = absurd (omega (arith, apart, e))

  pub stop_write : (n : ℕ) (l0 l1 : ℕ → List ℕ → Bool) → Follows (Torn at n) (l0 file) (l1 file) → ((f : ℕ) → f ≢ file → l1 f ≡ l0 f) → EachAsRead t r0 l0 → EachImage l1 (IsAsRead t r0)
  stop_write n l0 l1 follows others each image left =
      let b = image_before (Keeps at) file l0 l1 (follows_torn at at n (l0 file) (l1 file) (omega arith) follows) others image left in
      let was = each b.0 b.1 in
      record {
        is_log = subst (IsLogOf t.log.header (payloads_of (r0 0))) (sym (b.2.others 0 not_log)) was.is_log;
        agrees = agrees_write t.inventory.state.files r0 b.0 image file at was.agrees b.2 behind;
      }

  module _ (bytes : List ℕ) (r1 : ℕ → List ℕ) (l0 l1 : ℕ → List ℕ → Bool) (within : at ≤ length (r0 file)) (holds : Holds (r0 file) at bytes (r1 file)) (others : OthersStay file r0 r1 l0 l1) where
    agrees1 : AgreesBelow t.inventory.state.files r0 r1
    agrees1 =
        agrees_write t.inventory.state.files r0 r0 r1 file at (record { long = d.long; same = λ f. refl }) (record { there = keeps at bytes (r0 file) (r1 file) within holds; others = others.reads }) behind

    log1 : r1 0 ≡ r0 0
    log1 = others.reads 0 not_log

    pub of_disk_write : IsOfDisk t r1
    of_disk_write = record { file = d.file; kept = subst (IsKept t) (sym log1) d.kept; long = agrees1.long }

    pub content_write : content_of r1 ≡ content_of r0
    content_write =
        ap (λ (l : List ℕ). chunks_in r1 (payloads_of l)) log1
        ∙ chunks_kept t.inventory.state.files t.inventory.state.last (ranges_of (payloads_of (r0 0))) r0 r1 (all_fit (payloads_of (r0 0)) t.inventory.state d.kept.inventory).within agrees1.same

    pub as_read_write : Follows (Torn at (length bytes)) (l0 file) (l1 file) → EachAsRead t r0 l0 → EachAsRead t r1 l1
    as_read_write follows each image left =
        let as_read = stop_write (length bytes) l0 l1 follows others.leaves each image left in
        record {
          is_log = subst (λ (l : List ℕ). IsLogOf t.log.header (payloads_of l) (image 0)) (sym log1) as_read.is_log;
          agrees = record { long = as_read.agrees.long; same = λ f. as_read.agrees.same f ∙ sym (agrees1.same f) };
        }
