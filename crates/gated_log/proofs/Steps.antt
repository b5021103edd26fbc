-- Calls of a disk, one after another.
use Rattle.std.proofs.Common.{◌≡◌, ℕ, ◌+◌, ◌≤◌, Bool, List, ◌++◌, length, take, drop, sym, ◌∙◌, ap, arith, append_assoc, length-append, length-take}
use Rattle.std.proofs.lemmas.List.{take-take, take_at}
use Rattle.store_io.specs.Disk.{Torn, Follows, Holds, OthersStay}
use Rattle.gated_log.specs.Log.{Keeps, StandsAt}

pub torn_keeps : (at place n : ℕ) (old new : List ℕ) → at ≤ place → Torn place n old new → Keeps at old new
torn_keeps at place n old new le torn = record {
  front = sym (take-take at place new le) ∙ ap (λ (l : List ℕ). take at l) torn.before ∙ take-take at place old le;
  no_shorter = torn.no_shorter;
}

pub keeps_on : (at : ℕ) (a b c : List ℕ) → Keeps at a b → Keeps at b c → Keeps at a c
keeps_on at a b c first second = record { front = second.front ∙ first.front; no_shorter = omega (arith, first.no_shorter, second.no_shorter) }

pub follows_torn : (at place n : ℕ) (a b : List ℕ → Bool) → at ≤ place → Follows (Torn place n) a b → Follows (Keeps at) a b
follows_torn at place n a b le step image left =
    let from = step image left in
    (from.0, from.1, torn_keeps at place n from.0 image le from.2)

pub follows_on : (at : ℕ) (a b c : List ℕ → Bool) → Follows (Keeps at) a b → Follows (Keeps at) b c → Follows (Keeps at) a c
follows_on at a b c first second image left =
    let late = second image left in
    let early = first late.0 late.1 in
    (early.0, early.1, keeps_on at early.0 late.0 image early.2 late.2)

pub others_on : (file : ℕ) (r0 r1 r2 : ℕ → List ℕ) (l0 l1 l2 : ℕ → List ℕ → Bool) → OthersStay file r0 r1 l0 l1 → OthersStay file r1 r2 l1 l2 → OthersStay file r0 r2 l0 l2
others_on file r0 r1 r2 l0 l1 l2 first second = record {
  reads = λ f ne. second.reads f ne ∙ first.reads f ne;
  leaves = λ f ne. second.leaves f ne ∙ first.leaves f ne;
}

-- one write
pub stands : (at : ℕ) (bytes old new : List ℕ) → Holds old at bytes new → StandsAt at bytes old new
stands at bytes old new holds = record { rest = drop (length bytes) (drop at old); split = holds }

-- and one more, behind it
pub stands_on : (at place : ℕ) (first second old mid new : List ℕ) → at ≤ length old → place ≡ at + length first → StandsAt at first old mid → Holds mid place second new → StandsAt at (first ++ second) old new
stands_on at place first second old mid new within is stood holds =
    let front : length (take at old ++ first) ≡ place = omega (arith, length-append (take at old) first, length-take at old) in
    let whole : mid ≡ (take at old ++ first) ++ stood.rest = stood.split ∙ sym (append_assoc (take at old) first stood.rest) in
    let before : take place mid ≡ take at old ++ first = ap (λ (l : List ℕ). take place l) whole ∙ take_at (take at old ++ first) stood.rest place front in
    record {
      rest = drop (length second) (drop place mid);
      split = holds
          ∙ ap (λ (l : List ℕ). l ++ (second ++ drop (length second) (drop place mid))) before
          ∙ append_assoc (take at old) first (second ++ drop (length second) (drop place mid))
          ∙ ap (λ (l : List ℕ). take at old ++ l) (sym (append_assoc first second (drop (length second) (drop place mid))));
    }

pub length-stands : (at : ℕ) (bytes old new : List ℕ) → at ≤ length old → StandsAt at bytes old new → at + length bytes ≤ length new
length-stands at bytes old new within stood =
    omega (arith, ap length stood.split, length-append (take at old) (bytes ++ stood.rest), length-append bytes stood.rest, length-take at old)
