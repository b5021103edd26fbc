-- Bytes that are written at a block, and those that stand elsewhere.
use Rattle.std.proofs.Common.{◌≡◌, ◌≢◌, ℕ, ◌+◌, ◌-◌, ◌≤◌, List, ◌++◌, length, take, drop, Option, Some, None, refl, sym, ap, subst, ◌∙◌, arith, inl, inr, length-append, length-drop}
use Rattle.std.specs.Option.{option_map, option_map_or}
use Rattle.std.proofs.Math.Seq.{take-append_seam, drop-append_seam}
use Rattle.std.proofs.lemmas.List.{take-append-drop, take-append-le, take_all, drop-take, length-take, append_assoc}
use Rattle.std.proofs.lemmas.Slice.{drop-append-drop}
use Rattle.entity_region.specs.Space.{Space, Placed, block_at, bytes_of, bytes_at, written, with_bytes, AreWritten, IsDisjoint}

module _ (xs w : List ℕ) (at : ℕ) (inside : at + length w ≤ length xs) where
  front_len : length (take at xs) ≡ at
  front_len = simp (length-take) (omega arith)

  written_parts : written xs at w ≡ take at xs ++ (w ++ drop (at + length w) xs)
  written_parts =
      let ws = take at xs ++ (w ++ drop (at + length w) xs) in
      let len : length ws ≡ at + (length w + (length xs - (at + length w))) = simp (length-append, length-take, length-drop) (omega arith) in
      take_all (length xs) ws (omega arith)

  written_there : take (length w) (drop at (written xs at w)) ≡ w
  written_there =
      let rest = w ++ drop (at + length w) xs in
      let behind : drop at (take at xs ++ rest) ≡ rest = subst (λ n. drop n (take at xs ++ rest) ≡ rest) front_len (drop-append_seam (take at xs) rest) in
      ap (λ k. take (length w) (drop at k)) written_parts ∙ ap (take (length w)) behind ∙ take-append_seam w (drop (at + length w) xs)

  written_before : (from n : ℕ) → from + n ≤ at → take n (drop from (written xs at w)) ≡ take n (drop from xs)
  written_before from n before =
      let rest = w ++ drop (at + length w) xs in
      let len = front_len in
      let parts : take (from + n) (take at xs ++ rest) ≡ take (from + n) (take at xs) = take-append-le (from + n) (take at xs) rest (omega arith) in
      let own : take (from + n) (take at xs ++ drop at xs) ≡ take (from + n) (take at xs) = take-append-le (from + n) (take at xs) (drop at xs) (omega arith) in
      let same : take (from + n) (written xs at w) ≡ take (from + n) xs = ap (take (from + n)) written_parts ∙ parts ∙ sym own ∙ ap (take (from + n)) (take-append-drop at xs) in
      sym (drop-take from n (written xs at w)) ∙ ap (drop from) same ∙ drop-take from n xs

  written_behind : (from n : ℕ) → at + length w ≤ from → take n (drop from (written xs at w)) ≡ take n (drop from xs)
  written_behind from n behind =
      let rest = drop (at + length w) xs in
      let len : length (take at xs ++ w) ≡ at + length w = length-append (take at xs) w ∙ ap (λ k. k + length w) front_len in
      let parts : written xs at w ≡ (take at xs ++ w) ++ rest = written_parts ∙ sym (append_assoc (take at xs) w rest) in
      ap (take n) (ap (drop from) parts ∙ drop-append-drop (at + length w) xs (take at xs ++ w) from behind len)

-- a block that is written in its own length has the new bytes, and the others theirs
pub written_apart : (s : Space) (number : ℕ) (p : Placed) (w : List ℕ) → IsDisjoint s → block_at s number ≡ Some p → length w ≡ p.len → AreWritten s (with_bytes s number w) number w
written_apart s number p w disjoint is len =
    let within = disjoint.inside number p is in
    let fits : p.at + length w ≤ length s.memory = omega arith in
    let begins : option_map_or (λ q. q.at) (block_at s number) 0 ≡ p.at = ap (λ o. option_map_or (λ q. q.at) o 0) is in
    subst (λ at. AreWritten s (record { memory = written s.memory at w; blocks = s.blocks }) number w) (sym begins) (record {
      there = ap (option_map (bytes_of (written s.memory p.at w))) is ∙ ap Some (subst (λ n. take n (drop p.at (written s.memory p.at w)) ≡ w) len (written_there s.memory w p.at fits));
      others = λ other differs. other_stays fits other differs (block_at s other) refl;
    })
  where
    other_stays : p.at + length w ≤ length s.memory → (other : ℕ) → other ≢ number → (o : Option Placed) → block_at s other ≡ o
        → option_map (bytes_of (written s.memory p.at w)) (block_at s other) ≡ bytes_at s other
    other_stays fits other differs None none = ap (option_map (bytes_of (written s.memory p.at w))) none ∙ sym (ap (option_map (bytes_of s.memory)) none)
    other_stays fits other differs (Some q) some =
        let same : take q.len (drop q.at (written s.memory p.at w)) ≡ take q.len (drop q.at s.memory) = elim (disjoint.apart other number q p some is differs) [
          | inl before ↦ written_before s.memory w p.at fits q.at q.len (omega arith)
          | inr behind ↦ written_behind s.memory w p.at fits q.at q.len (omega arith)
        ] in
        ap (option_map (bytes_of (written s.memory p.at w))) some ∙ ap Some same ∙ sym (ap (option_map (bytes_of s.memory)) some)
