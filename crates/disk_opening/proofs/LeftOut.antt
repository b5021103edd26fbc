-- The chunks of a file are left out before or behind the change of form.
use Rattle.std.proofs.Common.{◌≡◌, ℕ, ◌==◌, not, Bool, true, false, cond, List, [], ◌∷◌, filter, map, refl, ap}
use Rattle.channel_files.specs.Chunks.{stands_elsewhere}
use Rattle.disk_opening.specs.Ranges.{range_in}
use Rattle.disk_opening.specs.declared.ranges.ChunkRange.{ChunkRange}

abbrev pub is_elsewhere : ℕ → ChunkRange → Bool
is_elsewhere file x = not (x.file == file)

pub left_out : (file : ℕ) (xs : List ChunkRange) → map range_in (filter (is_elsewhere file) xs) ≡ filter (stands_elsewhere file) (map range_in xs)
left_out file [] = refl
left_out file (x ∷ xs) =
    elim (is_elsewhere file x) as (λ b. map range_in (cond b (x ∷ filter (is_elsewhere file) xs) (filter (is_elsewhere file) xs)) ≡ cond b (range_in x ∷ filter (stands_elsewhere file) (map range_in xs)) (filter (stands_elsewhere file) (map range_in xs))) [
      | true ↦ ap (λ rs. range_in x ∷ rs) (left_out file xs)
      | false ↦ left_out file xs
    ]
