-- Flags at the front of a longer list, and the first that is clear.
use Rattle.std.proofs.Common.{◌≡◌, ◌∙◌, ℕ, ◌≤◌, Bool, true, false, cond, not, List, [], ◌∷◌, length, take, replicate, Option, Some, None, refl, ap, arith}
use Rattle.std.specs.Prelude.{nat_lt}
use Rattle.std.specs.List.{prefix_len}
use Rattle.std.proofs.lemmas.Bool.{ltb-false}
use Rattle.std.proofs.lemmas.List.{length-take-le, take-replicate}
use Rattle.std.proofs.lemmas.Simd.{splat_is_map}
use Rattle.core_steps.specs.Rows.{all_set, all_clear}
use Rattle.mark_monitor.specs.Faults.{first_clear}

pub front_clear : (n : ℕ) (flags : List Bool) → n ≤ length flags → n ≤ 64 → take n (replicate 64 false) ≡ all_clear (take n flags)
front_clear n flags within limit = take-replicate n 64 false limit ∙ splat_is_map (take n flags) n false (length-take-le n flags within)

full : (flags : List Bool) → length flags ≤ prefix_len (λ (flag : Bool). not (not flag)) flags → all_set flags ≡ true
full [] whole = refl
full (true ∷ flags) whole = full flags (omega arith)
full (false ∷ flags) whole = absurd (omega arith)

-- where no flag is clear, each is set
pub all_set_from : (flags : List Bool) → first_clear flags ≡ None → all_set flags ≡ true
all_set_from flags = (elim (nat_lt n (length flags)) as (λ b. nat_lt n (length flags) ≡ b → ◌≡◌ {A = Option ℕ} (cond b (Some n) None) None → all_set flags ≡ true) [
  | true ↦ λ f e. cc
  | false ↦ λ f e. full flags (ltb-false n (length flags) f)
]) refl
  where
    n : ℕ
    n = prefix_len (λ (flag : Bool). not (not flag)) flags
