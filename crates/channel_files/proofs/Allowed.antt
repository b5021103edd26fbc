-- A store that is allowed.
use Rattle.std.proofs.Common.{◌≡◌, ◌≢◌, ℕ, ◌+◌, ◌≤◌, ◌<◌, ◌==◌, ◌^◌, nat_le, nat_lt, true, ◌&&◌, List, [], ◌∷◌, length, refl, ◌∙◌, ap, arith, length-append}
use Rattle.std.specs.List.{flat_map, AllByRecursion}
use Rattle.std.proofs.lemmas.Bool.{and_from, eq-eqb, ne_eqb, le-leb, lt-ltb, cond-false}
use Rattle.tx_entry.specs.declared.entry.Entry.TheVariants.{Store}
use Rattle.transactions_file.specs.Files.{is_live, length_in}
use Rattle.transactions_file.specs.Inventory.{State, allowed, may_stand}
use Rattle.data_file.specs.Chunks.{IsEntity, IsChunk}

-- what the number and the next id of a store owe
pub record IsNext (s : State) (number next_id : ℕ) : Type 0 where
  pub number_is : number ≡ s.last + 1
  pub number_small : number ≤ 2 ^ 63
  pub above : s.next_id ≤ next_id
  pub below : next_id ≤ 2 ^ 48

pub allow_some : (s : State) (number len next_id : ℕ) → IsNext s number next_id → is_live s.files s.created ≡ true → length_in s.files s.created < 2 ^ 30 → 32 ≤ len → len ≤ 16777216
    → allowed s (Store number s.created (length_in s.files s.created) len next_id) ≡ true
allow_some s number len next_id next live low some most =
    let at = length_in s.files s.created in
    and_from (number == s.last + 1) _ (eq-eqb number (s.last + 1) next.number_is)
    (and_from (nat_le number (2 ^ 63)) _ (le-leb number (2 ^ 63) next.number_small)
    (and_from (nat_le s.next_id next_id) _ (le-leb s.next_id next_id next.above)
    (and_from (nat_le next_id (2 ^ 48)) _ (le-leb next_id (2 ^ 48) next.below)
    (cond-false (len == 0) (s.created == 0 && at == 0) (may_stand s s.created at len 16777216) (ne_eqb len 0 (λ e. absurd (omega (arith, e, some))))
    ∙ and_from (s.created == s.created) _ (eq-eqb s.created s.created refl)
    (and_from (is_live s.files s.created) _ live
    (and_from (at == at) _ (eq-eqb at at refl)
    (and_from (nat_lt at (2 ^ 30)) _ (lt-ltb at (2 ^ 30) low) (and_from (nat_le 32 len) _ (le-leb 32 len some) (le-leb len 16777216 most)))))))))

pub allow_nothing : (s : State) (number next_id : ℕ) → IsNext s number next_id → allowed s (Store number 0 0 0 next_id) ≡ true
allow_nothing s number next_id next =
    and_from (number == s.last + 1) _ (eq-eqb number (s.last + 1) next.number_is)
    (and_from (nat_le number (2 ^ 63)) _ (le-leb number (2 ^ 63) next.number_small)
    (and_from (nat_le s.next_id next_id) _ (le-leb s.next_id next_id next.above) (and_from (nat_le next_id (2 ^ 48)) _ (le-leb next_id (2 ^ 48) next.below) refl)))

pub nothing : (bytes : List ℕ) → length bytes ≡ 0 → bytes ≡ []
nothing [] is = refl
nothing (b ∷ bytes) is = absurd (omega (arith, is))

-- a chunk that is not empty has an entity, which has at least 32 bytes
pub chunk_long : (bytes : List ℕ) → IsChunk bytes → length bytes ≢ 0 → 32 ≤ length bytes
chunk_long bytes chunk some = by_entities chunk.entities chunk.whole (ap length chunk.split)
  where
    by_entities : (entities : List (List ℕ)) → AllByRecursion IsEntity entities → length bytes ≡ length (flat_map (λ e. e) entities) → 32 ≤ length bytes
    by_entities [] whole split = absurd (some split)
    by_entities (e ∷ entities) whole split = omega (arith, split, length-append e (flat_map (λ e. e) entities), whole.0.least)
