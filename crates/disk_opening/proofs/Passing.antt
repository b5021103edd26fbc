-- One more record of a log is passed.
use Rattle.std.proofs.Common.{◌≡◌, ℕ, ◌+◌, List, [], ◌∷◌, ◌++◌, Some, ap, sym, ◌∙◌, arith, length-append, append_assoc}
use Rattle.std.proofs.lemmas.List.Sums.{fold-append}
use Rattle.transactions_file.specs.Inventory.{State, start, step}
use Rattle.channel_files.specs.Chunks.{Range, ranges_step}
use Rattle.disk_opening.specs.LogReading.{HasPassed}
use Rattle.disk_opening.specs.LogFaults.{HasRightFront}

pub passed_on : (payloads left left' : List (List ℕ)) (count count' : ℕ) (state state' : State) (ranges ranges' : List Range) (payload : List ℕ) → HasPassed payloads left count state ranges
    → left ≡ payload ∷ left' → step (Some state) payload ≡ Some state' → ranges' ≡ ranges_step ranges payload → count' ≡ count + 1 → HasPassed payloads left' count' state' ranges'
passed_on payloads left left' count count' state state' ranges ranges' payload so parts stepped chunked counted = record {
  passed = so.passed ++ payload ∷ [];
  split = so.split ∙ ap (λ l. so.passed ++ l) parts ∙ sym (append_assoc so.passed (payload ∷ []) left');
  number = omega (arith, counted, so.number, length-append so.passed (payload ∷ []));
  inventory = fold-append step (Some start) so.passed (payload ∷ []) ∙ ap (λ s. step s payload) so.inventory ∙ stepped;
  chunks = chunked ∙ ap (λ rs. ranges_step rs payload) so.chunks ∙ sym (fold-append ranges_step [] so.passed (payload ∷ []));
}

-- the record that comes next, with those in front of it
pub right_front : (payloads left left' : List (List ℕ)) (count at : ℕ) (state : State) (ranges : List Range) (payload : List ℕ) → HasPassed payloads left count state ranges
    → left ≡ payload ∷ left' → at ≡ count + 1 → HasRightFront payloads at state payload
right_front payloads left left' count at state ranges payload so parts numbered = record {
  front = so.passed;
  behind = left';
  split = so.split ∙ ap (λ l. so.passed ++ l) parts;
  number = omega (arith, numbered, so.number);
  inventory = so.inventory;
}
