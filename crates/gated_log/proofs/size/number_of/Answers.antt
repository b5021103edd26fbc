-- Four bytes spell one number.
use Rattle.std.proofs.Common.{◌≡◌, List, ℕ, Some, take, drop, ap, sym, ◌∙◌, rules}
use Rattle.std.specs.Int.{w32, from_le_bytes}
use Rattle.std.proofs.lemmas.List.{take_all}
use Rattle.std.proofs.lemmas.Nat.{le_bytes_4}
use Rattle.field_bytes.proofs.LittleEndian.{number_at-u32}
use Rattle.gated_log.proofs.size.number_of.Goals as goal

pub returns-clause-value : goal.returns-clause-value
returns-clause-value c =
    let bytes = c.args.bytes in
    let whole : take 4 (drop 0 bytes) ≡ bytes = take_all 4 bytes (search rules) in
    let read : Some c.unwrap.result ≡ Some (from_le_bytes w32 (take 4 (drop 0 bytes))) = sym c.unwrap.ensures ∙ c.read_u32_at.ensures ∙ number_at-u32 bytes 0 (search rules) in
    let is : c.unwrap.result ≡ from_le_bytes w32 (take 4 (drop 0 bytes)) = cc in
    is ∙ ap (λ (l : List ℕ). from_le_bytes w32 l) whole

pub returns-clause-spelled : goal.returns-clause-spelled
returns-clause-spelled c = sym (le_bytes_4 c.args.bytes _ (search rules) (search rules) (returns-clause-value c))
