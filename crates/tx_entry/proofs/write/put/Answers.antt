use Rattle.std.proofs.Common.{◌≡◌, ℕ, ◌≤◌, List, [], ◌∷◌, length, take, set, refl, ap, ◌∙◌, arith}
use Rattle.tx_entry.proofs.write.put.Goals as goal

byte_in_front : (out : List ℕ) (byte : ℕ) → 1 ≤ length out → take 1 (set out 0 byte) ≡ byte ∷ []
byte_in_front [] byte some = absurd (omega arith)
byte_in_front (x ∷ out) byte some = refl

pub loop-number-init : goal.loop-number-init
loop-number-init c = record { place = refl; spelled = byte_in_front c.args.out.now c.byte_of.result (omega arith) ∙ ap (λ (k : ℕ). k ∷ []) c.byte_of.ensures }
