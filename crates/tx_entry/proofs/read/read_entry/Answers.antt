use Rattle.std.proofs.Common.{◌≡◌, ℕ, ◌+◌, ◌*◌, ◌<◌, List, [], ◌∷◌, length, get_or, ap, ◌∙◌, arith}
use Rattle.field_bytes.proofs.Laws.{IsBytes}
use Rattle.tx_entry.specs.declared.kind.Kind.{Kind}
use Rattle.tx_entry.specs.Kinds.{byte_of, count_of}
use Rattle.tx_entry.specs.Entries.{entry_at, spelling}
use Rattle.tx_entry.proofs.Spelled.{spelled}
use Rattle.tx_entry.proofs.read.read_entry.Goals as goal

read_spelled : (p : List ℕ) (kind : Kind) → IsBytes p → 0 < length p → get_or p 0 0 ≡ byte_of kind → length p ≡ 1 + 8 * count_of kind → spelling (entry_at kind p) ≡ p
read_spelled [] kind are some is long = absurd (omega arith)
read_spelled (byte ∷ fields) kind are some is long = spelled kind byte fields are is long

pub returns-clause-spelled : goal.returns-clause-spelled
returns-clause-spelled c =
    ap spelling c.entry_at.ensures
    ∙ read_spelled c.args.payload.now c.in-Some.kind (λ i. omega (arith, c.type_inv.payload i)) (omega arith) c.in-Some.ensures.byte (omega (arith, c.count_of.ensures.count))
