-- The numbers of a store are read.
use Rattle.std.proofs.Common.{◌≡◌, ap, sym, ◌∙◌, arith, Some, ℕ}
use Rattle.field_bytes.specs.Fields.{number_at}
use Rattle.field_bytes.proofs.Laws.{IsBytes}
use Rattle.plain_storage.proofs.StoreNumbers.{numbers_spelled, second_number, same_option, some_number}
use Rattle.plain_storage.proofs.store_payload.next_of.Goals as goal

pub returns-then-next_id-before-clause-only : goal.returns-then-next_id-before-clause-only
returns-then-next_id-before-clause-only c next rest is some low high =
    let payload = c.args.payload.now in
    let found : number_at 8 payload 8 ≡ Some c.in_ok-next_id.next_id = sym c.read_u64_at-2.ensures ∙ c.in_ok-next_id.was in
    let same : c.in_ok-next_id.next_id ≡ next = some_number c.in_ok-next_id.next_id next (number_at 8 payload 8) found (second_number payload rest c.args.number next (omega arith) is) in
    absurd (omega arith)

pub returns-clause-some : goal.returns-clause-some
returns-clause-some c =
    let payload = c.args.payload.now in
    let fits : IsBytes payload = λ i. omega (arith, c.type_inv.payload i) in
    let found : number_at 8 payload 8 ≡ Some c.in_ok-next_id.next_id = sym c.read_u64_at-2.ensures ∙ c.in_ok-next_id.was in
    let first : number_at 8 payload 0 ≡ Some c.args.number = sym c.read_u64_at.ensures ∙ same_option c.read_u64_at.result c.args.number (sym c.if-ne.ensures) in
    numbers_spelled payload c.args.number c.in_ok-next_id.next_id fits (omega arith) first found

pub returns-clause-only : goal.returns-clause-only
returns-clause-only c next rest is some low high =
    let payload = c.args.payload.now in
    let found : number_at 8 payload 8 ≡ Some c.in_ok-next_id.next_id = sym c.read_u64_at-2.ensures ∙ c.in_ok-next_id.was in
    let same : c.in_ok-next_id.next_id ≡ next = some_number c.in_ok-next_id.next_id next (number_at 8 payload 8) found (second_number payload rest c.args.number next (omega arith) is) in
    ap (λ (k : ℕ). Some k) same
