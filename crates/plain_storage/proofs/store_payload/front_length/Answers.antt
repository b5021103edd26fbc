-- The length of the entity in front.
use Rattle.std.proofs.Common.{◌≡◌, length, refl, ap, ◌∙◌, length-append, arith, Some, ℕ}
use Rattle.field_bytes.specs.Fields.{number_at}
use Rattle.plain_storage.specs.Stores.{record_bytes}
use Rattle.plain_storage.proofs.EntityFronts.{front_number, record_is_long}
use Rattle.plain_storage.proofs.StoreNumbers.{some_number}
use Rattle.plain_storage.proofs.store_payload.front_length.Goals as goal

pub returns-in_err-header-clause-only : goal.returns-in_err-header-clause-only
returns-in_err-header-clause-only c r more fits is =
    let short = c.in_err-header.ensures.none.0 refl in
    absurd (omega (arith, short, ap length is, length-append (record_bytes r) more, record_is_long r))

pub returns-then-header-bytes-clause-only : goal.returns-then-header-bytes-clause-only
returns-then-header-bytes-clause-only c r more fits is =
    let bytes = c.args.bytes.now in
    let n = length (record_bytes r) in
    let same : c.in_ok-header.header.length ≡ n = some_number c.in_ok-header.header.length n (number_at 8 bytes 0) c.in_ok-header.ensures.length (ap (λ l. number_at 8 l 0) is ∙ front_number r more fits) in
    absurd (omega (arith, same, c.if-header-bytes.true, ap length is, length-append (record_bytes r) more))

pub returns-clause-only : goal.returns-clause-only
returns-clause-only c r more fits is =
    let bytes = c.args.bytes.now in
    let n = length (record_bytes r) in
    let same : c.in_ok-header.header.length ≡ n = some_number c.in_ok-header.header.length n (number_at 8 bytes 0) c.in_ok-header.ensures.length (ap (λ l. number_at 8 l 0) is ∙ front_number r more fits) in
    ap (λ (k : ℕ). Some k) same
