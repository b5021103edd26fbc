use Rattle.std.proofs.Common.{◌*◌, ◌≤◌, ◌<◌, length, take, drop, ap, [], sym, ◌∙◌, arith, rules}
use Rattle.std.specs.Prelude.{IsTrue, IsFalse, IsNone}
use Rattle.std.proofs.lemmas.List.{append-nil, take_rest}
use Rattle.field_bytes.proofs.Laws.{IsBytes}
use Rattle.entity_form.proofs.Spellings.{BeginsWithHeader, spelled_is_long, spelled_has_header, whole_read, told_apart}
use Rattle.entity_form.proofs.spelling.read_entity.Goals as goal

pub returns-in_default-clause-only : goal.returns-in_default-clause-only
returns-in_default-clause-only c = λ r is e.
    let none : IsNone c.header_at.result = search rules in
    let short : length c.args.bytes.now < 32 = c.header_at.ensures.none.0 none in
    absurd (omega (arith, short, spelled_is_long r c.args.bytes.now e))

pub returns-in_default-clause-bad : goal.returns-in_default-clause-bad
returns-in_default-clause-bad c = λ same whole.
    let none : IsNone c.header_at.result = search rules in
    let short : length c.args.bytes.now < 32 = c.header_at.ensures.none.0 none in
    omega (arith, short, spelled_is_long whole.0 c.args.bytes.now whole.2)

pub returns-then-not-is_header_of-clause-only : goal.returns-then-not-is_header_of-clause-only
returns-then-not-is_header_of-clause-only c = λ r is e.
    let begins : BeginsWithHeader c.args.bytes.now c.in-Some.header =
    record { length_is = c.in-Some.ensures.length; type_id_is = c.in-Some.ensures.type_id; id_is = c.in-Some.ensures.id; count_is = c.in-Some.ensures.count } in
    let wrong : IsFalse c.is_header_of.result = search rules in
    absurd (c.is_header_of.ensures.no wrong (spelled_has_header r c.args.bytes.now c.in-Some.header is e begins))

pub returns-then-not-is_header_of-clause-bad : goal.returns-then-not-is_header_of-clause-bad
returns-then-not-is_header_of-clause-bad c = λ same whole.
    let begins : BeginsWithHeader c.args.bytes.now c.in-Some.header =
    record { length_is = c.in-Some.ensures.length; type_id_is = c.in-Some.ensures.type_id; id_is = c.in-Some.ensures.id; count_is = c.in-Some.ensures.count } in
    let wrong : IsFalse c.is_header_of.result = search rules in
    c.is_header_of.ensures.no wrong (spelled_has_header whole.0 c.args.bytes.now c.in-Some.header whole.1 whole.2 begins)

pub returns-clause-found : goal.returns-clause-found
returns-clause-found c =
    let begins : BeginsWithHeader c.args.bytes.now c.in-Some.header =
    record { length_is = c.in-Some.ensures.length; type_id_is = c.in-Some.ensures.type_id; id_is = c.in-Some.ensures.id; count_is = c.in-Some.ensures.count } in
    let fits : IsBytes c.args.bytes.now = λ i. omega (arith, c.type_inv.bytes i) in
    let right : IsTrue c.is_header_of.result = search rules in
    let long : 32 ≤ length c.args.bytes.now = omega arith in
    let count = 8 * c.in-Some.header.count in
    let front = c.split_at.ensures.front ∙ ap (take count) (take_rest c.args.bytes.now 32) in
    let back = c.split_at.ensures.back ∙ ap (drop count) (take_rest c.args.bytes.now 32) in
    rw (c.new.ensures, c.new-2.ensures)
    (whole_read c.args.bytes.now c.split_at.result.0.now c.split_at.result.1.now c.in_ok-numbers_in.field-0.items c.in_ok-from_slice.field-0.items c.in-Some.header
    fits begins long (c.is_header_of.ensures.yes right) front back c.in_ok-numbers_in.ensures.spelled c.in_ok-from_slice.ensures.items c.in_ok-numbers_in.ensures.fit)

pub returns-clause-only : goal.returns-clause-only
returns-clause-only c = λ r is e.
    let found = returns-clause-found c in
    (told_apart _ r [] found.0 is (append-nil _ ∙ sym found.1 ∙ e)).1
