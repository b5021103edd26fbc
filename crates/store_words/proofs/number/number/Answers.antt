use Rattle.std.proofs.Common.{rules, ◌≡◌, ◌<◌, ◌^◌, true, arith}
use Rattle.store_words.specs.Numbers.{is_tidy}
use Rattle.store_words.proofs.Decimals.{read_is, decimal_is_tidy, parse_gives_number}
use Rattle.store_words.proofs.number.number.Goals as goal

pub returns-then-not-is_tidy-clause-only : goal.returns-then-not-is_tidy-clause-only
returns-then-not-is_tidy-clause-only c = λ n is.
    let small : n < 2 ^ 64 = omega (arith, is.below, c.ranges.most.fits) in
    let tidy : is_tidy c.args.word.now ≡ true = decimal_is_tidy _ n small is.digits in
    absurd cc

pub returns-in-Ok-clause-spelled : goal.returns-in-Ok-clause-spelled
returns-in-Ok-clause-spelled c =
    let tidy : is_tidy c.args.word.now ≡ true = search rules in
    record {
      digits = read_is c.args.word.now c.parse.result c.in-Ok.n tidy c.parse.ensures.value.0 c.in-Ok.is;
      above = c.if-least-n.true;
      below = c.if-n-most.true;
    }

pub returns-in-Ok-clause-only : goal.returns-in-Ok-clause-only
returns-in-Ok-clause-only c = λ n is.
    let small : n < 2 ^ 64 = omega (arith, is.below, c.ranges.most.fits) in
    let read = parse_gives_number c.args.word.now c.parse.result n small c.parse.ensures.value.0 is.digits in
    cc

pub returns-in_default-clause-only : goal.returns-in_default-clause-only
returns-in_default-clause-only c = λ n is.
    let small : n < 2 ^ 64 = omega (arith, is.below, c.ranges.most.fits) in
    let read = parse_gives_number c.args.word.now c.parse.result n small c.parse.ensures.value.0 is.digits in
    let same : c.in-Ok.n ≡ n = cc in
    absurd (omega (arith, same, is.below, c.if-n-most.false))

pub returns-in_default-2-clause-only : goal.returns-in_default-2-clause-only
returns-in_default-2-clause-only c = λ n is.
    let small : n < 2 ^ 64 = omega (arith, is.below, c.ranges.most.fits) in
    let read = parse_gives_number c.args.word.now c.parse.result n small c.parse.ensures.value.0 is.digits in
    let same : c.in-Ok.n ≡ n = cc in
    absurd (omega (arith, same, is.above, c.if-least-n.false))

pub returns-in_default-3-clause-only : goal.returns-in_default-3-clause-only
returns-in_default-3-clause-only c = λ n is.
    let small : n < 2 ^ 64 = omega (arith, is.below, c.ranges.most.fits) in
    let read = parse_gives_number c.args.word.now c.parse.result n small c.parse.ensures.value.0 is.digits in
    absurd cc
