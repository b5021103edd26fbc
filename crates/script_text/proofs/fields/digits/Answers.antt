use Rattle.std.proofs.Common.{◌≡◌, ◌≤◌, ◌+◌, ap, rules, length, ◌∙◌, Ok}
use Rattle.std.specs.Char.{is_ascii_digit}
use Rattle.std.specs.List.{prefix_len}
use Rattle.std.proofs.lemmas.List.{take_rest}
use Rattle.script_text.specs.Fields.{digits_at}
use Rattle.script_text.proofs.DigitReaders.{digits_len-le, digits_cut, digits_read, IsDigits-ascii}
use Rattle.script_text.proofs.fields.digits.Goals as goal

pub overflow_add-digits_len : goal.overflow_add-digits_len
overflow_add-digits_len c =
    let cut = c.digits_len.ensures ∙ ap (prefix_len is_ascii_digit) (take_rest c.args.bytes.now 1) in
    let within : 1 + c.digits_len.result ≤ length c.args.bytes.now = digits_len-le c.args.bytes.now c.digits_len.result c.in-len1-up.len_at_least cut in
    search rules

pub split_at-requires : goal.split_at-requires
split_at-requires c =
    let cut = c.digits_len.ensures ∙ ap (prefix_len is_ascii_digit) (take_rest c.args.bytes.now 1) in
    digits_len-le c.args.bytes.now c.digits_len.result c.in-len1-up.len_at_least cut

read : (c : goal.After-split_at) → digits_at c.args.bytes.now ≡ Ok (c.split_at.result.0.now, c.split_at.result.1.now)
read c =
    let cut = c.digits_len.ensures ∙ ap (prefix_len is_ascii_digit) (take_rest c.args.bytes.now 1) in
    rw (c.split_at.ensures.front, c.split_at.ensures.back) (digits_cut c.args.bytes.now c.digits_len.result c.in-len1-up.len_at_least (search rules) cut)

pub returns-in-len1-up-clause-read : goal.returns-in-len1-up-clause-read
returns-in-len1-up-clause-read c = read c

pub returns-in-len1-up-clause-digits : goal.returns-in-len1-up-clause-digits
returns-in-len1-up-clause-digits c = digits_read c.args.bytes.now c.split_at.result.0.now c.split_at.result.1.now (read c)

pub returns-in-len1-up-clause-ascii : goal.returns-in-len1-up-clause-ascii
returns-in-len1-up-clause-ascii c = IsDigits-ascii c.split_at.result.0.now (digits_read c.args.bytes.now c.split_at.result.0.now c.split_at.result.1.now (read c))
