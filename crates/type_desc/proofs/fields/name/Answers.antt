use Rattle.std.proofs.Common.{◌≡◌, ◌≤◌, ◌+◌, ap, rules, length, ◌∙◌, Ok}
use Rattle.std.proofs.lemmas.List.{take_rest}
use Rattle.type_desc.specs.Reader.{run_len}
use Rattle.type_desc.specs.Grammar.{continues_name}
use Rattle.type_desc.specs.Reading.{name_at}
use Rattle.type_desc.proofs.Names.{name_len-le, name_cut, name_read-ascii}
use Rattle.type_desc.proofs.fields.name.Goals as goal

pub overflow_add-name_len : goal.overflow_add-name_len
overflow_add-name_len c =
    let cut = c.name_len.ensures ∙ ap (run_len (continues_name c.args.kind) 63) (take_rest c.args.bytes.now 1) in
    let within : 1 + c.name_len.result ≤ length c.args.bytes.now = name_len-le c.args.kind c.args.bytes.now c.name_len.result c.in-len1-up.len_at_least cut in
    search rules

pub split_at-requires : goal.split_at-requires
split_at-requires c =
    let cut = c.name_len.ensures ∙ ap (run_len (continues_name c.args.kind) 63) (take_rest c.args.bytes.now 1) in
    name_len-le c.args.kind c.args.bytes.now c.name_len.result c.in-len1-up.len_at_least cut

read : (c : goal.After-split_at) → name_at c.args.kind c.args.bytes.now ≡ Ok (c.split_at.result.0.now, c.split_at.result.1.now)
read c =
    let cut = c.name_len.ensures ∙ ap (run_len (continues_name c.args.kind) 63) (take_rest c.args.bytes.now 1) in
    rw (c.split_at.ensures.front, c.split_at.ensures.back) (name_cut c.args.kind c.args.bytes.now c.name_len.result c.in-len1-up.len_at_least (search rules) cut)

pub returns-in-len1-up-clause-read : goal.returns-in-len1-up-clause-read
returns-in-len1-up-clause-read c = read c

pub returns-in-len1-up-clause-ascii : goal.returns-in-len1-up-clause-ascii
returns-in-len1-up-clause-ascii c = name_read-ascii c.args.kind c.args.bytes.now c.split_at.result.0.now c.split_at.result.1.now (read c)
