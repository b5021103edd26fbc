use Rattle.std.proofs.Common.{◌≡◌, ℕ, ◌+◌, ◌-◌, ◌^◌, List, min, take, sym, ap, ◌∙◌, arith, rules, ◌≤◌}
use Rattle.std.specs.Prelude.{sum_by}
use Rattle.std.specs.List.{flat_map}
use Rattle.std.proofs.lemmas.List.{take_all}
use Rattle.entity_form.specs.declared.value.Value.{Value}
use Rattle.entity_form.specs.declared.value.Object.{Object}
use Rattle.graph_model.specs.Graph.{entity_size}
use Rattle.entity_form.specs.Values.{refs_of, plain_of, value_size, entity_of}
use Rattle.entity_form.proofs.Sizes.{size_by_values}
use Rattle.entity_form.proofs.writing.encode.Goals as goal

pub returns-then-length-gt-ENTITY_LIMIT-clause-fault : goal.returns-then-length-gt-ENTITY_LIMIT-clause-fault
returns-then-length-gt-ENTITY_LIMIT-clause-fault c =
    let values = c.args.object.now.values in
    let size = size_by_values values in
    let said : c.size_of-length.result ≡ min (32 + sum_by value_size values) (2 ^ 64 - 1) =
    c.size_of-length.ensures ∙ ap (λ (vs : List Value). min (32 + sum_by value_size vs) (2 ^ 64 - 1)) c.as_slice-values.ensures in
    (omega (arith, said, size), said ∙ ap (λ (n : ℕ). min n (2 ^ 64 - 1)) (sym size))

small_of : (object : Object) (values : List Value) (size : ℕ) → values ≡ object.values → size ≡ min (32 + sum_by value_size values) (2 ^ 64 - 1) → size ≤ 1048576 → entity_size (entity_of object) ≤ 1048576
small_of object values size same said small =
    let sum : sum_by value_size values ≡ sum_by value_size object.values = ap (λ (vs : List Value). sum_by value_size vs) same in
    omega (arith, sum, size_by_values object.values)

pub returns-in_err-put_refs-clause-fault : goal.returns-in_err-put_refs-clause-fault
returns-in_err-put_refs-clause-fault c =
    let small : entity_size (entity_of c.args.object.now) ≤ 1048576 = small_of c.args.object.now _ _ c.as_slice-values.ensures c.size_of-length.ensures c.if-length-gt-ENTITY_LIMIT.false in
    search rules

pub returns-in_err-put_plain-clause-fault : goal.returns-in_err-put_plain-clause-fault
returns-in_err-put_plain-clause-fault c =
    let small : entity_size (entity_of c.args.object.now) ≤ 1048576 = small_of c.args.object.now _ _ c.as_slice-values.ensures c.size_of-length.ensures c.if-length-gt-ENTITY_LIMIT.false in
    search rules

pub returns-clause-fits : goal.returns-clause-fits
returns-clause-fits c =
    let values = c.args.object.now.values in
    let said : c.size_of-length.result ≡ min (32 + sum_by value_size values) (2 ^ 64 - 1) =
    c.size_of-length.ensures ∙ ap (λ (vs : List Value). min (32 + sum_by value_size vs) (2 ^ 64 - 1)) c.as_slice-values.ensures in
    let all : take c.loop-value.value-index c.as_slice-values.result.now ≡ values = take_all c.loop-value.value-index c.as_slice-values.result.now c.loop-value-test.false ∙ c.as_slice-values.ensures in
    let refs : c.new.result ≡ flat_map refs_of values = c.new.ensures ∙ c.loop-value.invariant.refs ∙ ap (flat_map refs_of) all in
    let plain : c.new-2.result ≡ flat_map plain_of values = c.new-2.ensures ∙ c.loop-value.invariant.plain ∙ ap (flat_map plain_of) all in
    rw (refs, plain) (omega (arith, said, size_by_values values, c.if-length-gt-ENTITY_LIMIT.false))
