-- The value that was there, and all others as they were.
use Rattle.std.proofs.Common.{◌≡◌, ℕ, Option, Some, sym, ap, ◌∙◌}
use Rattle.std.specs.Prelude.{unwrap_or}
use Rattle.std.proofs.lemmas.Option.{slice_get-get_or}
use Rattle.entity_form.specs.Values.{default_of}
use Rattle.entity_form.specs.declared.value.Value.{Value}
use Rattle.legacy_mapping.specs.Conversion.{value_from}
use Rattle.legacy_mapping.proofs.Takings.{get_else}
use Rattle.legacy_mapping.proofs.conversion.take_value.Goals as goal

pub returns-in-Some-clause-value : goal.returns-in-Some-clause-value
returns-in-Some-clause-value c =
    let there = slice_get-get_or c.args.values.now c.in-Some.i c.index-values-i.result (c.requires c.in-Some.i c.in-Some.is) in
    c.replace.ensures.value ∙ sym (ap (λ (s : Option ℕ). value_from c.args.values.now c.args.kind s) c.in-Some.is ∙ ap (λ (o : Option Value). unwrap_or o (default_of c.args.kind)) there)

pub returns-in-Some-clause-others : goal.returns-in-Some-clause-others
returns-in-Some-clause-others c = λ k other. get_else c.args.values.now c.in-Some.i k c.replace.new.dest (λ same. other (c.in-Some.is ∙ ap Some same))
