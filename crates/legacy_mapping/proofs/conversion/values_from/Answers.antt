-- Each value is taken from its source.
use Rattle.std.proofs.Common.{◌≡◌, ◌++◌, ◌∷◌, [], List, Some, None, length, map, take, get_or, refl, ap, ◌∙◌, rules, arith}
use Rattle.std.specs.Prelude.{slice_get, option_map}
use Rattle.std.proofs.lemmas.List.{take_all}
use Rattle.std.proofs.lemmas.Option.{slice_get-map, slice_get-get_or, slice_get_read}
use Rattle.entity_form.specs.Values.{kind_of}
use Rattle.type_desc.specs.declared.desc.Kind.{Kind}
use Rattle.type_desc.specs.declared.desc.Member.{Member}
use Rattle.legacy_mapping.specs.Conversion.{value_from}
use Rattle.legacy_mapping.proofs.Conversions.{suits_length}
use Rattle.legacy_mapping.proofs.Takings.{none_taken, one_more, source_there}
use Rattle.legacy_mapping.proofs.conversion.values_from.Goals as goal

-- the kinds of members
abbrev kinds : List Member → List Kind
kinds members = map (λ (m : Member). m.kind) members

length-kinds : (members : List Member) → length (kinds members) ≡ length members
length-kinds [] = refl
length-kinds (m ∷ ms) = omega (arith, length-kinds ms)

pub bounds-sources-i : goal.bounds-sources-i
bounds-sources-i c =
    let same = suits_length (map kind_of c.args.values.now) (kinds c.args.members.now) c.args.sources.now c.requires.suits in
    let len = length-kinds c.args.members.now in
    omega arith

pub loop-i-init : goal.loop-i-init
loop-i-init c =
    let empty : c.new-new_values.result.items ≡ [] = search rules in
    rw empty (none_taken c.args.values.now (kinds c.args.members.now) c.args.sources.now)

pub take_value-value-requires : goal.take_value-value-requires
take_value-value-requires c =
    let same = suits_length (map kind_of c.args.values.now) (kinds c.args.members.now) c.args.sources.now c.requires.suits in
    let len = length-kinds c.args.members.now in
    let at = slice_get-get_or c.args.sources.now c.loop-i.i None (omega arith) in
    source_there c.args.values.now c.loop-i.values (kinds c.args.members.now) c.args.sources.now c.loop-i.i c.loop-i.new_values.items _ c.loop-i.invariant c.requires.suits at

pub loop-i-preserved : goal.loop-i-preserved
loop-i-preserved c =
    let same = suits_length (map kind_of c.args.values.now) (kinds c.args.members.now) c.args.sources.now c.requires.suits in
    let len = length-kinds c.args.members.now in
    let source = get_or c.args.sources.now c.loop-i.i None in
    let source_at : slice_get c.args.sources.now c.loop-i.i ≡ Some source = slice_get-get_or c.args.sources.now c.loop-i.i None (omega arith) in
    let member = c.index-members-i.result in
    let member_at = slice_get_read c.args.members.now (length c.args.members.now) c.loop-i.i member refl c.loop-i-test.true c.index-members-i.is in
    let kind_at : slice_get (kinds c.args.members.now) c.loop-i.i ≡ Some member.kind =
    slice_get-map (λ (m : Member). m.kind) c.args.members.now c.loop-i.i ∙ ap (option_map (λ (m : Member). m.kind)) member_at in
    let more = one_more c.args.values.now c.loop-i.values c.take_value-value.new.values (kinds c.args.members.now) c.args.sources.now c.loop-i.i c.loop-i.new_values.items member.kind source
    c.requires.apart same c.loop-i.invariant kind_at source_at c.take_value-value.ensures.length c.take_value-value.ensures.others in
    let items : c.push.new.self.items ≡ c.loop-i.new_values.items ++ c.take_value-value.result ∷ [] = search rules in
    let value : c.take_value-value.result ≡ value_from c.loop-i.values member.kind source = search rules in
    rw (items, value) more

pub returns : goal.returns
returns c =
    let same = suits_length (map kind_of c.args.values.now) (kinds c.args.members.now) c.args.sources.now c.requires.suits in
    let len = length-kinds c.args.members.now in
    let all_kinds : take c.loop-i.i (kinds c.args.members.now) ≡ kinds c.args.members.now = take_all c.loop-i.i (kinds c.args.members.now) (omega arith) in
    let all_sources : take c.loop-i.i c.args.sources.now ≡ c.args.sources.now = take_all c.loop-i.i c.args.sources.now (omega arith) in
    c.new.ensures ∙ c.loop-i.invariant.values ∙ rw (all_kinds, all_sources) refl
