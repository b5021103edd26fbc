use Rattle.std.proofs.Common.{◌≡◌, List, take, map, ap, ◌∙◌}
use Rattle.std.proofs.lemmas.List.{take_all}
use Rattle.type_desc.specs.declared.desc.Member.{Member}
use Rattle.entity_form.specs.Values.{default_of, kinds_of}
use Rattle.entity_form.proofs.DefaultKinds.{kinds_of-defaults}
use Rattle.entity_form.proofs.defaults.default_object.Goals as goal

pub returns-clause-fits : goal.returns-clause-fits
returns-clause-fits c =
    let items = c.as_slice-member-items.result.now in
    let all : take c.loop-member.member-index items ≡ c.args.desc.now.members = take_all c.loop-member.member-index items c.loop-member-test.false ∙ c.as_slice-member-items.ensures in
    let made : c.new.result ≡ map default_of (kinds_of c.args.desc.now) =
    c.new.ensures ∙ c.loop-member.invariant ∙ ap (λ (ms : List Member). map default_of (map (λ (m : Member). m.kind) ms)) all in
    rw made (kinds_of-defaults (kinds_of c.args.desc.now))
