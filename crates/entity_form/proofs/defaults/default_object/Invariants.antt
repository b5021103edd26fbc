use Rattle.std.proofs.Common.{◌≡◌, take, map}
use Rattle.type_desc.specs.declared.desc.Member.{Member}
use Rattle.entity_form.specs.Values.{default_of}
use Rattle.entity_form.proofs.defaults.default_object.Given as goal

abbrev pub invariant-loop-member : goal.invariant-loop-member
invariant-loop-member l = l.values.items ≡ map default_of (map (λ (m : Member). m.kind) (take l.member-index l.member-items))
