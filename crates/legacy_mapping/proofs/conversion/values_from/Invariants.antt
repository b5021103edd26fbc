use Rattle.std.proofs.Common.{map}
use Rattle.type_desc.specs.declared.desc.Member.{Member}
use Rattle.legacy_mapping.proofs.Takings.{AreTaken}
use Rattle.legacy_mapping.proofs.conversion.values_from.Given as goal

abbrev pub invariant-loop-i : goal.invariant-loop-i
invariant-loop-i l = AreTaken l.initial.values l.values (map (λ (m : Member). m.kind) l.members) l.sources l.i l.new_values.items
