-- The type that is built in.
use Rattle.std.specs.Prelude.{[], ◌∷◌, codes}
use Rattle.type_desc.specs.declared.desc.Kind.TheVariants.{Ref}
use Rattle.type_desc.specs.declared.desc.TypeDesc.{TypeDesc}

-- `Root` has the one member `target`, a reference
abbrev pub root_desc : TypeDesc
root_desc = record { name = codes "Root"; members = record { kind = Ref; name = codes "target" } ∷ [] }
