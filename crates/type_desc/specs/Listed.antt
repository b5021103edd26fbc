-- The members of a list.
use Rattle.std.specs.Prelude.{List, [], ◌∷◌}
use Rattle.type_desc.specs.declared.desc.Member.{Member}
use Rattle.type_desc.specs.declared.lists.Items.{Items}
use Rattle.type_desc.specs.declared.lists.Items.TheVariants.{Own, One}

-- those of a `Vec`, or one alone
abbrev pub members_of : Items → List Member
members_of (Own vec) = vec.items
members_of (One member) = member ∷ []
