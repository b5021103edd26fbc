-- Entities that have their type's form, by a list of types.
use Rattle.std.specs.Prelude.{ℕ, List}
use Rattle.graph_model.specs.declared.entity.Entity.{Entity}
use Rattle.type_desc.specs.declared.desc.TypeDesc.{TypeDesc}
use Rattle.type_dictionary.specs.Latest.{desc_of}
use Rattle.entity_form.specs.KnownForm.{IsOfKnownForm}

abbrev pub IsWellFormed : List TypeDesc → ℕ → Entity → Type 0
IsWellFormed types id entity = IsOfKnownForm (desc_of types) id entity
