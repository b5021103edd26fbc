-- The values of an object that became one of another type.
use Rattle.std.specs.Prelude.{◌≡◌, ℕ, List, [], ◌∷◌, Option, Some, None, slice_get, unwrap_or}
use Rattle.std.specs.List.{AllZip}
use Rattle.std.specs.Option.{ForSome}
use Rattle.entity_form.specs.Values.{default_of, kinds_of}
use Rattle.entity_form.specs.declared.value.Value.{Value}
use Rattle.type_desc.specs.declared.desc.Kind.{Kind}
use Rattle.type_desc.specs.declared.desc.TypeDesc.{TypeDesc}
use Rattle.refactor_table.specs.declared.name.Pair.{Pair}
use Rattle.legacy_mapping.specs.Sources.{AreSources}

-- the value of a member of this kind with this source
abbrev pub value_from : List Value → Kind → Option ℕ → Value
value_from values kind None = default_of kind
value_from values kind (Some i) = unwrap_or (slice_get values i) (default_of kind)

-- for each member, in order, the value of its source
abbrev pub converted : List Value → List Kind → List (Option ℕ) → List Value
converted values [] sources = []
converted values (kind ∷ kinds) [] = []
converted values (kind ∷ kinds) (source ∷ sources) = value_from values kind source ∷ converted values kinds sources

-- each member has a source or none, and source and member have one kind
abbrev pub Suits : List Kind → List Kind → List (Option ℕ) → Type 0
Suits old_kinds new_kinds sources = AllZip (λ kind source. ForSome source (λ i. slice_get old_kinds i ≡ Some kind)) new_kinds sources

-- values of the old type, and the values of the new type that they become
pub record IsConversion (pairs : List Pair) (old new : TypeDesc) (values new_values : List Value) : Type 0 where
  pub sources : List (Option ℕ)
  pub are_sources : AreSources pairs old new sources
  pub suits : Suits (kinds_of old) (kinds_of new) sources
  pub values_are : new_values ≡ converted values (kinds_of new) sources
