-- The words of the lower crates and those of the model mean the same.
use Rattle.std.proofs.Common.{◌≡◌, ℕ, ◌+◌, cond, List, [], ◌∷◌, Option, Some, None, refl, ap, ◌∙◌}
use Rattle.std.specs.Option.{option_or}
use Rattle.std.specs.Str.{bytes_eq}
use Rattle.type_desc.specs.declared.desc.Kind.{Kind}
use Rattle.type_desc.specs.declared.desc.TypeDesc.{TypeDesc}
use Rattle.entity_form.specs.declared.value.Value.{Value}
use Rattle.type_dictionary.specs.Latest as dictionary
use Rattle.type_dictionary.specs.Latest.{desc_of, latest_from, latest_of}
use Rattle.legacy_mapping.specs.Conversion as legacy
use Rattle.session_model.specs.Types.{is_root_type}

pub desc_of-same : (types : List TypeDesc) (id : ℕ) → dictionary.desc_of types id ≡ desc_of types id
desc_of-same types id = refl

first-same : {A : Type 0} (a b : Option A) → option_or a b ≡ option_or a b
first-same None b = refl
first-same (Some x) b = refl

latest_from-same : (id : ℕ) (types : List TypeDesc) (name : List ℕ) → dictionary.latest_from id types name ≡ latest_from id types name
latest_from-same id [] name = refl
latest_from-same id (desc ∷ types) name = first-same (dictionary.latest_from (id + 1) types name) (cond (bytes_eq desc.name name) (Some id) None) ∙ ap (λ (o : Option ℕ). option_or o (cond (bytes_eq desc.name name) (Some id) None)) (latest_from-same (id + 1) types name)

pub latest-same : (types : List TypeDesc) (name : List ℕ) → dictionary.latest_of types name ≡ latest_of types name
latest-same types name = ap (λ (o : Option ℕ). cond (is_root_type name) (Some 1) o) (latest_from-same 16 types name)

value_from-same : (values : List Value) (kind : Kind) (source : Option ℕ) → legacy.value_from values kind source ≡ legacy.value_from values kind source
value_from-same values kind None = refl
value_from-same values kind (Some i) = refl

pub converted-same : (values : List Value) (kinds : List Kind) (sources : List (Option ℕ)) → legacy.converted values kinds sources ≡ legacy.converted values kinds sources
converted-same values [] sources = refl
converted-same values (kind ∷ kinds) [] = refl
converted-same values (kind ∷ kinds) (source ∷ sources) = ap (λ (v : Value). v ∷ legacy.converted values kinds sources) (value_from-same values kind source) ∙ ap (λ (vs : List Value). legacy.value_from values kind source ∷ vs) (converted-same values kinds sources)
