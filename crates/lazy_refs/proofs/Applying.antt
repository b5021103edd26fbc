-- What a mapping makes of the entities of its type.
use Rattle.std.proofs.Common.{◌≡◌, ℕ, Bool, cond, List, Option, Some, None, Result, Ok, Err, sym, ap, ◌∙◌, subst}
use Rattle.std.specs.Prelude.{IfOk}
use Rattle.graph_model.specs.declared.entity.Entity.{Entity}
use Rattle.graph_model.specs.declared.memory.NoMemory.{NoMemory}
use Rattle.type_desc.specs.declared.desc.TypeDesc.{TypeDesc}
use Rattle.type_dictionary.specs.Latest.{desc_of, latest_of}
use Rattle.entity_form.specs.Reading.{values_at}
use Rattle.entity_form.specs.Values.{kinds_of}
use Rattle.entity_form.specs.declared.value.Object.{Object}
use Rattle.entity_form.specs.declared.value.Value.{Value}
use Rattle.entity_form.proofs.Forms.{holds_again}
use Rattle.refactor_table.specs.declared.name.Pair.{Pair}
use Rattle.legacy_mapping.specs.Conversion.{converted}
use Rattle.session_model.specs.Types.{desc_at, sources_of, target_name}
use Rattle.session_model.specs.Loading as loading
use Rattle.session_model.specs.Loading.{Converted, conversion, converted_from, converted_if, values_in}
use Rattle.lazy_refs.specs.Forms.{IsObjectOf}
use Rattle.lazy_refs.specs.Mappings.{Becomes, IsMappingBetween, IsMappingFrom, IsMappingOf, IsPlanned}
use Rattle.lazy_refs.specs.declared.mapping.Mapping.{Mapping}
use Rattle.lazy_refs.specs.declared.mapping.Mapping.TheVariants as mappings
use Rattle.lazy_refs.specs.declared.mapping.Outcome.TheVariants as outcomes
use Rattle.lazy_refs.proofs.Alike.{converted-same}

-- a target name without a type
pub no_latest : (types : List TypeDesc) (pairs : List Pair) (old : TypeDesc) (entity : Entity) → latest_of types (target_name pairs old.name) ≡ None
    → converted_from types pairs entity (Some old) ≡ Converted.NoType
no_latest types pairs old entity none = ap (λ (o : Option ℕ). converted_if pairs entity old o (desc_at types o)) none

-- a target name with a type
pub latest_is : (types : List TypeDesc) (pairs : List Pair) (old new : TypeDesc) (new_type : ℕ) (entity : Entity) → latest_of types (target_name pairs old.name) ≡ Some new_type
    → desc_of types new_type ≡ Some new → converted_from types pairs entity (Some old) ≡ loading.converted_to pairs entity old new_type new
latest_is types pairs old new new_type entity is known =
    ap (λ (o : Option ℕ). converted_if pairs entity old o (desc_at types o)) is ∙ ap (λ (d : Option TypeDesc). converted_if pairs entity old (Some new_type) d) known

loaded_by : (new_type : ℕ) (new : TypeDesc) (values : List Value) (sources plan : List (Option ℕ)) (read : Result (List Value) ℕ) → read ≡ Ok values → plan ≡ sources
    → Converted.Loaded (record { type_id = new_type; values = converted (values_in read) (kinds_of new) sources }) ≡ Converted.Loaded (record { type_id = new_type; values = converted values (kinds_of new) plan })
loaded_by new_type new values sources plan read e f =
    ap (λ (r : Result (List Value) ℕ). Converted.Loaded (record { type_id = new_type; values = converted (values_in r) (kinds_of new) sources })) e
    ∙ ap (λ (vs : List Value). Converted.Loaded (record { type_id = new_type; values = vs })) (sym (converted-same values (kinds_of new) sources))
    ∙ ap (λ (ss : List (Option ℕ)). Converted.Loaded (record { type_id = new_type; values = converted values (kinds_of new) ss })) (sym f)

pub from_between : (types : List TypeDesc) (pairs : List Pair) (old new : TypeDesc) (new_type : ℕ) (mapping : Mapping) → latest_of types (target_name pairs old.name) ≡ Some new_type
    → desc_of types new_type ≡ Some new → IsMappingBetween pairs old new_type new mapping → IsMappingFrom types pairs old mapping
from_between types pairs old new new_type (mappings.Converted id plan) is known m = record {
  new = new;
  known = ap (desc_of types) m.0 ∙ known;
  suits = m.3;
  apart = m.4;
  becomes = λ entity values read. latest_is types pairs old new new_type entity is known
      ∙ ap (λ (b : Bool). cond b (Converted.Loaded (record { type_id = new_type; values = converted (values_in (values_at (kinds_of old) 0 entity.refs entity.plain)) (kinds_of new) (sources_of pairs old new new.members) })) Converted.WrongKind) m.2
      ∙ loaded_by new_type new values (sources_of pairs old new new.members) plan (values_at (kinds_of old) 0 entity.refs entity.plain) read m.1
      ∙ ap (λ (t : ℕ). Converted.Loaded (record { type_id = t; values = converted values (kinds_of new) plan })) (sym m.0);
}
from_between types pairs old new new_type mappings.NoType is known m = absurd m
from_between types pairs old new new_type mappings.WrongKind is known m = λ entity. latest_is types pairs old new new_type entity is known
    ∙ ap (λ (b : Bool). cond b (Converted.Loaded (record { type_id = new_type; values = converted (values_in (values_at (kinds_of old) 0 entity.refs entity.plain)) (kinds_of new) (sources_of pairs old new new.members) })) Converted.WrongKind) m

pub made_from : (types : List TypeDesc) (pairs : List Pair) (old new : TypeDesc) (new_type : ℕ) (made : Result Mapping NoMemory) → latest_of types (target_name pairs old.name) ≡ Some new_type
    → desc_of types new_type ≡ Some new → IfOk made (IsMappingBetween pairs old new_type new) → IfOk made (IsMappingFrom types pairs old)
made_from types pairs old new new_type (Ok mapping) is known m = from_between types pairs old new new_type mapping is known m
made_from types pairs old new new_type (Err fault) is known m = m

-- ---- what becomes of an object

typed_as : (types : List TypeDesc) (pairs : List Pair) (object : Object) (entity : Entity) (old : TypeDesc) → desc_of types object.type_id ≡ Some old → IsObjectOf types entity object
    → conversion types pairs entity ≡ converted_from types pairs entity (Some old)
typed_as types pairs object entity old known of = ap (converted_from types pairs entity) (ap (desc_of types) (sym of.of_type) ∙ known)

-- the values of the entity, by the one type that it has
read_as : (types : List TypeDesc) (object : Object) (entity : Entity) (old : TypeDesc) → desc_of types object.type_id ≡ Some old → IsObjectOf types entity object
    → values_at (kinds_of old) 0 entity.refs entity.plain ≡ Ok object.values
read_as types object entity old known of =
    let some : Some of.desc ≡ Some old = sym of.known ∙ ap (desc_of types) (sym of.of_type) ∙ known in
    let one : of.desc ≡ old = cc in
    ap (λ (d : TypeDesc). values_at (kinds_of d) 0 entity.refs entity.plain) (sym one) ∙ holds_again (kinds_of of.desc) 0 entity.refs entity.plain object.values of.holds

pub becomes_planned : (types : List TypeDesc) (pairs : List Pair) (object : Object) (mapping : Mapping) (new_type : ℕ) (plan : List (Option ℕ)) (new : TypeDesc) (made : Object)
    → IsMappingOf types pairs object.type_id mapping → mapping ≡ mappings.Converted new_type plan → desc_of types new_type ≡ Some new
    → made.type_id ≡ new_type → made.values ≡ converted object.values (kinds_of new) plan → Becomes types pairs object (outcomes.Loaded made)
becomes_planned types pairs object mapping new_type plan new made of is known typed values = λ entity o.
    let planned : IsPlanned types pairs of.old new_type plan = subst (IsMappingFrom types pairs of.old) is of.from in
    let some : Some planned.new ≡ Some new = sym planned.known ∙ known in
    let one : planned.new ≡ new = cc in
    typed_as types pairs object entity of.old of.known o ∙ planned.becomes entity object.values (read_as types object entity of.old of.known o)
    ∙ ap (λ (d : TypeDesc). Converted.Loaded (record { type_id = new_type; values = converted object.values (kinds_of d) plan })) one
    ∙ ap (λ (vs : List Value). Converted.Loaded (record { type_id = new_type; values = vs })) (sym values)
    ∙ ap (λ (t : ℕ). Converted.Loaded (record { type_id = t; values = made.values })) (sym typed)
