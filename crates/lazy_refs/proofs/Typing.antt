-- What is loaded is of known types, and its values are of their kinds.
use Rattle.std.proofs.Common.{◌≡◌, ℕ, Bool, true, false, cond, List, ◌++◌, Option, Some, None, Ok, refl, sym, ap, ◌∙◌, subst}
use Rattle.std.specs.Prelude.{IsSomeAnd}
use Rattle.std.proofs.lemmas.List.Elements.{All-push}
use Rattle.graph_model.specs.declared.entity.Entity.{Entity}
use Rattle.type_desc.specs.declared.desc.TypeDesc.{TypeDesc}
use Rattle.type_dictionary.specs.Latest.{desc_of, latest_of}
use Rattle.entity_form.specs.Reading.{values_at}
use Rattle.entity_form.specs.Values.{AreOf, kinds_of}
use Rattle.entity_form.specs.declared.value.Object.{Object}
use Rattle.entity_form.specs.declared.value.Value.{Value}
use Rattle.entity_form.proofs.Forms.{holds_again}
use Rattle.refactor_table.specs.declared.name.Pair.{Pair}
use Rattle.legacy_mapping.specs.Conversion.{Suits, converted}
use Rattle.legacy_mapping.proofs.Conversions.{kinds-converted}
use Rattle.session_model.specs.Instances.{Instances}
use Rattle.session_model.specs.Types.{all_of_kinds, desc_at, sources_of, target_name}
use Rattle.session_model.specs.Loading.{Converted, conversion, converted_from, converted_if, converted_to, values_in}
use Rattle.lazy_refs.specs.Forms.{IsObjectOf}
use Rattle.lazy_refs.specs.Mappings.{AreTypedIn, IsTyped, seen}
use Rattle.lazy_refs.specs.Steps.{IsTypedStep}
use Rattle.lazy_refs.specs.Walks.{Progress, TurnsBy, TurnsWith, loads_with}
use Rattle.lazy_refs.specs.declared.step.LoadStep.{LoadStep}
use Rattle.lazy_refs.specs.declared.step.LoadStep.TheVariants as steps
use Rattle.lazy_refs.proofs.Alike.{converted-same}
use Rattle.lazy_refs.proofs.Sourcing.{suits_all}
use Rattle.lazy_refs.proofs.Turning.{nothing_more}

-- ---- one object

pub typed_by : (types : List TypeDesc) (desc : TypeDesc) (object : Object) → desc_of types object.type_id ≡ Some desc → AreOf (kinds_of desc) object.values → IsTyped types object
typed_by types desc object known are = subst (λ (o : Option TypeDesc). IsSomeAnd o (λ d. AreOf (kinds_of d) object.values)) (sym known) are

pub read_typed : (types : List TypeDesc) (entity : Entity) (object : Object) → IsObjectOf types entity object → IsTyped types object
read_typed types entity object of = typed_by types of.desc object (ap (desc_of types) of.of_type ∙ of.known) of.holds.of_kinds

kinds_converted : (pairs : List Pair) (old new : TypeDesc) (values : List Value) → AreOf (kinds_of old) values → all_of_kinds pairs old new new.members ≡ true
    → AreOf (kinds_of new) (converted values (kinds_of new) (sources_of pairs old new new.members))
kinds_converted pairs old new values are fits =
    let sources = sources_of pairs old new new.members in
    let suits = subst (λ ks. Suits ks (kinds_of new) sources) (sym are) (suits_all pairs old new new.members fits) in
    subst (AreOf (kinds_of new)) (converted-same values (kinds_of new) sources) (kinds-converted values (kinds_of new) sources suits)

to_typed : (types : List TypeDesc) (pairs : List Pair) (entity : Entity) (old new : TypeDesc) (id : ℕ) (values : List Value) (object : Object) → AreOf (kinds_of old) values
    → values_at (kinds_of old) 0 entity.refs entity.plain ≡ Ok values → desc_of types id ≡ Some new → converted_to pairs entity old id new ≡ Converted.Loaded object → IsTyped types object
to_typed types pairs entity old new id values object are read known is = by (all_of_kinds pairs old new new.members) refl is
  where
    made : List Value → Object
    made vs = record { type_id = id; values = converted vs (kinds_of new) (sources_of pairs old new new.members) }

    by : (b : Bool) → all_of_kinds pairs old new new.members ≡ b
        → cond b (Converted.Loaded (made (values_in (values_at (kinds_of old) 0 entity.refs entity.plain)))) Converted.WrongKind ≡ Converted.Loaded object → IsTyped types object
    by true fits e =
        let one : made (values_in (values_at (kinds_of old) 0 entity.refs entity.plain)) ≡ object = cc in
        subst (IsTyped types) (ap made (sym (ap values_in read)) ∙ one) (typed_by types new (made values) known (kinds_converted pairs old new values are fits))
    by false fits e = absurd cc

-- what an entity becomes
pub converted_typed : (types : List TypeDesc) (pairs : List Pair) (entity : Entity) (object made : Object) → IsObjectOf types entity object → conversion types pairs entity ≡ Converted.Loaded made → IsTyped types made
converted_typed types pairs entity object made of is =
    by (latest_of types (target_name pairs of.desc.name)) refl (sym (ap (converted_from types pairs entity) of.known) ∙ is)
  where
    of_desc : (id : ℕ) (o : Option TypeDesc) → desc_of types id ≡ o → converted_if pairs entity of.desc (Some id) o ≡ Converted.Loaded made → IsTyped types made
    of_desc id None known e = absurd cc
    of_desc id (Some new) known e =
        to_typed types pairs entity of.desc new id object.values made of.holds.of_kinds (holds_again (kinds_of of.desc) 0 entity.refs entity.plain object.values of.holds) known e

    by : (o : Option ℕ) → latest_of types (target_name pairs of.desc.name) ≡ o
        → converted_if pairs entity of.desc (latest_of types (target_name pairs of.desc.name)) (desc_at types (latest_of types (target_name pairs of.desc.name))) ≡ Converted.Loaded made → IsTyped types made
    by None latest e = let none : converted_if pairs entity of.desc None None ≡ Converted.Loaded made = sym (ap (λ (o : Option ℕ). converted_if pairs entity of.desc o (desc_at types o)) latest) ∙ e in absurd cc
    by (Some id) latest e = of_desc id (desc_of types id) refl (sym (ap (λ (o : Option ℕ). converted_if pairs entity of.desc o (desc_at types o)) latest) ∙ e)

-- ---- all that is loaded

with_it : (types : List TypeDesc) (objects : List (ℕ × Object)) (id : ℕ) (converted : Converted) → ((made : Object) → converted ≡ Converted.Loaded made → IsTyped types made)
    → AreTypedIn types objects → AreTypedIn types (objects ++ loads_with id converted)
with_it types objects id (Converted.Loaded made) typed all = All-push (λ p. IsTyped types p.1) objects (id, made) all (typed made refl)
with_it types objects id Converted.NoType typed all = subst (AreTypedIn types) (nothing_more objects) all
with_it types objects id Converted.WrongKind typed all = subst (AreTypedIn types) (nothing_more objects) all

taken : (types : List TypeDesc) (pairs : List Pair) (instances : Instances) (entity : Entity) (object : Object) (old new : Progress) (step : LoadStep)
    → IsObjectOf types entity object → (t : TurnsBy types pairs instances object old new step) → AreTypedIn types old.loaded → AreTypedIn types t.turns.between.loaded
taken types pairs instances entity object old new step of t all =
    let is = t.becomes entity of in
    subst (AreTypedIn types) (sym t.turns.takes.loaded) (with_it types old.loaded old.asked (seen t.outcome) (λ made e. converted_typed types pairs entity object made of (is ∙ e)) all)

pub typed_step : (types : List TypeDesc) (pairs : List Pair) (instances : Instances) (entity : Entity) (old new : Progress) (step : LoadStep)
    → TurnsWith types pairs instances entity old new step → AreTypedIn types old.loaded → IsTypedStep types new step
typed_step types pairs instances entity old new (steps.Want id) t all =
    subst (AreTypedIn types) (sym t.2.turns.goes_on.loaded) (taken types pairs instances entity t.0 old new (steps.Want id) t.1.held t.2 all)
typed_step types pairs instances entity old new (steps.Ready all) t typed =
    subst (AreTypedIn types) (sym t.2.turns.goes_on.1.1) (taken types pairs instances entity t.0 old new (steps.Ready all) t.1.held t.2 typed)
typed_step types pairs instances entity old new (steps.NoType id) t all = tt
typed_step types pairs instances entity old new (steps.WrongKind id) t all = tt
typed_step types pairs instances entity old new (steps.Broken id) t all = tt
