-- The model's conversion is that of the table.
use Rattle.std.proofs.Common.{◌≡◌, ℕ, Bool, true, false, cond, List, [], ◌∷◌, Option, Some, None, Result, refl, sym, ap, ◌∙◌, subst}
use Rattle.std.specs.Prelude.{◌↔◌}
use Rattle.std.specs.List.{AllZip}
use Rattle.graph_model.specs.declared.entity.Entity.{Entity}
use Rattle.type_desc.specs.declared.desc.TypeDesc.{TypeDesc}
use Rattle.type_desc.specs.OwnNames.{HaveOwnNames, names_of}
use Rattle.type_desc.specs.Root.{root_desc}
use Rattle.type_dictionary.specs.Latest.{desc_of, latest_from, latest_of}
use Rattle.entity_form.specs.Form.{Holds}
use Rattle.entity_form.specs.Values.{kinds_of}
use Rattle.entity_form.specs.declared.value.Object.{Object}
use Rattle.entity_form.specs.declared.value.Value.{Value}
use Rattle.entity_form.proofs.Forms.{holds_again}
use Rattle.refactor_table.specs.Pairs.{AreSound}
use Rattle.refactor_table.specs.declared.name.Pair.{Pair}
use Rattle.legacy_mapping.specs.Conversion as legacy
use Rattle.legacy_mapping.specs.Conversion.{IsConversion, Suits, converted}
use Rattle.legacy_mapping.specs.Sources.{IsSource, IsTarget}
use Rattle.session_model.specs.Types.{all_of_kinds, is_root_type, sources_of, target_name}
use Rattle.session_model.specs.Loading.{Converted, conversion, converted_from, values_in}
use Rattle.session_model.proofs.Declaring.{latest_recorded}
use Rattle.lazy_refs.specs.Tables.{IsByTable, IsNewest}
use Rattle.lazy_refs.proofs.Alike.{converted-same}
use Rattle.lazy_refs.proofs.Applying.{no_latest, latest_is}
use Rattle.lazy_refs.proofs.Naming.{is_target, target_once}
use Rattle.lazy_refs.proofs.Sourcing.{all_suit, are_sources, differ_somewhere, kinds_differ, source_once, suits_all}

-- ---- the latest type of a name is known

record IsThere (types : List TypeDesc) (id : ℕ) : Type 0 where
  pub desc : TypeDesc
  pub known : desc_of types id ≡ Some desc

latest_there : (types : List TypeDesc) (name : List ℕ) (id : ℕ) → latest_of types name ≡ Some id → IsThere types id
latest_there types name id latest = by (is_root_type name) refl
  where
    by : (b : Bool) → is_root_type name ≡ b → IsThere types id
    by true root =
        let first : Some 1 ≡ Some id = sym (ap (λ (b : Bool). cond b (Some 1) (latest_from 16 types name)) root) ∙ latest in
        let one : 1 ≡ id = cc in
        record { desc = root_desc; known = ap (desc_of types) (sym one) }
    by false other = let r = latest_recorded types name id other latest in record { desc = r.desc; known = r.known }

-- ---- what the model's conversion is

-- the object that the sources make
abbrev made_by : List Pair → TypeDesc → TypeDesc → ℕ → List Value → Object
made_by pairs old new id values = record { type_id = id; values = converted values (kinds_of new) (sources_of pairs old new new.members) }

of_entity : (types : List TypeDesc) (pairs : List Pair) (entity : Entity) (old : TypeDesc) → desc_of types entity.type_id ≡ Some old
    → conversion types pairs entity ≡ converted_from types pairs entity (Some old)
of_entity types pairs entity old known = ap (converted_from types pairs entity) known

to_newest : (types : List TypeDesc) (pairs : List Pair) (entity : Entity) (old new : TypeDesc) (id : ℕ) (values : List Value) → Holds (kinds_of old) entity.refs entity.plain values
    → latest_of types (target_name pairs old.name) ≡ Some id → desc_of types id ≡ Some new
    → converted_from types pairs entity (Some old) ≡ cond (all_of_kinds pairs old new new.members) (Converted.Loaded (made_by pairs old new id values)) Converted.WrongKind
to_newest types pairs entity old new id values holds latest known = latest_is types pairs old new id entity latest known
    ∙ ap (λ (r : Result (List Value) ℕ). cond (all_of_kinds pairs old new new.members) (Converted.Loaded (made_by pairs old new id (values_in r))) Converted.WrongKind)
    (holds_again (kinds_of old) 0 entity.refs entity.plain values holds)

-- ---- it is by the table

newest_by_name : (types : List TypeDesc) (pairs : List Pair) (old new : TypeDesc) (id : ℕ) → AreSound pairs → latest_of types (target_name pairs old.name) ≡ Some id → desc_of types id ≡ Some new → IsNewest types pairs old id new
newest_by_name types pairs old new id sound latest known = record { name = target_name pairs old.name; target = is_target pairs old.name sound; latest = latest; known = known }

conversion_is : (pairs : List Pair) (old new : TypeDesc) (values : List Value) → all_of_kinds pairs old new new.members ≡ true
    → IsConversion pairs old new values (converted values (kinds_of new) (sources_of pairs old new new.members))
conversion_is pairs old new values fits = record {
  sources = sources_of pairs old new new.members;
  are_sources = are_sources pairs old new;
  suits = suits_all pairs old new new.members fits;
  values_are = sym (converted-same values (kinds_of new) (sources_of pairs old new new.members));
}

abbrev IsTold : List TypeDesc → List Pair → Entity → TypeDesc → List Value → Type 0
IsTold types pairs entity old values = IsByTable types pairs old values (converted_from types pairs entity (Some old))

told : (types : List TypeDesc) (pairs : List Pair) (entity : Entity) (old : TypeDesc) (values : List Value) → AreSound pairs → Holds (kinds_of old) entity.refs entity.plain values → IsTold types pairs entity old values
told types pairs entity old values sound holds = by (latest_of types (target_name pairs old.name)) refl
  where
    fits : (id : ℕ) (new : TypeDesc) → IsNewest types pairs old id new → (b : Bool) → all_of_kinds pairs old new new.members ≡ b
        → IsByTable types pairs old values (cond b (Converted.Loaded (made_by pairs old new id values)) Converted.WrongKind)
    fits id new newest true all = (new, newest, conversion_is pairs old new values all)
    fits id new newest false all = let d = differ_somewhere pairs old new all in (id, new, newest, d.0, d.1)

    by : (o : Option ℕ) → latest_of types (target_name pairs old.name) ≡ o → IsTold types pairs entity old values
    by None latest = subst (IsByTable types pairs old values) (sym (no_latest types pairs old entity latest)) (target_name pairs old.name, is_target pairs old.name sound, latest)
    by (Some id) latest =
        let there = latest_there types (target_name pairs old.name) id latest in
        let new = there.desc in
        subst (IsByTable types pairs old values) (sym (to_newest types pairs entity old new id values holds latest there.known))
        (fits id new (newest_by_name types pairs old new id sound latest there.known) (all_of_kinds pairs old new new.members) refl)

-- ---- the table says one thing

sources_once : (pairs : List Pair) (old new : TypeDesc) (names : List (List ℕ)) (ss ts : List (Option ℕ)) → AreSound pairs → HaveOwnNames old.members
    → AllZip (IsSource pairs old new) names ss → AllZip (IsSource pairs old new) names ts → ss ≡ ts
sources_once pairs old new [] [] [] sound own a b = refl
sources_once pairs old new [] [] (t ∷ ts) sound own a b = absurd b
sources_once pairs old new [] (s ∷ ss) ts sound own a b = absurd a
sources_once pairs old new (n ∷ ns) [] ts sound own a b = absurd a
sources_once pairs old new (n ∷ ns) (s ∷ ss) [] sound own a b = absurd b
sources_once pairs old new (n ∷ ns) (s ∷ ss) (t ∷ ts) sound own a b =
    rw (source_once pairs old new n sound own s t a.0 b.0, sources_once pairs old new ns ss ts sound own a.1 b.1) refl

-- kinds that agree
one_for_all : (pairs : List Pair) (old new : TypeDesc) (values new_values : List Value) → AreSound pairs → HaveOwnNames old.members → IsConversion pairs old new values new_values
    → (all_of_kinds pairs old new new.members ≡ true) × (new_values ≡ converted values (kinds_of new) (sources_of pairs old new new.members))
one_for_all pairs old new values new_values sound own c =
    let same : c.sources ≡ sources_of pairs old new new.members = sources_once pairs old new (names_of new.members) c.sources (sources_of pairs old new new.members) sound own c.are_sources (are_sources pairs old new) in (
      all_suit pairs old new new.members (subst (Suits (kinds_of old) (kinds_of new)) same c.suits),
      c.values_are ∙ ap (legacy.converted values (kinds_of new)) same ∙ converted-same values (kinds_of new) (sources_of pairs old new new.members),
    )

latest_once : (types : List TypeDesc) (pairs : List Pair) (old : TypeDesc) (name : List ℕ) (o : Option ℕ) → AreSound pairs → IsTarget pairs old.name name → latest_of types name ≡ o → latest_of types (target_name pairs old.name) ≡ o
latest_once types pairs old name o sound target latest = ap (latest_of types) (sym (target_once pairs old.name name sound target)) ∙ latest

said : (types : List TypeDesc) (pairs : List Pair) (entity : Entity) (old : TypeDesc) (values : List Value) (c : Converted) → AreSound pairs → HaveOwnNames old.members
    → Holds (kinds_of old) entity.refs entity.plain values → IsByTable types pairs old values c → converted_from types pairs entity (Some old) ≡ c
said types pairs entity old values (Converted.Loaded made) sound own holds t =
    let new = t.0 in
    let latest = latest_once types pairs old t.1.name (Some made.type_id) sound t.1.target t.1.latest in
    let all = one_for_all pairs old new values made.values sound own t.2 in
    to_newest types pairs entity old new made.type_id values holds latest t.1.known
    ∙ ap (λ (b : Bool). cond b (Converted.Loaded (made_by pairs old new made.type_id values)) Converted.WrongKind) all.0
    ∙ ap (λ (vs : List Value). Converted.Loaded (record { type_id = made.type_id; values = vs })) (sym all.1)
said types pairs entity old values Converted.WrongKind sound own holds t =
    let latest = latest_once types pairs old t.2.name (Some t.0) sound t.2.target t.2.latest in
    to_newest types pairs entity old t.1 t.0 values holds latest t.2.known
    ∙ ap (λ (b : Bool). cond b (Converted.Loaded (made_by pairs old t.1 t.0 values)) Converted.WrongKind) (kinds_differ pairs old t.1 t.3 sound own t.4)
said types pairs entity old values Converted.NoType sound own holds t = no_latest types pairs old entity (latest_once types pairs old t.0 None sound t.1 t.2)

pub by_the_table : (types : List TypeDesc) (pairs : List Pair) (entity : Entity) (old : TypeDesc) (values : List Value) (c : Converted) → AreSound pairs → HaveOwnNames old.members
    → desc_of types entity.type_id ≡ Some old → Holds (kinds_of old) entity.refs entity.plain values → (conversion types pairs entity ≡ c) ↔ IsByTable types pairs old values c
by_the_table types pairs entity old values c sound own known holds = (
  λ is. subst (IsByTable types pairs old values) (sym (of_entity types pairs entity old known) ∙ is) (told types pairs entity old values sound holds),
  λ table. of_entity types pairs entity old known ∙ said types pairs entity old values c sound own holds table,
)
