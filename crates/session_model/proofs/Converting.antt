-- What a stored entity becomes in memory: an object of the latest type that names no more than the entity.
use Rattle.std.proofs.Common.{◌≡◌, ℕ, ◌-◌, Bool, true, false, cond, not, ◌||◌, List, [], ◌∷◌, map, slice_get, Option, Some, None, option_map, unwrap_or, ◌⊎◌, inl, inr, refl, sym, ap, ◌∙◌, subst, arith, zero, suc}
use Rattle.std.specs.Prelude.{nat_eq, nat_le}
use Rattle.std.specs.List.{AllByRecursion, flat_map, list_all}
use Rattle.std.proofs.lemmas.Bool.{and_parts, cases_eq, ne_eqb, not_from_false, not-true, or_cases, or_parts}
use Rattle.std.proofs.lemmas.Option.{slice_get-map}
use Rattle.std.proofs.lemmas.Slice.Eq.{bytes_eq-Decides}
use Rattle.graph_model.specs.Ids.{has}
use Rattle.graph_model.specs.Graph.{edges}
use Rattle.graph_model.specs.declared.entity.Entity.{Entity}
use Rattle.graph_model.proofs.IdSets.{has_append}
use Rattle.type_desc.specs.declared.desc.Kind.{Kind}
use Rattle.type_desc.specs.declared.desc.Kind.TheVariants as kinds
use Rattle.type_desc.specs.declared.desc.Member.{Member}
use Rattle.type_desc.specs.declared.desc.TypeDesc.{TypeDesc}
use Rattle.type_desc.specs.Root.{root_desc}
use Rattle.type_dictionary.specs.Latest.{desc_of, latest_from, latest_of}
use Rattle.entity_form.specs.Reading.{values_at}
use Rattle.entity_form.specs.Values.{AreOf, IsHeld, default_of, kind_of, kinds_of, refs_of}
use Rattle.entity_form.proofs.DefaultKinds.{kinds_of-defaults}
use Rattle.entity_form.proofs.Forms.{holds_again}
use Rattle.entity_form.specs.declared.value.Object.{Object}
use Rattle.entity_form.specs.declared.value.Value.{Value}
use Rattle.entity_form.specs.declared.value.Value.TheVariants.{Int, Text, Bytes, Ref, Lazy, Refs}
use Rattle.refactor_table.specs.declared.name.Pair.{Pair}
use Rattle.refactor_table.specs.declared.name.RefName.{RefName}
use Rattle.refactor_table.specs.declared.name.RefName.TheVariants.{OfType, OfMember}
use Rattle.refactor_table.specs.Names.{same_name}
use Rattle.legacy_mapping.specs.Conversion.{converted, value_from}
use Rattle.session_model.specs.Types.{all_of_kinds, desc_at, is_kind, is_of_kind, is_root_type, is_same_kind, source_of, sources_of, target_name, type_in}
use Rattle.session_model.specs.Loading.{Loaded, WrongKind, conversion, converted_from, converted_if, converted_to, values_in}
use Rattle.session_model.specs.WellFormed.{IsWellFormed}
use Rattle.session_model.specs.Sound.{AreTypes, IsProper, spares_root}
use Rattle.session_model.proofs.Declaring.{latest_recorded}
use Rattle.session_model.proofs.IdLists.{sifts}
use Rattle.session_model.proofs.Naming.{default_names, default_proper}
use Rattle.session_model.proofs.Setting.{named_by_value}

-- ---- the values

same_kind : (a b : Kind) → is_same_kind a b ≡ true → b ≡ a
same_kind kinds.Int kinds.Int e = refl
same_kind kinds.Text kinds.Text e = refl
same_kind kinds.Bytes kinds.Bytes e = refl
same_kind kinds.Ref kinds.Ref e = refl
same_kind kinds.Lazy kinds.Lazy e = refl
same_kind kinds.Refs kinds.Refs e = refl
same_kind _ _ e = absurd cc

default_kind : (kind : Kind) → kind_of (default_of kind) ≡ kind
default_kind kind = let e : kind_of (default_of kind) ∷ [] ≡ kind ∷ [] = kinds_of-defaults (kind ∷ []) in cc

-- a value from a source of the member's kind has this kind
value_kind : (old : TypeDesc) (vs : List Value) (kind : Kind) (source : Option ℕ) → map kind_of vs ≡ kinds_of old → is_of_kind old kind source ≡ true → kind_of (value_from vs kind source) ≡ kind
value_kind old vs kind None are fits = default_kind kind
value_kind old vs kind (Some i) are fits = by (slice_get vs i) refl
  where
    at_place : slice_get (map kind_of vs) i ≡ option_map (λ (m : Member). m.kind) (slice_get old.members i)
    at_place = ap (λ (ks : List Kind). slice_get ks i) are ∙ slice_get-map (λ (m : Member). m.kind) old.members i

    by : (o : Option Value) → slice_get vs i ≡ o → kind_of (unwrap_or o (default_of kind)) ≡ kind
    by None e = default_kind kind
    by (Some v) e =
        let is : option_map (λ (m : Member). m.kind) (slice_get old.members i) ≡ Some (kind_of v) = sym at_place ∙ (slice_get-map kind_of vs i ∙ ap (option_map kind_of) e) in
        same_kind kind (kind_of v) (sym (ap (is_kind kind) is) ∙ fits)

abbrev kinds_in : List Member → List Kind
kinds_in ms = map (λ (m : Member). m.kind) ms

converted_kinds : (pairs : List Pair) (old new : TypeDesc) (vs : List Value) (ms : List Member) → map kind_of vs ≡ kinds_of old → all_of_kinds pairs old new ms ≡ true
    → map kind_of (converted vs (kinds_in ms) (sources_of pairs old new ms)) ≡ kinds_in ms
converted_kinds pairs old new vs [] are fits = refl
converted_kinds pairs old new vs (m ∷ ms) are fits =
    let t = and_parts (is_of_kind old m.kind (source_of pairs old new m.name)) (all_of_kinds pairs old new ms) fits in
    rw (value_kind old vs m.kind (source_of pairs old new m.name) are t.0, converted_kinds pairs old new vs ms are t.1) refl

-- what holds of defaults and of the old values holds of the new ones
each_converted : (P : Value → Type 0) (vs : List Value) (ks : List Kind) (sources : List (Option ℕ)) → ((kind : Kind) → P (default_of kind)) → ((i : ℕ) (v : Value) → slice_get vs i ≡ Some v → P v)
    → (at : ℕ) (v : Value) → slice_get (converted vs ks sources) at ≡ Some v → P v
each_converted P vs [] sources defaults olds at v is = absurd cc
each_converted P vs (k ∷ ks) [] defaults olds at v is = absurd cc
each_converted P vs (k ∷ ks) (source ∷ sources) defaults olds (suc at) v is = each_converted P vs ks sources defaults olds at v is
each_converted P vs (k ∷ ks) (source ∷ sources) defaults olds zero v is = let same : value_from vs k source ≡ v = cc in subst P same (one source)
  where
    of_old : (i : ℕ) (o : Option Value) → slice_get vs i ≡ o → P (unwrap_or o (default_of k))
    of_old i None e = defaults k
    of_old i (Some w) e = olds i w e

    one : (source : Option ℕ) → P (value_from vs k source)
    one None = defaults k
    one (Some i) = of_old i (slice_get vs i) refl

-- what is named, some value names
by_some_value : (f : Value → List ℕ) (vs : List Value) (y : ℕ) (Q : Type 0) → ((at : ℕ) (v : Value) → slice_get vs at ≡ Some v → has y (f v) ≡ true → Q) → has y (flat_map f vs) ≡ true → Q
by_some_value f [] y Q from h = absurd cc
by_some_value f (v ∷ vs) y Q from h = elim (or_cases (has y (f v)) (has y (flat_map f vs)) (sym (has_append y (f v) (flat_map f vs)) ∙ h)) [
  | inl first ↦ from 0 v refl first
  | inr later ↦ by_some_value f vs y Q (λ at w is named. from (suc at) w is named) later
]

held_proper : (v : Value) → IsHeld v → IsProper v
held_proper (Int n) h = h
held_proper (Text t) h = h.0
held_proper (Bytes b) h = tt
held_proper (Ref id) h = tt
held_proper (Lazy id) h = tt
held_proper (Refs ids) h = tt

held_are_proper : (vs : List Value) → AllByRecursion IsHeld vs → (at : ℕ) (v : Value) → slice_get vs at ≡ Some v → IsProper v
held_are_proper [] held at v is = absurd cc
held_are_proper (w ∷ vs) held zero v is = let same : w ≡ v = cc in subst IsProper same (held_proper w held.0)
held_are_proper (w ∷ vs) held (suc at) v is = held_are_proper vs held.1 at v is

-- ---- the type

spared : (p : Pair) (pairs : List Pair) → list_all spares_root (p ∷ pairs) ≡ true → (is_root_type (type_in p.old) ≡ false) × (is_root_type (type_in p.new) ≡ false) × (list_all spares_root pairs ≡ true)
spared p pairs all =
    let t = and_parts (spares_root p) (list_all spares_root pairs) all in
    let u = or_parts (is_root_type (type_in p.old)) (is_root_type (type_in p.new)) (not-true (is_root_type (type_in p.old) || is_root_type (type_in p.new)) t.0) in
    (u.0, u.1, t.1)

type_named : (ref : RefName) (name : List ℕ) → same_name ref (OfType name) ≡ true → type_in ref ≡ name
type_named (OfType t) name e = (bytes_eq-Decides t name).0 e
type_named (OfMember t m) name e = absurd cc

-- no pair leads from the root's type
root_target_name : (pairs : List Pair) (name : List ℕ) → list_all spares_root pairs ≡ true → is_root_type name ≡ true → target_name pairs name ≡ name
root_target_name [] name all root = refl
root_target_name (p ∷ pairs) name all root = by (same_name p.old (OfType name)) refl (root_target_name pairs name t.2 root)
  where
    t : (is_root_type (type_in p.old) ≡ false) × (is_root_type (type_in p.new) ≡ false) × (list_all spares_root pairs ≡ true)
    t = spared p pairs all

    by : (b : Bool) → same_name p.old (OfType name) ≡ b → target_name pairs name ≡ name → cond b (type_in p.new) (target_name pairs name) ≡ name
    by true e later = let same : is_root_type (type_in p.old) ≡ true = ap is_root_type (type_named p.old name e) ∙ root in let no = t.0 in absurd cc
    by false e later = later

-- and none to it
other_target_name : (pairs : List Pair) (name : List ℕ) → list_all spares_root pairs ≡ true → is_root_type name ≡ false → is_root_type (target_name pairs name) ≡ false
other_target_name [] name all other = other
other_target_name (p ∷ pairs) name all other = by (same_name p.old (OfType name)) (other_target_name pairs name t.2 other)
  where
    t : (is_root_type (type_in p.old) ≡ false) × (is_root_type (type_in p.new) ≡ false) × (list_all spares_root pairs ≡ true)
    t = spared p pairs all

    by : (b : Bool) → is_root_type (target_name pairs name) ≡ false → is_root_type (cond b (type_in p.new) (target_name pairs name)) ≡ false
    by true later = t.1
    by false later = later

-- a recorded type has another name than the root's
recorded_is_other : (types : List TypeDesc) (id : ℕ) (desc : TypeDesc) → AreTypes types → nat_eq id 1 ≡ false → desc_of types id ≡ Some desc → is_root_type desc.name ≡ false
recorded_is_other types id desc are other known = by (nat_le 16 id) (sym (ap (λ (b : Bool). cond b (Some root_desc) (cond (nat_le 16 id) (slice_get types (id - 16)) None)) other) ∙ known)
  where
    by : (b : Bool) → cond b (slice_get types (id - 16)) None ≡ Some desc → is_root_type desc.name ≡ false
    by true e = (are.each (id - 16) desc e).not_root
    by false e = absurd cc

-- the root's objects stay of the root's type, and no other becomes one
target_type : (types : List TypeDesc) (pairs : List Pair) (old_id : ℕ) (old : TypeDesc) (id : ℕ) → AreTypes types → list_all spares_root pairs ≡ true
    → desc_of types old_id ≡ Some old → latest_of types (target_name pairs old.name) ≡ Some id → nat_eq id 1 ≡ nat_eq old_id 1
target_type types pairs old_id old id are spares known latest = by (nat_eq old_id 1) refl
  where
    by : (b : Bool) → nat_eq old_id 1 ≡ b → nat_eq id 1 ≡ b
    by true e =
        let is : desc_of types old_id ≡ Some root_desc = ap (λ (b : Bool). cond b (Some root_desc) (cond (nat_le 16 old_id) (slice_get types (old_id - 16)) None)) e in
        let same : old ≡ root_desc = cc in
        let root : is_root_type old.name ≡ true = ap (λ (d : TypeDesc). is_root_type d.name) same in
        let kept : target_name pairs old.name ≡ old.name = root_target_name pairs old.name spares root in
        let first : latest_of types old.name ≡ Some 1 = ap (λ (b : Bool). cond b (Some 1) (latest_from 16 types old.name)) root in
        let at : latest_of types old.name ≡ Some id = sym (ap (latest_of types) kept) ∙ latest in
        let one : id ≡ 1 = cc in ap (λ (n : ℕ). nat_eq n 1) one
    by false e =
        let other = other_target_name pairs old.name spares (recorded_is_other types old_id old are e known) in
        let low = (latest_recorded types (target_name pairs old.name) id other latest).low in
        ne_eqb id 1 (λ one. absurd (omega arith))

-- ---- the object

pub record IsConverted (types : List TypeDesc) (x : ℕ) (entity : Entity) (object : Object) : Type 0 where
  pub desc : TypeDesc
  pub known : desc_of types object.type_id ≡ Some desc
  pub kinds : AreOf (kinds_of desc) object.values
  pub root : nat_eq object.type_id 1 ≡ nat_eq x 1
  pub proper : (at : ℕ) (v : Value) → slice_get object.values at ≡ Some v → IsProper v
  pub names : (y : ℕ) → has y (flat_map refs_of object.values) ≡ true → (y ≡ 0) ⊎ (has y (edges entity) ≡ true)

same_object : (a b : Object) → Loaded a ≡ Loaded b → a ≡ b
same_object a b e = cc

entity_converted : (types : List TypeDesc) (pairs : List Pair) (x : ℕ) (entity : Entity) (object : Object) → AreTypes types → list_all spares_root pairs ≡ true → (form : IsWellFormed types x entity)
    → (id : ℕ) (new : TypeDesc) → latest_of types (target_name pairs form.desc.name) ≡ Some id → desc_of types id ≡ Some new
    → converted_to pairs entity form.desc id new ≡ Loaded object → IsConverted types x entity object
entity_converted types pairs x entity object are spares form id new latest known is = by (all_of_kinds pairs old new new.members) refl is
  where
    old : TypeDesc
    old = form.desc

    vs : List Value
    vs = form.values

    read : values_in (values_at (kinds_of old) 0 entity.refs entity.plain) ≡ vs
    read = ap values_in (holds_again (kinds_of old) 0 entity.refs entity.plain vs form.holds)

    made : List Value → Object
    made values = record { type_id = id; values = converted values (kinds_of new) (sources_of pairs old new new.members) }

    old_names : (i : ℕ) (v : Value) → slice_get vs i ≡ Some v → (y : ℕ) → has y (refs_of v) ≡ true → (y ≡ 0) ⊎ (has y (edges entity) ≡ true)
    old_names i v at y h = elim (cases_eq y 0) [
      | inl nothing ↦ inl nothing
      | inr other ↦ inr (sifts (λ (z : ℕ). not (nat_eq z 0)) entity.refs y (not_from_false (nat_eq y 0) (ne_eqb y 0 other))
          (ap (has y) form.holds.refs_are ∙ named_by_value refs_of vs i v y at h))
    ]

    is_made : all_of_kinds pairs old new new.members ≡ true → IsConverted types x entity (made vs)
    is_made fits = record {
      desc = new;
      known = known;
      kinds = converted_kinds pairs old new vs new.members form.holds.of_kinds fits;
      root = target_type types pairs entity.type_id old id are spares form.known latest ∙ form.root;
      proper = each_converted IsProper vs (kinds_of new) (sources_of pairs old new new.members) default_proper (held_are_proper vs form.holds.held);
      names = λ y h. by_some_value refs_of (made vs).values y ((y ≡ 0) ⊎ (has y (edges entity) ≡ true))
          (λ at v stands named. each_converted (λ (w : Value). (z : ℕ) → has z (refs_of w) ≡ true → (z ≡ 0) ⊎ (has z (edges entity) ≡ true)) vs (kinds_of new) (sources_of pairs old new new.members)
          (λ kind z zero_only. inl (default_names kind z zero_only)) old_names at v stands y named) h;
    }

    by : (b : Bool) → all_of_kinds pairs old new new.members ≡ b → cond b (Loaded (made (values_in (values_at (kinds_of old) 0 entity.refs entity.plain)))) WrongKind ≡ Loaded object → IsConverted types x entity object
    by true fits e = subst (IsConverted types x entity) (ap made (sym read) ∙ same_object (made (values_in (values_at (kinds_of old) 0 entity.refs entity.plain))) object e) (is_made fits)
    by false fits e = absurd cc

pub conversion_right : (types : List TypeDesc) (pairs : List Pair) (x : ℕ) (entity : Entity) (object : Object) → AreTypes types → list_all spares_root pairs ≡ true → IsWellFormed types x entity
    → conversion types pairs entity ≡ Loaded object → IsConverted types x entity object
conversion_right types pairs x entity object are spares form is =
    by (latest_of types (target_name pairs form.desc.name)) refl (sym (ap (converted_from types pairs entity) form.known) ∙ is)
  where
    of_desc : (id : ℕ) (o : Option TypeDesc) → latest_of types (target_name pairs form.desc.name) ≡ Some id → desc_of types id ≡ o → converted_if pairs entity form.desc (Some id) o ≡ Loaded object → IsConverted types x entity object
    of_desc id None latest known e = absurd cc
    of_desc id (Some new) latest known e = entity_converted types pairs x entity object are spares form id new latest known e

    by : (o : Option ℕ) → latest_of types (target_name pairs form.desc.name) ≡ o
        → converted_if pairs entity form.desc (latest_of types (target_name pairs form.desc.name)) (desc_at types (latest_of types (target_name pairs form.desc.name))) ≡ Loaded object → IsConverted types x entity object
    by None latest e = let none : converted_if pairs entity form.desc None None ≡ Loaded object = sym (ap (λ (o : Option ℕ). converted_if pairs entity form.desc o (desc_at types o)) latest) ∙ e in absurd cc
    by (Some id) latest e = of_desc id (desc_of types id) latest refl (sym (ap (λ (o : Option ℕ). converted_if pairs entity form.desc o (desc_at types o)) latest) ∙ e)
