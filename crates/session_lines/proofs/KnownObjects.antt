-- The types of the objects in memory are known, and stay so.
use Rattle.std.proofs.Common.{◌≡◌, ◌<◌, ◌-◌, ℕ, Bool, true, false, cond, zero, suc, List, [], ◌∷◌, ◌++◌, length, map, Option, Some, None, Result, Ok, Err, refl, sym, ap, ◌∙◌, subst}
use Rattle.std.specs.Prelude.{IfSome, IsSome, IsSomeAnd, OnOk, nat_eq, nat_le, set, slice_get}
use Rattle.graph_model.specs.Ids.{has}
use Rattle.graph_model.specs.Served.{Storage}
use Rattle.type_desc.specs.declared.desc.Kind.{Kind}
use Rattle.type_desc.specs.declared.desc.TypeDesc.{TypeDesc}
use Rattle.type_desc.specs.Root.{root_desc}
use Rattle.type_dictionary.specs.Latest.{desc_of}
use Rattle.entity_form.specs.Values.{AreOf, default_of, kind_of, kinds_of}
use Rattle.entity_form.specs.declared.value.Object.{Object}
use Rattle.entity_form.specs.declared.value.Value.{Value}
use Rattle.entity_form.specs.declared.value.Value.TheVariants.{Int, Text, Bytes, Ref, Lazy, Refs}
use Rattle.entity_form.proofs.DefaultKinds.{kinds_of-defaults}
use Rattle.session_model.specs.Instances.{Instance, Instances, graph_of, instance_at, kept_instances, kept_refs, put_instance, reached}
use Rattle.session_model.specs.Answer.{State, refs_in}
use Rattle.session_model.specs.Sound.{IsSound}
use Rattle.session_model.proofs.Finding.{at_filter}
use Rattle.object_registry.specs.Registered.{Registered, unsaved, with_member}
use Rattle.storer.specs.Gathered.{AreKnown, IsKnown}
use Rattle.storer.proofs.KnownTypes.{known-put}
use Rattle.session_lines.specs.declared.changing.Change.{Change}
use Rattle.session_lines.specs.declared.changing.Edit.{Edit}
use Rattle.session_lines.specs.declared.changing.Edit.TheVariants.{Set, Push, Take}
use Rattle.session_lines.specs.declared.memory.Memory.{Memory}
use Rattle.session_lines.specs.Changes.{IsMade, MayChange, MayEdit, changed_value, edited}
use Rattle.session_lines.specs.Namings.{IsDefault, IsFreshObject}
use Rattle.session_lines.specs.Stands.{IsAtState}

sound_known : (state : State) → IsSound state → AreKnown state.types state.instances
sound_known state s id i here =
    let right = s.each id i here in
    subst (λ (o : Option TypeDesc). IsSomeAnd o (λ desc. AreOf (kinds_of desc) i.object.values)) (sym right.known) right.kinds

pub stands_known : (memory : Memory) (storage : Storage) (state : State) → IsAtState memory storage state → AreKnown memory.types memory.registry.instances
stands_known memory storage state at =
    subst (λ (types : List TypeDesc). AreKnown types memory.registry.instances) (sym at.stands.types)
    (subst (λ (instances : Instances). AreKnown state.types instances) (sym at.stands.instances) (sound_known state at.stands.sound))

-- what holds whatever the result is, holds where it is Ok
pub on_any : {T E : Type 0} {P : Type 0} (result : Result T E) → P → OnOk result P
on_any (Ok x) p = p
on_any (Err e) p = tt

-- the same instances
pub known_same : (types : List TypeDesc) (old new : Instances) → new ≡ old → AreKnown types old → AreKnown types new
known_same types old new same known = subst (λ (instances : Instances). AreKnown types instances) (sym same) known

-- ---- a member is changed

-- the member was there, and has the kind that it had
kind_kept : (edit : Edit) (o : Option Value) → MayEdit edit o → (old : Value) × (o ≡ Some old) × (kind_of (edited edit o) ≡ kind_of old)
kind_kept (Set v) None may = absurd may
kind_kept (Set v) (Some old) may = (old, refl, may)
kind_kept (Push target) None may = absurd cc
kind_kept (Push target) (Some (Refs ids)) may = (Refs ids, refl, refl)
kind_kept (Push target) (Some (Int n)) may = absurd cc
kind_kept (Push target) (Some (Text t)) may = absurd cc
kind_kept (Push target) (Some (Bytes b)) may = absurd cc
kind_kept (Push target) (Some (Ref id)) may = absurd cc
kind_kept (Push target) (Some (Lazy id)) may = absurd cc
kind_kept (Take at) None may = absurd may
kind_kept (Take at) (Some (Refs ids)) may = (Refs ids, refl, refl)
kind_kept (Take at) (Some (Int n)) may = absurd may
kind_kept (Take at) (Some (Text t)) may = absurd may
kind_kept (Take at) (Some (Bytes b)) may = absurd may
kind_kept (Take at) (Some (Ref id)) may = absurd may
kind_kept (Take at) (Some (Lazy id)) may = absurd may

same_kinds : (values : List Value) (at : ℕ) (old new : Value) → slice_get values at ≡ Some old → kind_of new ≡ kind_of old → map kind_of (set values at new) ≡ map kind_of values
same_kinds [] at old new is kind = absurd cc
same_kinds (v ∷ values) zero old new is kind = let same : old ≡ v = cc in ap (λ (k : Kind). k ∷ map kind_of values) (kind ∙ ap kind_of same)
same_kinds (v ∷ values) (suc at) old new is kind = ap (λ (ks : List Kind). kind_of v ∷ ks) (same_kinds values at old new is kind)

if_known : (o : Option TypeDesc) (before after : List Value) → map kind_of after ≡ map kind_of before → IsSomeAnd o (λ desc. AreOf (kinds_of desc) before) → IsSomeAnd o (λ desc. AreOf (kinds_of desc) after)
if_known None before after same known = known
if_known (Some desc) before after same known = same ∙ known

pub known_changed : (types : List TypeDesc) (registry : Registered) (change : Change) (new : Instances) → MayChange registry change → IsMade change registry.instances new
    → AreKnown types registry.instances → AreKnown types new
known_changed types registry change new may made known = by (instance_at registry.instances change.id) refl may made
  where
    by : (o : Option Instance) → instance_at registry.instances change.id ≡ o → IsSomeAnd o (λ i. MayEdit change.edit (slice_get i.object.values change.index))
        → IfSome o (λ i. new ≡ put_instance change.id (with_member i change.index (changed_value change i)) registry.instances) → AreKnown types new
    by None e may made = absurd may
    by (Some i) e may made =
        let kept = kind_kept change.edit (slice_get i.object.values change.index) may in
        known_same types (put_instance change.id (with_member i change.index (changed_value change i)) registry.instances) new made
        (known-put types registry.instances change.id (with_member i change.index (changed_value change i)) known
        (if_known (desc_of types i.object.type_id) i.object.values (set i.object.values change.index (changed_value change i))
        (same_kinds i.object.values change.index kept.0 (changed_value change i) kept.1 kept.2) (known change.id i e)))

-- ---- an object with the defaults of its type

pub fresh_known : (types : List TypeDesc) (type_id : ℕ) (object : Object) → IsDefault types type_id object → IsKnown types object
fresh_known types type_id object made =
    subst (λ (o : Option TypeDesc). IsSomeAnd o (λ desc. AreOf (kinds_of desc) object.values)) (sym (ap (desc_of types) made.type_is ∙ made.known))
    (ap (map kind_of) made.defaults ∙ kinds_of-defaults (kinds_of made.desc))

-- an object that was never stored
pub made_known : (types : List TypeDesc) (old new : Instances) (id : ℕ) (object : Object) → new ≡ put_instance id (unsaved object) old → IsKnown types object → AreKnown types old → AreKnown types new
made_known types old new id object made is known = known_same types (put_instance id (unsaved object) old) new made (known-put types old id (unsaved object) known is)

-- ---- one more type

got_more : (types more : List TypeDesc) (i : ℕ) (desc : TypeDesc) → slice_get types i ≡ Some desc → slice_get (types ++ more) i ≡ Some desc
got_more [] more i desc e = absurd cc
got_more (t ∷ types) more zero desc e = e
got_more (t ∷ types) more (suc i) desc e = got_more types more i desc e

desc_stays : (types more : List TypeDesc) (id : ℕ) (desc : TypeDesc) → desc_of types id ≡ Some desc → desc_of (types ++ more) id ≡ Some desc
desc_stays types more id desc = by (nat_eq id 1) (nat_le 16 id)
  where
    by : (s t : Bool) → cond s (Some root_desc) (cond t (slice_get types (id - 16)) None) ≡ Some desc
        → cond s (Some root_desc) (cond t (slice_get (types ++ more) (id - 16)) None) ≡ Some desc
    by true t e = e
    by false true e = got_more types more (id - 16) desc e
    by false false e = e

known_more : (types more : List TypeDesc) (instances : Instances) → AreKnown types instances → AreKnown (types ++ more) instances
known_more types more instances known id i here = by (desc_of types i.object.type_id) refl (known id i here)
  where
    by : (o : Option TypeDesc) → desc_of types i.object.type_id ≡ o → IsSomeAnd o (λ desc. AreOf (kinds_of desc) i.object.values) → IsKnown (types ++ more) i.object
    by None e is = absurd is
    by (Some desc) e is = subst (λ (o : Option TypeDesc). IsSomeAnd o (λ desc. AreOf (kinds_of desc) i.object.values)) (sym (desc_stays types more i.object.type_id desc e)) is

pub known_gained : (types new : List TypeDesc) (instances : Instances) (desc : TypeDesc) → new ≡ types ++ desc ∷ [] → AreKnown types instances → AreKnown new instances
known_gained types new instances desc gained known = subst (λ (ts : List TypeDesc). AreKnown ts instances) (sym gained) (known_more types (desc ∷ []) instances known)

-- ---- fewer instances

pub known_kept : (types : List TypeDesc) (instances : Instances) (bound : List ℕ) → AreKnown types instances → AreKnown types (kept_instances instances bound)
known_kept types instances bound known id i here = by (has id kept) (sym (at_filter (λ (x : ℕ). has x kept) instances id) ∙ here)
  where
    kept : List ℕ
    kept = reached (graph_of kept_refs instances) bound

    by : (b : Bool) → cond b (instance_at instances id) None ≡ Some i → IsKnown types i.object
    by true e = known id i e
    by false e = absurd cc
