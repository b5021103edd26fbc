-- The objects that are loaded are known, and so is a root without a target.
use Rattle.std.proofs.Common.{◌≡◌, ℕ, suc, length, List, [], ◌∷◌, Option, Some, refl, sym, ap, ◌∙◌, subst, arith}
use Rattle.std.specs.Prelude.{IsSomeAnd}
use Rattle.std.proofs.lemmas.List.{length-map}
use Rattle.graph_model.specs.declared.entity.Entity.{Entity}
use Rattle.type_desc.specs.declared.desc.Kind.{Kind}
use Rattle.type_desc.specs.declared.desc.TypeDesc.{TypeDesc}
use Rattle.type_dictionary.specs.Latest.{desc_of}
use Rattle.entity_form.specs.Values.{AreOf, kind_of, kinds_of}
use Rattle.entity_form.specs.declared.value.Object.{Object}
use Rattle.session_model.specs.Instances.{Instances}
use Rattle.object_registry.specs.Registered.{loaded, put_loaded}
use Rattle.storer.specs.Gathered.{AreKnown, IsKnown}
use Rattle.storer.proofs.KnownTypes.{known-put}
use Rattle.lazy_refs.specs.Forms.{IsObjectOf}
use Rattle.lazy_refs.specs.Mappings.{AreTypedIn}

pub known_loaded : (types : List TypeDesc) (all : List (ℕ × Object)) (hs : Instances) → AreTypedIn types all → AreKnown types hs → AreKnown types (put_loaded all hs)
known_loaded types [] hs typed known = known
known_loaded types (p ∷ ps) hs typed known =
    known-put types (put_loaded ps hs) p.0 (loaded p.1) (known_loaded types ps hs (λ k d below. typed (suc k) d (omega arith)) known) (typed 0 p (omega arith))

-- the object of an entity is of a known type, and has values of its kinds
pub object_known : (types : List TypeDesc) (entity : Entity) (object : Object) → IsObjectOf types entity object → IsKnown types object
object_known types entity object is =
    subst (λ (o : Option TypeDesc). IsSomeAnd o (λ desc. AreOf (kinds_of desc) object.values)) (sym (ap (desc_of types) is.of_type ∙ is.known)) is.holds.of_kinds

-- it has a value for each member
pub as_many : (types : List TypeDesc) (object : Object) (desc : TypeDesc) → Some desc ≡ desc_of types object.type_id → IsKnown types object → length desc.members ≡ length object.values
as_many types object desc is known =
    let of : AreOf (kinds_of desc) object.values = subst (λ (o : Option TypeDesc). IsSomeAnd o (λ d. AreOf (kinds_of d) object.values)) (sym is) known in
    sym (length-map desc.members _) ∙ (sym (ap (λ (ks : List Kind). length ks) of) ∙ length-map object.values kind_of)
