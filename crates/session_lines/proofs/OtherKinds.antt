-- A member that the latest type of the new name lacks has no kind, so none differs.
use Rattle.std.proofs.Common.{◌≡◌, Bool, true, false, ◌&&◌, ◌||◌, List, [], ◌∷◌, ℕ, Option, Some, None, ap, ◌∙◌, refl}
use Rattle.std.specs.List.{list_any}
use Rattle.std.specs.Str.{bytes_eq}
use Rattle.type_desc.specs.declared.desc.Kind.{Kind}
use Rattle.type_desc.specs.declared.desc.TypeDesc.{TypeDesc}
use Rattle.refactor_table.specs.declared.name.RefName.TheVariants.{OfMember}
use Rattle.session_model.specs.Types.{kind_of_member, latest_desc}
use Rattle.session_model.specs.Answer.{State, differs, has_other_kind, kind_in}

none_other : (b : Bool) (kind : Option Kind) → (b && has_other_kind kind None) ≡ false
none_other false kind = refl
none_other true None = refl
none_other true (Some kind) = refl

none_differ : (types : List TypeDesc) (name member : List ℕ) → list_any (λ (desc : TypeDesc). bytes_eq desc.name name && has_other_kind (kind_of_member desc member) None) types ≡ false
none_differ [] name member = refl
none_differ (desc ∷ types) name member =
    ap (λ (b : Bool). b || list_any (λ (other : TypeDesc). bytes_eq other.name name && has_other_kind (kind_of_member other member) None) types) (none_other (bytes_eq desc.name name) (kind_of_member desc member))
    ∙ none_differ types name member

pub kindless : (state : State) (types : List TypeDesc) (old_type old_member new_type new_member : List ℕ) → state.types ≡ types → kind_in (latest_desc types new_type) new_member ≡ None
    → differs state (OfMember old_type old_member) (OfMember new_type new_member) ≡ false
kindless state types old_type old_member new_type new_member same none =
    ap (λ (kind : Option Kind). list_any (λ (desc : TypeDesc). bytes_eq desc.name old_type && has_other_kind (kind_of_member desc old_member) kind) state.types)
    (ap (λ (ts : List TypeDesc). kind_in (latest_desc ts new_type) new_member) same ∙ none)
    ∙ none_differ state.types old_type old_member
