-- A member that is given another value, and what the rest of a `set` line is for it.
use Rattle.std.specs.Prelude.{◌≡◌, ◌<◌, List, [], ◌∷◌, ◌++◌, length, slice_get, Option, Some, unwrap_or, Result, Ok, Err, IfSome, IsSome, IsSomeAnd}
use Rattle.entity_form.specs.Values.{kind_of}
use Rattle.entity_form.specs.declared.value.Value.{Value}
use Rattle.entity_form.specs.declared.value.Value.TheVariants.{Refs}
use Rattle.session_model.specs.Instances.{Instance, Instances, instance_at, put_instance}
use Rattle.session_model.specs.Answer.{State, Turn, Given, Fits, Misfits, OutOfRange, Unbound, nothing, ok, refs_in, value_in, with_value, without_at}
use Rattle.object_registry.specs.Registered.{Registered, with_member}
use Rattle.session_lines.specs.declared.changing.Change.{Change}
use Rattle.session_lines.specs.declared.changing.Edit.{Edit}
use Rattle.session_lines.specs.declared.changing.Edit.TheVariants.{Set, Push, Take}
use Rattle.session_lines.specs.declared.refusal.Stop.{Stop}
use Rattle.session_lines.specs.declared.refusal.Stop.TheVariants.{Refused, NoMemory}
use Rattle.session_lines.specs.declared.refusal.Refusal.TheVariants.{NoName, WrongKind, Range}
use Rattle.session_lines.specs.Refusals.{IsRefusal}

-- a member that has this value takes the edit, and keeps its kind
abbrev pub MayEdit : Edit → Option Value → Type 0
MayEdit (Set value) old = IsSomeAnd old (λ v. kind_of value ≡ kind_of v)
MayEdit (Push target) old = IsSome (refs_in old)
MayEdit (Take at) old = IsSomeAnd (refs_in old) (λ ids. at < length ids)

-- the object is there, and its member with this index takes the edit
abbrev pub MayChange : Registered → Change → Type 0
MayChange registry change = IsSomeAnd (instance_at registry.instances change.id) (λ i. MayEdit change.edit (slice_get i.object.values change.index))

-- the value behind the edit
abbrev pub edited : Edit → Option Value → Value
edited (Set value) old = value
edited (Push target) old = Refs (unwrap_or (refs_in old) [] ++ target ∷ [])
edited (Take at) old = Refs (without_at (unwrap_or (refs_in old) []) at)

-- the value of the member behind the change
abbrev pub changed_value : Change → Instance → Value
changed_value change i = edited change.edit (slice_get i.object.values change.index)

-- the instances behind the change
abbrev pub IsMade : Change → (old new : Instances) → Type 0
IsMade change old new = IfSome (instance_at old change.id) (λ i. new ≡ put_instance change.id (with_member i change.index (changed_value change i)) old)

-- the turn gives the member its value and is answered `ok`
pub record SetsMember (change : Change) (state : State) (turn : Turn) : Type 0 where
  pub instance : Instance
  pub here : instance_at state.instances change.id ≡ Some instance
  pub turn_is : turn ≡ ok (with_value state change.id instance change.index (changed_value change instance))

-- the change is what the turn does, or the turn is the refusal
abbrev pub IsChange : Result Change Stop → State → Turn → Type 0
IsChange (Ok change) state turn = SetsMember change state turn
IsChange (Err stop) state turn = IsRefusal state turn stop

-- the value is the one that is given, or the reason is why there is none
abbrev pub IsValueGiven : {A : Type 0} → (A → Value) → Result A Stop → Given → Type 0
IsValueGiven make (Ok value) given = given ≡ Fits (make value)
IsValueGiven make (Err (Refused WrongKind)) given = given ≡ Misfits
IsValueGiven make (Err (Refused Range)) given = given ≡ OutOfRange
IsValueGiven make (Err (Refused NoName)) given = given ≡ Unbound
IsValueGiven make (Err NoMemory) given = Unit {0}
IsValueGiven make _ given = ⊥

-- the value of the root's one member
abbrev pub root_value : Registered → Option Value
root_value registry = value_in (unwrap_or (instance_at registry.instances 1) nothing) (Some 0)
