-- When an object is not encoded, and an entity has not the form.
use Rattle.std.specs.Prelude.{◌≡◌, ℕ, ◌-◌, ◌<◌, ◌≤◌, ◌^◌, min, List}
use Rattle.graph_model.specs.Limits.{entity_limit}
use Rattle.type_desc.specs.declared.desc.Kind.{Kind}
use Rattle.entity_form.specs.declared.fault.DecodeFault.{DecodeFault}
use Rattle.entity_form.specs.declared.fault.DecodeFault.TheVariants as decode_faults
use Rattle.entity_form.specs.Form.{IsBadAt}
use Rattle.entity_form.specs.declared.fault.EncodeFault.{EncodeFault}
use Rattle.entity_form.specs.declared.fault.EncodeFault.TheVariants.{TooBig, NoMemory}

-- why an object is not encoded whose entity would have so many bytes, which a fault says as far as a `u64` can
abbrev pub IsEncodeFault : ℕ → EncodeFault → Type 0
IsEncodeFault size NoMemory = size ≤ entity_limit
IsEncodeFault size (TooBig length) = (entity_limit < size) × (length ≡ min size (2 ^ 64 - 1))

-- where an entity has not the form
abbrev pub IsBadForm : List Kind → List ℕ → List ℕ → DecodeFault → Type 0
IsBadForm kinds refs plain decode_faults.NoMemory = Unit {0}
IsBadForm kinds refs plain (decode_faults.BadForm at) = IsBadAt kinds refs plain at
