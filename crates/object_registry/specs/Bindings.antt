-- Names that are bound to ids.
use Rattle.std.specs.Prelude.{◌≡◌, ℕ, not, Some, None, List}
use Rattle.std.specs.List.{filter}
use Rattle.std.specs.Str.{bytes_eq}
use Rattle.session_model.specs.Answer.{Binding, id_in}
use Rattle.object_registry.specs.declared.fault.BindFault.{BindFault}
use Rattle.object_registry.specs.declared.fault.BindFault.TheVariants.{Taken, NoMemory}

-- both lists bind each name to the same id, or both leave it unbound
abbrev pub SameNames : List Binding → List Binding → Type 0
SameNames xs ys = (name : List ℕ) → id_in xs name ≡ id_in ys name

abbrev pub binding : List ℕ → ℕ → Binding
binding name id = record { name = name; id = id }

-- without the name
abbrev pub unbound : List ℕ → List Binding → List Binding
unbound name names = filter (λ (b : Binding). not (bytes_eq b.name name)) names

-- the name is taken by exactly this id, or it is free and memory ran out
abbrev pub IsRefused : List Binding → List ℕ → BindFault → Type 0
IsRefused names name (Taken id) = id_in names name ≡ Some id
IsRefused names name NoMemory = id_in names name ≡ None
