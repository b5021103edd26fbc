-- One type more beside a sound graph.
use Rattle.std.proofs.Common.{◌≡◌, ◌-◌, ◌++◌, ℕ, Bool, true, false, cond, nat_eq, nat_le, Some, None, List, ap, ◌∙◌, arith, length-append}
use Rattle.std.specs.Prelude.{slice_get}
use Rattle.std.proofs.lemmas.List.{get_or_append_left}
use Rattle.std.proofs.lemmas.Option.{get_or_from_slice_get, slice_get-get_or, slice_get_within}
use Rattle.graph_model.specs.Graph.{Graph}
use Rattle.type_desc.specs.Root.{root_desc}
use Rattle.type_desc.specs.declared.desc.TypeDesc.{TypeDesc}
use Rattle.type_dictionary.specs.Latest.{desc_of}
use Rattle.plain_storage.specs.Held.{IsSoundGraph}

slice_get-append : (xs ys : List TypeDesc) (i : ℕ) (x : TypeDesc) → slice_get xs i ≡ Some x → slice_get (xs ++ ys) i ≡ Some x
slice_get-append xs ys i x at =
    let within = slice_get_within xs i x at in
    slice_get-get_or (xs ++ ys) i x (omega (arith, within, length-append xs ys))
    ∙ ap (λ (y : TypeDesc). Some y) (get_or_append_left xs ys x i within ∙ get_or_from_slice_get xs i x x at)

-- a known type stays known
desc_of-append : (types more : List TypeDesc) (id : ℕ) (desc : TypeDesc) → desc_of types id ≡ Some desc → desc_of (types ++ more) id ≡ Some desc
desc_of-append types more id desc = by (nat_eq id 1) (nat_le 16 id)
  where
    by : (one high : Bool) → cond one (Some root_desc) (cond high (slice_get types (id - 16)) None) ≡ Some desc → cond one (Some root_desc) (cond high (slice_get (types ++ more) (id - 16)) None) ≡ Some desc
    by true high known = known
    by false true known = slice_get-append types more (id - 16) desc known
    by false false known = known

-- a sound graph stays sound with one type more
pub sound_with_type : (types more : List TypeDesc) (graph : Graph) → IsSoundGraph types graph → IsSoundGraph (types ++ more) graph
sound_with_type types more graph sound = record {
  forms = λ x entity at.
      let form = sound.forms x entity at in
      record { desc = form.desc; known = desc_of-append types more entity.type_id form.desc form.known; values = form.values; holds = form.holds; root = form.root };
  whole = sound.whole;
}
