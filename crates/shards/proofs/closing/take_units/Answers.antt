use Rattle.std.proofs.Common.{arith, ℕ, Bool, false, List, [], ◌∷◌, ◌++◌, map, get_or, set, sym, ap, ◌∙◌, Option, Some, get_or-set_other, add-one}
use Rattle.std.proofs.lemmas.List.{map-append}
use mathlib.Core.Logic.{dite}
use mathlib.Core.Option.{some}
use native.Mathlib.Decide.{ℕ_discrete}
use lib.ListN.{get_elem?}
use Rattle.std.specs.Mem.Slots.{slots_filled, slots_items}
use Rattle.shards.proofs.Slots.{emptied, full_at, take_next}
use Rattle.shards.proofs.closing.take_units.Goals as goal

pub unreachable-requires : goal.unreachable-requires
unreachable-requires g c = let C : Type 0 = g.row.C.Denot in let full = c.requires.full.1 in let i : ℕ = c.loop-place.place in
    let f = full_at full.0 i c.take.result (ap (λ (l : List (Option C)). get_elem? l i) (sym (c.loop-place.invariant.1 ∙ full.1)) ∙ c.take.ensures.value) in c.in_default.not-Some f.0 (c.into_unit.ensures ∙ f.1)

pub loop-place-preserved : goal.loop-place-preserved
loop-place-preserved g c = let C : Type 0 = g.row.C.Denot in let inv = c.loop-place.invariant in let i : ℕ = c.loop-place.place in let took = c.take.ensures.others in let fs : List Bool = slots_filled c.loop-place.closed.slots in
    let same = took.1 in let len = took.2 in let xs : List (Option C) = slots_items c.args.closed.slots in (
      took.2 ∙ inv.0,
      took.0 ∙ inv.1,
      λ k a b. ap (λ (l : List Bool). get_or l k false) same ∙ (get_or-set_other fs i k false false (λ e. omega arith) ∙ inv.2 k (omega arith) (omega arith)),
      λ k a. ap (λ (l : List Bool). get_or l k false) same ∙ dite (ℕ_discrete k i) (λ e. ap (λ (j : ℕ). get_or (set fs i false) j false) e ∙ emptied fs i)
          (λ n. get_or-set_other fs i k false false n ∙ inv.3 k (omega arith)),
      rw add-one (ap (λ (l : List C). map (λ (u : C). Some u) l) c.push_reserved.ensures.items ∙ (map-append (λ (u : C). Some u) c.loop-place.units.items (c.in-Some.unit ∷ [])
          ∙ (ap (λ (l : List (Option C)). l ++ Some c.in-Some.unit ∷ []) inv.4
          ∙ take_next xs i (Some c.in-Some.unit) (ap (λ (l : List (Option C)). get_elem? l i) (sym inv.1) ∙ (c.take.ensures.value ∙ ap (λ (x : Option C). some x) (sym c.into_unit.ensures ∙ c.in-Some.is)))))),
      c.push_reserved.ensures.capacity ∙ inv.5,
    )
