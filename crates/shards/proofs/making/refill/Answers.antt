use Rattle.std.proofs.Common.{arith, ◌≡◌, List, [], ◌∷◌, ◌++◌, map, length, sym, ap, ◌∙◌, Some, Option, reverse, length-append}
use Rattle.std.proofs.lemmas.List.{append_assoc, reverse-append}
use Rattle.shards.proofs.Slots.{full_last}
use Rattle.shards.proofs.making.refill.Goals as goal

pub unreachable-requires : goal.unreachable-requires
unreachable-requires g c = let inv = c.loop-slot.invariant in let items = c.in-Some.ensures.items in let f = full_last c.pop.new.self.items c.in-Some.slot (inv.3.0, sym items ∙ inv.3.1) in c.in_default-into_unit.not-Some f.0.0 (c.into_unit.ensures ∙ f.0.1)

pub loop-slot-preserved : goal.loop-slot-preserved
loop-slot-preserved g c = let C : Type 0 = g.row.C.Denot in let inv = c.loop-slot.invariant in let items = c.in-Some.ensures.items in let unit : C = c.in-Some-into_unit.unit in let more = c.push_reserved.ensures.items in
    let rest : List (Option C) = map (λ (u : C). Some u) (reverse c.loop-slot.units.items) in let new : List (Option C) = c.pop.new.self.items in
    let turned : reverse c.push_reserved.new.self.items ≡ unit ∷ reverse c.loop-slot.units.items = ap (λ (l : List C). reverse l) more ∙ reverse-append c.loop-slot.units.items (unit ∷ []) in
    let one = ap (λ (l : List (Option C)). length l) items ∙ length-append new (c.in-Some.slot ∷ []) in let two = ap (λ (l : List C). length l) more ∙ length-append c.loop-slot.units.items (unit ∷ []) in let count = inv.2 in (
      inv.0 ∙ (ap (λ (l : List (Option C)). l ++ rest) items ∙ (ap (λ (x : Option C). (new ++ x ∷ []) ++ rest) (sym c.into_unit.ensures ∙ c.in-Some-into_unit.is)
          ∙ (append_assoc new (Some unit ∷ []) rest ∙ ap (λ (l : List C). new ++ map (λ (u : C). Some u) l) (sym turned)))),
      c.push_reserved.ensures.capacity ∙ inv.1,
      omega arith,
      (full_last new c.in-Some.slot (inv.3.0, sym items ∙ inv.3.1)).1,
    )
