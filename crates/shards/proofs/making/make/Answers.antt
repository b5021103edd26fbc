use Rattle.std.proofs.Common.{◌≡◌, ◌+◌, ℕ, List, Option, Some, map, length, get_or, replicate, refl, sym, ap, ◌∙◌, subst}
use Rattle.std.proofs.lemmas.List.{length-replicate}
use Rattle.shards.specs.Known.{session_pass}
use Rattle.shards.specs.Kept.{Kept}
use Rattle.shards.specs.Words.{word_of}
use Rattle.atomic_table.specs.Table.{opening}
use Rattle.shards.proofs.Slots.{blank, full_same}
use Rattle.shards.proofs.Whole.{opens}
use Rattle.shards.proofs.making.make.Goals as goal

pub new-requires : goal.new-requires
new-requires g c = let C : Type 0 = g.row.C.Denot in let told = g.C.CoreUnit.told in let backs = g.C.BackedUnit.backs in let ws : List ℕ = c.as_slice.result.now in let us : List C = c.args.units.items in
    let words : ws ≡ replicate (word_of (length us) + 1) 0 = c.as_slice.ensures.value ∙ c.in-Ok.ensures.words in
    let slots : c.fill.new.slots.items ≡ map (λ (u : C). Some u) us = c.fill.ensures.slots ∙ ap (λ (l : List C). map (λ (u : C). Some u) l) c.in-Ok.ensures.units in
    let value : c.of.result.value.items ≡ us = ap (λ v. v.items) c.of.ensures in
    subst (λ (z : List (Option C) × List C). Kept told backs (opening ws z.0 (session_pass (map told z.1) c.args.next_id))) (λ i. (sym slots i, sym value i))
    (opens told backs us c.args.next_id ws c.requires.count.0 c.requires.fresh c.requires.start (ap (λ (l : List ℕ). length l) words ∙ length-replicate (word_of (length us) + 1) 0)
    (λ k. ap (λ (l : List ℕ). get_or l k 0) words ∙ blank (word_of (length us) + 1) k))

pub returns-clause-fault : goal.returns-clause-fault
returns-clause-fault g c = (full_same c.refill.new.units.items c.args.units.items (c.refill.ensures.units ∙ (c.in-Err.ensures.err ∙ (c.fill.ensures.slots ∙ ap (λ l. map Some l) c.in-Ok.ensures.units))), refl)
