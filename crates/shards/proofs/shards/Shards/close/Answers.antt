use Rattle.std.proofs.Common.{◌≡◌, ◌∙◌, List, Some, map, sym, ap, subst}
use Rattle.std.specs.Mem.Slots.{slots_items}
use Rattle.atomic_table.specs.Table.{Final, Seen}
use Rattle.shards.specs.Closing.{AreClosed}
use Rattle.shards.specs.Kept.{Kept}
use Rattle.shards.specs.Known.{Known, PassState, known_in}
use Rattle.shards.proofs.Last.{closes}
use Rattle.shards.proofs.Slots.{full_same}
use Rattle.shards.proofs.shards.Shards.close.Given as given
use Rattle.shards.proofs.shards.Shards.close.Goals as goal

got : (g : given.Over) (c : goal.After-units-1 g)
    → (us : List g.row.C.Denot) × (slots_items c.close_with-closed.result.slots ≡ map (λ (u : g.row.C.Denot). Some u) us) × AreClosed g.C.CoreUnit.told g.C.BackedUnit.backs c.args.pass.known us
got g c = let C : Type 0 = g.row.C.Denot in let told = g.C.CoreUnit.told in let backs = g.C.BackedUnit.backs in let shut = c.close_with-closed in let inv = c.pass.invariant in
    let known : known_in c.pass.inside.badge.views ≡ c.args.pass.known = ap (λ (p : PassState C). p.known) c.pass.view_is in
    let v : c.into_seat.result.me.0 ≡ c.args.pass.known = sym (ap known_in c.into_seat.ensures.2) ∙ known in
    closes told backs c.into_seat.result.id c.args.pass.known (slots_items shut.result.words) (slots_items shut.result.slots) (ap (λ (z : Known C). z.live) (sym known) ∙ inv.1)
    (ap (λ (z : Known C). z.taken) (sym known) ∙ inv.2) c.requires.actor c.requires.joined
    (subst (λ (z : Known C). Final (Seen (Kept told backs) c.into_seat.result.id z) (slots_items shut.result.words) (slots_items shut.result.slots)) v shut.ensures.values.2)

pub take_units-requires-clause-full : goal.take_units-requires-clause-full
take_units-requires-clause-full g c = let t = got g c in (c.close_with-closed.ensures.values.1, (t.0, t.1))

pub returns-clause-units : goal.returns-clause-units
returns-clause-units g c = let C : Type 0 = g.row.C.Denot in let t = got g c.before in
    subst (AreClosed g.C.CoreUnit.told g.C.BackedUnit.backs c.args.pass.known) (sym (full_same c.take_units.new.units.items t.0 (c.take_units.ensures.units ∙ t.1))) t.2
