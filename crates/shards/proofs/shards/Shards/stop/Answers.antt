use Rattle.std.proofs.Common.{arith, ◌≡◌, ℕ, sym, ap, ◌∙◌, subst}
use Rattle.shards.specs.Known.{Known, PassState, ShardsState, known_in}
use mathlib.Core.Option.{none}
use Rattle.atomic_table.specs.Table.{Allows, step}
use Rattle.shards.specs.Kept.{Kept}
use Rattle.shards.specs.Words.{word_of}
use Rattle.shards.specs.Plays.{stopped}
use Rattle.shards.proofs.Stops.{stops}
use Rattle.shards.proofs.shards.Shards.stop.Goals as goal

pub swap-requires : goal.swap-requires
swap-requires g c = let C : Type 0 = g.row.C.Denot in let size = c.self.invariant in let v : known_in c.pass.inside.badge.views ≡ c.into_seat-seat.result.me.0 = ap known_in c.into_seat-seat.ensures.2 in (
  c.into_seat-seat.ensures.0 ∙ (ap (λ (p : PassState C). p.table) c.pass.view_is ∙ (c.requires.pass ∙ sym (ap (λ (s : ShardsState). s.table) c.self.view_is))),
  omega arith,
  subst (λ (k : ℕ). Allows (Kept g.C.CoreUnit.told g.C.BackedUnit.backs) c.self.inside.table.shared.table_id.slots c.into_seat-seat.result.id c.into_seat-seat.result.me k (λ _. 1)
      (stopped (step c.self.inside.table.shared.table_id.slots k 1 0 none) c.into_seat-seat.result.me)) (ap word_of size.1 ∙ sym c.word_of-word.ensures)
      (stops g.C.CoreUnit.told g.C.BackedUnit.backs c.self.inside.table.shared.table_id.slots c.into_seat-seat.result.id c.into_seat-seat.result.me (ap (λ (z : Known C). z.live) (sym v) ∙ c.pass.invariant.1)),
)
