use Rattle.std.proofs.Common.{arith, ◌≡◌, sym, ap, ◌∙◌}
use Rattle.shards.specs.Known.{Known, PassState, ShardsState, known_in}
use Rattle.shards.proofs.Rosters.{splits}
use Rattle.shards.proofs.shards.Shards.split.Goals as goal

pub split_seat-other-requires : goal.split_seat-other-requires
split_seat-other-requires g c = let C : Type 0 = g.row.C.Denot in let size = c.self.invariant in let was = c.replace.ensures.value in
    let v : known_in c.pass.inside.badge.views ≡ c.into_seat-seat.result.me.0 = ap known_in (ap (λ b. b.views) (sym was) ∙ c.into_seat-seat.ensures.2) in (
      c.into_seat-seat.ensures.0 ∙ (ap (λ b. b.table_id) was ∙ (ap (λ (p : PassState C). p.table) c.pass.view_is ∙ (c.requires.pass ∙ sym (ap (λ (s : ShardsState). s.table) c.self.view_is)))),
      omega arith,
      splits g.C.CoreUnit.told g.C.BackedUnit.backs g.C.BackedUnit.actors_keep _ _ (ap (λ (z : Known C). z.live) (sym v) ∙ c.pass.invariant.1)
          (ap (λ (z : Known C). z.own.actor) (sym v) ∙ (ap (λ (p : PassState C). p.known.own.actor) c.pass.view_is ∙ c.requires.actor.0)),
    )
