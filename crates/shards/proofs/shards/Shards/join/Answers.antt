use Rattle.std.proofs.Common.{rules, arith, ◌≡◌, sym, ap, ◌∙◌}
use Rattle.shards.specs.Known.{Known, PassState, ShardsState, known_in}
use Rattle.shards.proofs.Rosters.{joins}
use Rattle.shards.proofs.shards.Shards.join.Goals as goal

pub join_seat-requires : goal.join_seat-requires
join_seat-requires g c = let C : Type 0 = g.row.C.Denot in let size = c.self.invariant in let mine = c.pass.inside in let theirs = c.other.inside in
    let v : known_in mine.badge.views ≡ c.into_seat-seat.result.me.0 = ap known_in c.into_seat-seat.ensures.2 in let w : known_in theirs.badge.views ≡ c.into_seat.result.me.0 = ap known_in c.into_seat.ensures.2 in
    let table = sym (ap (λ (s : ShardsState). s.table) c.self.view_is) in (
      c.into_seat-seat.ensures.0 ∙ (ap (λ (p : PassState C). p.table) c.pass.view_is ∙ (c.requires.pass.0 ∙ table)),
      c.into_seat.ensures.0 ∙ (ap (λ (p : PassState C). p.table) c.other.view_is ∙ (c.requires.pass.1 ∙ table)),
      search rules,
      omega arith,
      joins g.C.CoreUnit.told g.C.BackedUnit.backs _ _ _ _ (ap (λ (z : Known C). z.live) (sym v) ∙ c.pass.invariant.1) (ap (λ (z : Known C). z.live) (sym w) ∙ c.other.invariant.1)
          (ap (λ (z : Known C). z.taken) (sym w) ∙ c.other.invariant.2) (λ y. c.requires.other (ap (λ (p : PassState C). p.known.own.actor) (sym c.other.view_is) ∙ (ap (λ (z : Known C). z.own.actor) w ∙ y))),
    )
