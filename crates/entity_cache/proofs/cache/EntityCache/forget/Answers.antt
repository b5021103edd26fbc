use Rattle.std.proofs.Common.{◌≡◌, ◌+◌, length, Some, IfSome, IfNone, sym, ap, subst, ◌∙◌}
use Rattle.entity_cache.specs.Cached.{block_of, ForeignStay}
use Rattle.entity_cache.proofs.HeldLemmas.{foreign_left, foreign_none}
use Rattle.entity_cache.proofs.cache.EntityCache.forget.Goals as goal
use Rattle.entity_cache.proofs.cache.EntityCache.forget.Goals.{in-Some, in-None}

pub returns-clause-foreign : goal.returns-clause-foreign
returns-clause-foreign c = elim c.match-forget.branch [
  | in-Some w ↦
      let is : block_of c.args.self.now c.args.id ≡ Some w.in-Some.block = ap (λ xs. block_of xs c.args.id) (sym c.self.view_is) ∙ sym c.forget.ensures.content ∙ w.in-Some.is in
      let fewer = subst (λ o. IfSome o (λ _. length c.forget.new.self + 1 ≡ length c.self.inside.blocks)) w.in-Some.is c.forget.ensures.fewer in
      subst (λ r. ForeignStay c.args.region.now c.args.self.now r c.forget.new.self) (sym (w.region-is ∙ w.give.ensures)) (foreign_left c.args.region.now c.args.self.now c.forget.new.self c.args.id w.in-Some.block c.requires is
      c.forget.ensures.gone (λ other differs. c.forget.ensures.others other differs ∙ ap (λ xs. block_of xs other) c.self.view_is) (fewer ∙ ap length c.self.view_is))
  | in-None w ↦
      let same = subst (λ o. IfNone o (c.forget.new.self ≡ c.self.inside.blocks)) w.in-None.is c.forget.ensures.same in
      subst (λ r. ForeignStay c.args.region.now c.args.self.now r c.forget.new.self) (sym w.region-is) (foreign_none c.args.region.now c.args.self.now c.forget.new.self (same ∙ c.self.view_is))
]
