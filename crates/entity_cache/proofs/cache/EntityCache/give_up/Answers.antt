use Rattle.std.proofs.Common.{◌≡◌, [], length, take, Some, None, IfSome, IfNone, arith, sym, ap, subst, ◌∙◌}
use Rattle.entity_cache.specs.Contents.{found_at, OthersStay}
use Rattle.entity_cache.specs.Cached.{block_of, HaveLeft}
use Rattle.entity_cache.proofs.HeldLemmas.{left_one, left_none, some_entry, no_entries}
use Rattle.entity_cache.proofs.cache.EntityCache.give_up.Goals as goal
use Rattle.entity_cache.proofs.cache.EntityCache.give_up.Goals.{in-Some, in-None}

pub returns-clause-left : goal.returns-clause-left
returns-clause-left c = elim c.match-give_up.branch [
  | in-Some w ↦
      let given = w.in-Some.given in
      let had = subst (λ o. IfSome o (λ e. found_at c.self.inside.blocks e.0 ≡ Some e.1)) w.in-Some.is c.give_up.ensures.content in
      let gone = subst (λ o. IfSome o (λ e. found_at c.give_up.new.self e.0 ≡ None)) w.in-Some.is c.give_up.ensures.gone in
      let others = subst (λ o. IfSome o (λ e. OthersStay e.0 c.self.inside.blocks c.give_up.new.self)) w.in-Some.is c.give_up.ensures.others in
      let is : block_of c.args.self.now given.0 ≡ Some given.1 = ap (λ xs. block_of xs given.0) (sym c.self.view_is) ∙ had in
      let count = c.give_up.ensures.count in
      let same = ap length c.self.view_is in
      let some = some_entry c.args.self.now given.0 given.1 is in
      subst (λ r. HaveLeft c.args.region.now c.args.self.now r c.give_up.new.self) (sym (w.region-is ∙ w.give.ensures)) (left_one c.args.region.now c.args.self.now c.give_up.new.self given.0 given.1 c.requires is
      gone (λ other differs. others other differs ∙ ap (λ xs. block_of xs other) c.self.view_is) (omega arith)
      (c.give_up.ensures.order ∙ ap (λ k. take k c.self.inside.blocks) (sym count) ∙ ap (take (length c.give_up.new.self)) c.self.view_is))
  | in-None w ↦
      let empty = subst (λ o. IfNone o (c.self.inside.blocks ≡ [])) w.in-None.is c.give_up.ensures.none in
      let count = c.give_up.ensures.count in
      let none = ap length empty in
      let after : c.give_up.new.self ≡ [] = no_entries c.give_up.new.self (omega arith) in
      let same : c.give_up.new.self ≡ c.args.self.now = after ∙ sym empty ∙ c.self.view_is in
      subst (λ r. HaveLeft c.args.region.now c.args.self.now r c.give_up.new.self) (sym w.region-is) (subst (HaveLeft c.args.region.now c.args.self.now c.args.region.now) (sym same) (left_none c.args.region.now c.args.self.now c.requires))
]
