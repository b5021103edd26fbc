use Rattle.std.proofs.Common.{◌≡◌, ◌*◌, IfSome, IfNone, arith, sym, subst}
use Rattle.entity_region.specs.Space.{rounded, IsTaken, HasNoHole}
use Rattle.entity_cache.specs.Cached.{HaveLeft}
use Rattle.entity_cache.proofs.Lookups.{if_absent, if_there}
use Rattle.entity_cache.proofs.KeepLemmas.{room_packed, empty_packed}
use Rattle.entity_cache.proofs.cache.EntityCache.find.Goals as goal

pub returns-in-None-clause-taken : goal.returns-in-None-clause-taken
returns-in-None-clause-taken c =
    let left = subst (λ r. HaveLeft r c.args.self.now c.give_up_for.new.region c.give_up_for.new.self) c.in-None.ensures.unchanged c.give_up_for.ensures.left in
    if_there c.take-in-None.result _ (λ block is. room_packed c.args.region.now c.give_up_for.new.region c.pack.new.self c.args.self.now c.give_up_for.new.self c.args.n left c.pack.ensures c.take-in-None.new.self block
    (subst (λ o. IfSome o (λ b. IsTaken c.pack.new.self c.take-in-None.new.self c.args.n b)) is c.take-in-None.ensures.taken))

pub returns-in-None-clause-empty : goal.returns-in-None-clause-empty
returns-in-None-clause-empty c =
    let left = subst (λ r. HaveLeft r c.args.self.now c.give_up_for.new.region c.give_up_for.new.self) c.in-None.ensures.unchanged c.give_up_for.ensures.left in
    let units = c.div_ceil.ensures in
    let wanted : 16 * c.div_ceil.result ≡ rounded c.args.n = omega arith in
    if_absent c.take-in-None.result _ (λ is. empty_packed c.args.region.now c.give_up_for.new.region c.pack.new.self c.args.self.now c.give_up_for.new.self c.args.n left c.pack.ensures (16 * c.div_ceil.result) wanted c.give_up_for.ensures.enough
    (subst (λ o. IfNone o (HasNoHole c.pack.new.self (rounded c.args.n))) is c.take-in-None.ensures.none))

pub returns-in-None-clause-none : goal.returns-in-None-clause-none
returns-in-None-clause-none c = if_absent c.take-in-None.result _ (λ is.
    subst (λ r. HasNoHole r (rounded c.args.n)) (sym (subst (λ o. IfNone o (c.take-in-None.new.self ≡ c.pack.new.self)) is c.take-in-None.ensures.unchanged)) (subst (λ o. IfNone o (HasNoHole c.pack.new.self (rounded c.args.n))) is c.take-in-None.ensures.none))

pub returns-in-None-clause-same : goal.returns-in-None-clause-same
returns-in-None-clause-same c = if_there c.take-in-None.result _ (λ block is at hole. absurd (c.in-None.ensures.none at hole))

pub returns-in-None-clause-first : goal.returns-in-None-clause-first
returns-in-None-clause-first c = if_there c.take-in-None.result _ (λ block is at hole. absurd (c.in-None.ensures.none at hole))
