use Rattle.std.proofs.Common.{◌≡◌, IfSome, IfNone, sym, subst, ◌∙◌}
use Rattle.entity_region.specs.Space.{rounded, IsHole, HasNoHole}
use Rattle.entity_cache.specs.Keeping.{HasRoom}
use Rattle.entity_cache.proofs.Lookups.{either, if_there}
use Rattle.entity_cache.proofs.KeepLemmas.{is_aside}
use Rattle.entity_cache.proofs.cache.EntityCache.take.Goals as goal

pub returns-clause-taken : goal.returns-clause-taken
returns-clause-taken c = if_there c.find.result _ (λ block is.
    is_aside c.args.region.now c.make_room.new.region c.find.new.region c.args.self.now c.make_room.new.self c.find.new.self c.args.n block c.make_room.ensures.left
    (subst (λ o. IfSome o (λ b. HasRoom c.make_room.new.region c.make_room.new.self c.find.new.region c.find.new.self c.args.n b)) is c.find.ensures.taken))

pub returns-clause-room : goal.returns-clause-room
returns-clause-room c = λ room.
    let region = c.make_room.ensures.same_region room.entries room.blocks in
    let cache = c.make_room.ensures.same_cache room.entries room.blocks in
    let hole = subst (λ r. IsHole r room.at (rounded c.args.n)) (sym region) room.hole in
    either c.find.result _
    (λ block is. subst (λ o. IfSome o (λ b. (at : _) → IsHole c.make_room.new.region at (rounded c.args.n) → c.find.new.self ≡ c.make_room.new.self)) is c.find.ensures.same room.at hole ∙ cache)
    (λ none. absurd (subst (λ o. IfNone o (HasNoHole c.make_room.new.region (rounded c.args.n))) none c.find.ensures.full room.at hole))
