use Rattle.std.proofs.Common.{length, sym, ap, subst, ◌∙◌}
use Rattle.entity_region.specs.Space.{rounded, IsHole}
use Rattle.entity_cache.specs.Cached.{content_of, IsHeld}
use Rattle.entity_cache.proofs.HeldLemmas.{foreign_again}
use Rattle.entity_cache.proofs.KeepLemmas.{foreign_last, entries_left, blocks_left}
use Rattle.entity_cache.proofs.cache.EntityCache.keep.Goals as goal

pub returns-in-Some-clause-foreign : goal.returns-in-Some-clause-foreign
returns-in-Some-clause-foreign c =
    let room = c.in-Some.ensures.taken in
    let put = c.put.ensures room.before room.left.held room.taken in
    let before = foreign_last c.args.region.now c.forget.new.region c.make_room.new.region room.before c.args.self.now c.forget.new.self c.make_room.new.self c.find.new.self c.forget.ensures.foreign c.make_room.ensures.left room.left in
    foreign_again c.args.region.now room.before c.put.new.region c.args.self.now c.find.new.self c.put.new.self before put.foreign

pub returns-in-None-clause-foreign : goal.returns-in-None-clause-foreign
returns-in-None-clause-foreign c =
    foreign_last c.args.region.now c.forget.new.region c.make_room.new.region c.find.new.region c.args.self.now c.forget.new.self c.make_room.new.self c.find.new.self c.forget.ensures.foreign c.make_room.ensures.left c.in-None.ensures.left

pub returns-in-Some-clause-room : goal.returns-in-Some-clause-room
returns-in-Some-clause-room c = λ room other differs.
    let n = length c.args.bytes.now in
    let entries = entries_left c.args.region.now c.forget.new.region c.args.self.now c.forget.new.self c.args.id n c.forget.ensures.order c.forget.ensures.foreign room in
    let blocks = blocks_left c.args.region.now c.forget.new.region c.args.self.now c.forget.new.self c.args.id n c.forget.ensures.order c.forget.ensures.foreign room in
    let region = c.make_room.ensures.same_region entries blocks in
    let hole = subst (λ r. IsHole r room.at (rounded n)) (sym region) (c.forget.ensures.holes room.at (rounded n) room.hole) in
    let same = c.in-Some.ensures.same room.at hole in
    let held = subst (IsHeld c.make_room.new.region) (sym same) c.make_room.ensures.left.held in
    let put = c.put.ensures c.make_room.new.region held (c.in-Some.ensures.first room.at hole) in
    put.others other differs ∙ ap (λ r. content_of r c.find.new.self other) region ∙ ap (λ es. content_of c.forget.new.region es other) (same ∙ c.make_room.ensures.same_cache entries blocks) ∙ c.forget.ensures.others other differs

pub returns-in-None-clause-room : goal.returns-in-None-clause-room
returns-in-None-clause-room c = λ room other differs.
    let n = length c.args.bytes.now in
    let entries = entries_left c.args.region.now c.forget.new.region c.args.self.now c.forget.new.self c.args.id n c.forget.ensures.order c.forget.ensures.foreign room in
    let blocks = blocks_left c.args.region.now c.forget.new.region c.args.self.now c.forget.new.self c.args.id n c.forget.ensures.order c.forget.ensures.foreign room in
    let region = c.make_room.ensures.same_region entries blocks in
    let hole = subst (λ r. IsHole r room.at (rounded n)) (sym region) (c.forget.ensures.holes room.at (rounded n) room.hole) in
    absurd (c.in-None.ensures.full room.at hole)
