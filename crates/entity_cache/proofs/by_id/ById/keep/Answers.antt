use Rattle.std.proofs.Common.{◌∙◌, ap}
use Rattle.lru.specs.LruCache.{LruCache}
use Rattle.entity_cache.specs.Contents.{found_at}
use Rattle.entity_cache.proofs.Lookups.{found_front, on_err, on_ok, others_front, put_new}
use Rattle.entity_cache.proofs.by_id.ById.keep.Goals as goal
use Rattle.entity_cache.proofs.by_id.ById.keep.Goals.{in-Ok+in-Some-1, in-Ok+in-None-1, in-Err}

pub returns-clause-kept : goal.returns-clause-kept
returns-clause-kept g c = elim c.match-put.branch [
  | in-Ok+in-Some-1 w ↦
      let front = put_new c.self.inside.contents c.put.new.self c.args.self.now c.args.id c.args.content c.self.view_is c.self.invariant.capacity c.requires.new c.requires.room w.in-Ok.ensures.entries in
      on_ok c.match-put.result _ (ap (λ xs. found_at xs c.args.id) front ∙ found_front c.args.self.now c.args.id c.args.content)
  | in-Ok+in-None-1 w ↦
      let front = put_new c.self.inside.contents c.put.new.self c.args.self.now c.args.id c.args.content c.self.view_is c.self.invariant.capacity c.requires.new c.requires.room w.in-Ok.ensures.entries in
      on_ok c.match-put.result _ (ap (λ xs. found_at xs c.args.id) front ∙ found_front c.args.self.now c.args.id c.args.content)
  | in-Err w ↦ on_err c.match-put.result _ _ w.result-is
]

pub returns-clause-others : goal.returns-clause-others
returns-clause-others g c = elim c.match-put.branch [
  | in-Ok+in-Some-1 w ↦ λ other differs.
      let front = put_new c.self.inside.contents c.put.new.self c.args.self.now c.args.id c.args.content c.self.view_is c.self.invariant.capacity c.requires.new c.requires.room w.in-Ok.ensures.entries in
      ap (λ xs. found_at xs other) front ∙ others_front c.args.self.now c.args.id c.args.content other differs
  | in-Ok+in-None-1 w ↦ λ other differs.
      let front = put_new c.self.inside.contents c.put.new.self c.args.self.now c.args.id c.args.content c.self.view_is c.self.invariant.capacity c.requires.new c.requires.room w.in-Ok.ensures.entries in
      ap (λ xs. found_at xs other) front ∙ others_front c.args.self.now c.args.id c.args.content other differs
  | in-Err w ↦ λ other differs. ap (λ (x : LruCache _ _). found_at x.entries other) w.in-Err.ensures.err ∙ ap (λ xs. found_at xs other) c.self.view_is
]

pub returns-clause-order : goal.returns-clause-order
returns-clause-order g c = elim c.match-put.branch [
  | in-Ok+in-Some-1 w ↦
      let front = put_new c.self.inside.contents c.put.new.self c.args.self.now c.args.id c.args.content c.self.view_is c.self.invariant.capacity c.requires.new c.requires.room w.in-Ok.ensures.entries in
      on_ok c.match-put.result _ front
  | in-Ok+in-None-1 w ↦
      let front = put_new c.self.inside.contents c.put.new.self c.args.self.now c.args.id c.args.content c.self.view_is c.self.invariant.capacity c.requires.new c.requires.room w.in-Ok.ensures.entries in
      on_ok c.match-put.result _ front
  | in-Err w ↦ on_err c.match-put.result _ _ w.result-is
]
