use Rattle.std.proofs.Common.{◌∙◌, ap, length, nat_eq}
use Rattle.lru.specs.LruCache.{LruCache, promoted}
use Rattle.entity_cache.specs.Contents.{found_at}
use Rattle.entity_cache.proofs.Lookups.{all_promoted, length_promoted}
use Rattle.entity_cache.proofs.by_id.ById.touch.Goals as goal

pub returns-clause-all : goal.returns-clause-all
returns-clause-all g c = λ id.
    ap (λ (x : LruCache _ _). found_at x.entries id) c.promote.ensures.entries ∙ all_promoted c.self.inside.contents.entries c.args.id id
    ∙ ap (λ xs. found_at xs id) c.self.view_is

pub returns-clause-count : goal.returns-clause-count
returns-clause-count g c =
    ap (λ (x : LruCache _ _). length x.entries) c.promote.ensures.entries ∙ length_promoted c.self.inside.contents.entries c.args.id ∙ ap length c.self.view_is

pub returns-clause-order : goal.returns-clause-order
returns-clause-order g c = ap (λ (x : LruCache _ _). x.entries) c.promote.ensures.entries ∙ ap (promoted (nat_eq c.args.id)) c.self.view_is
