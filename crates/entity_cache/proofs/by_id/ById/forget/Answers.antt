use Rattle.std.proofs.Common.{◌+◌, length, sym, ◌∙◌, ap}
use Rattle.lru.specs.LruCache.{LruCache}
use Rattle.entity_cache.specs.Contents.{found_at}
use Rattle.entity_cache.proofs.Lookups.{gone_removed, if_absent, if_there, others_removed, removed_fewer, removed_none}
use Rattle.entity_cache.proofs.by_id.ById.forget.Goals as goal

pub returns-clause-gone : goal.returns-clause-gone
returns-clause-gone g c =
    ap (λ (x : LruCache _ _). found_at x.entries c.args.id) c.pop.ensures.entries ∙ gone_removed c.self.inside.contents.entries c.args.id c.len.ensures.valid.0

pub returns-clause-others : goal.returns-clause-others
returns-clause-others g c = λ other differs.
    ap (λ (x : LruCache _ _). found_at x.entries other) c.pop.ensures.entries ∙ others_removed c.self.inside.contents.entries c.args.id other differs
    ∙ ap (λ xs. found_at xs other) c.self.view_is

pub returns-clause-fewer : goal.returns-clause-fewer
returns-clause-fewer g c = if_there c.pop.result _ (λ x is.
    ap (λ (y : LruCache _ _). length y.entries + 1) c.pop.ensures.entries
    ∙ removed_fewer c.self.inside.contents.entries c.args.id x (sym c.pop.ensures.value ∙ is) ∙ ap length c.self.view_is)

pub returns-clause-same : goal.returns-clause-same
returns-clause-same g c = if_absent c.pop.result _ (λ none.
    ap (λ (y : LruCache _ _). y.entries) c.pop.ensures.entries ∙ removed_none c.self.inside.contents.entries c.args.id (sym c.pop.ensures.value ∙ none) ∙ c.self.view_is)
