use Rattle.std.proofs.Common.{◌∙◌, ap, sym}
use Rattle.lru.specs.LruCache.{LruCache, last_entry}
use Rattle.entity_cache.specs.Contents.{found_at}
use Rattle.entity_cache.proofs.Lookups.{if_absent, if_there, last_found, last_gone, last_none, last_others}
use Rattle.entity_cache.proofs.by_id.ById.give_up.Goals as goal

pub returns-clause-content : goal.returns-clause-content
returns-clause-content g c = if_there c.pop_lru.result _ (λ e is.
    ap (λ xs. found_at xs e.0) (sym c.self.view_is) ∙ last_found c.self.inside.contents.entries e c.len.ensures.valid.0 (sym c.pop_lru.ensures.value ∙ is))

pub returns-clause-gone : goal.returns-clause-gone
returns-clause-gone g c = if_there c.pop_lru.result _ (λ e is.
    ap (λ (x : LruCache _ _). found_at x.entries e.0) c.pop_lru.ensures.entries
    ∙ last_gone c.self.inside.contents.entries e c.len.ensures.valid.0 (sym c.pop_lru.ensures.value ∙ is))

pub returns-clause-others : goal.returns-clause-others
returns-clause-others g c = if_there c.pop_lru.result _ (λ e is other differs.
    ap (λ (x : LruCache _ _). found_at x.entries other) c.pop_lru.ensures.entries
    ∙ last_others c.self.inside.contents.entries e (sym c.pop_lru.ensures.value ∙ is) other differs ∙ ap (λ xs. found_at xs other) c.self.view_is)

pub returns-clause-none : goal.returns-clause-none
returns-clause-none g c = if_absent c.pop_lru.result _ (λ none. sym c.self.view_is ∙ last_none c.self.inside.contents.entries (sym c.pop_lru.ensures.value ∙ none))

pub returns-clause-oldest : goal.returns-clause-oldest
returns-clause-oldest g c = c.pop_lru.ensures.value ∙ ap last_entry c.self.view_is
