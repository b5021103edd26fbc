use Rattle.std.proofs.Common.{true, false, ◌≡◌}
use Rattle.graph_model.proofs.Places.{put_found, put_new}
use Rattle.graph_model.proofs.entity.Records.put.Goals as goal

pub returns-then-has_at-clause-ok : goal.returns-then-has_at-clause-ok
returns-then-has_at-clause-ok c =
    let found = rw (c.as_slice-2.ensures.value, c.place_of-place.ensures.exact, c.as_slice.ensures.value) at c.has_at.ensures.0 c.if-has_at.true in
    rw (c.place_of-place.ensures.exact, c.as_slice.ensures.value, ← c.self.view_is) (put_found c.args.record c.self.inside.items.items found)

pub returns-in_ok-insert-clause-ok : goal.returns-in_ok-insert-clause-ok
returns-in_ok-insert-clause-ok c =
    let finds = rw (c.as_slice-2.ensures.value, c.place_of-place.ensures.exact, c.as_slice.ensures.value) at c.has_at.ensures.1 in
    rw (c.in_ok-insert.ensures.items, c.place_of-place.ensures.exact, c.as_slice.ensures.value, ← c.self.view_is)
    (put_new c.args.record c.self.inside.items.items (λ h. let found : c.has_at.result ≡ true = finds h in let none : c.has_at.result ≡ false = c.if-has_at.false in cc))
