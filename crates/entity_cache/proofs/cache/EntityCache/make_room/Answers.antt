use Rattle.std.proofs.Common.{length, arith, ap, inl, inr}
use Rattle.std.proofs.lemmas.Bool.{cases_Bool}
use Rattle.entity_cache.proofs.cache.EntityCache.make_room.Goals as goal

pub returns-then-is_full-clause-entries : goal.returns-then-is_full-clause-entries
returns-then-is_full-clause-entries c = elim (cases_Bool c.give_up.result) [
  | inl some ↦ let fewer = c.give_up.ensures.fewer some in let most = c.is_full.ensures.most in omega arith
  | inr none ↦ let empty = ap length (c.give_up.ensures.none none) in omega arith
]
