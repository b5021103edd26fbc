use Rattle.std.proofs.Common.{◌≡◌, take, drop, length, rules, arith, sym, subst}
use Rattle.std.specs.List.Sorted.{IsNonDecreasingBy}
use Rattle.std.proofs.lemmas.List.{length-take}
use Rattle.std.proofs.lemmas.List.Sorted.{IsNonDecreasingBy-from_sort_by_key}
use Rattle.entity_region.specs.Packing.{IsListed}
use Rattle.entity_region.proofs.ListedLemmas.{listed_sorted}
use Rattle.entity_region.proofs.RegionLemmas.{written_back}
use Rattle.entity_region.proofs.packing.order_blocks.Goals as goal

pub returns-clause-listed : goal.returns-clause-listed
returns-clause-listed c =
    let n = c.note_blocks-noted.result in
    let order = c.note_blocks-noted.new.order in
    let sorted = c.sort_unstable_by_key.new.self in
    let len : length sorted ≡ n = omega (arith, c.sort_unstable_by_key.ensures.len, c.note_blocks-noted.ensures.within, length-take n order) in
    subst (IsListed c.args.places.now) (sym (written_back n sorted (drop n order) len)) (listed_sorted c.args.places.now (take n order) sorted c.note_blocks-noted.ensures.listed c.sort_unstable_by_key.ensures.permutation)

pub returns-clause-rising : goal.returns-clause-rising
returns-clause-rising c =
    let n = c.note_blocks-noted.result in
    let order = c.note_blocks-noted.new.order in
    let sorted = c.sort_unstable_by_key.new.self in
    let len : length sorted ≡ n = omega (arith, c.sort_unstable_by_key.ensures.len, c.note_blocks-noted.ensures.within, length-take n order) in
    subst (IsNonDecreasingBy (λ m. m.unit)) (sym (written_back n sorted (drop n order) len))
    (IsNonDecreasingBy-from_sort_by_key (λ m. m.unit) sorted c.sort_unstable_by_key.ensures.sorted (λ a r q k. search rules))
