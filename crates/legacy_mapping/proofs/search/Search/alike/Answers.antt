-- The old member of the name, if it is carried nowhere.
use Rattle.std.proofs.Common.{◌≡◌, ℕ, Some, None, sym, ◌∙◌, rules}
use Rattle.legacy_mapping.specs.Positions.{position_of}
use Rattle.legacy_mapping.specs.Sources.{IsCarried}
use Rattle.legacy_mapping.proofs.search.Search.alike.Goals as goal

pub returns-in_err-i-clause-only : goal.returns-in_err-i-clause-only
returns-in_err-i-clause-only c = λ i is.
    let none : position_of c.args.self.now.from_positions c.args.name.now ≡ None = search rules in
    let some = c.args.self.now.from_found.found i c.args.name.now is.0 in
    absurd cc

pub returns-clause-found : goal.returns-clause-found
returns-clause-found c =
    let at : position_of c.args.self.now.from_positions c.args.name.now ≡ Some c.in_ok-i.i = search rules in
    (c.args.self.now.from_found.stands c.in_ok-i.i c.args.name.now at, λ carried. let is = c.is_carried.ensures.1 carried in let is_not = c.if-is_carried.false in cc)

pub returns-clause-only : goal.returns-clause-only
returns-clause-only c = λ i is.
    let at : position_of c.args.self.now.from_positions c.args.name.now ≡ Some c.in_ok-i.i = search rules in
    sym at ∙ c.args.self.now.from_found.found i c.args.name.now is.0
