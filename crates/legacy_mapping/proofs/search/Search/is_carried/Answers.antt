-- The pair of the old member, if it is of the new type and the new type has its member.
use Rattle.std.proofs.Common.{◌≡◌, rules}
use Rattle.std.specs.Prelude.{is_some}
use Rattle.refactor_table.specs.Pairs.{Leads}
use Rattle.refactor_table.specs.declared.name.RefName.TheVariants.{OfType, OfMember}
use Rattle.legacy_mapping.specs.Positions.{position_of}
use Rattle.legacy_mapping.proofs.SourceLemmas.{is_carried, not_carried}
use Rattle.legacy_mapping.proofs.search.Search.is_carried.Goals as goal

pub returns-then-is_same : goal.returns-then-is_same
returns-then-is_same c =
    let at : c.contains_key.result ≡ is_some (position_of c.args.self.now.to_positions c.in-Some.to.now) = search rules in
    let type_is : c.in-Some.new_type.now ≡ c.args.self.now.to.now.name = c.is_same.ensures.0 c.if-is_same.true in
    let leads : Leads c.args.self.now.table.now (OfMember c.args.self.now.from.now.name c.args.name.now) (OfMember c.args.self.now.to.now.name c.in-Some.to.now) =
    rw type_is at c.in-Some.ensures.found in
    is_carried c.args.self.now.table.now c.args.self.now.from.now c.args.self.now.to.now c.args.name.now c.in-Some.to.now c.args.self.now.to_positions c.contains_key.result
    c.args.self.now.to_found at leads (λ m l. (c.in-Some.ensures.only c.args.self.now.to.now.name m l).1)

pub returns-else-is_same : goal.returns-else-is_same
returns-else-is_same c =
    let none = not_carried c.args.self.now.table.now c.args.self.now.from.now c.args.self.now.to.now c.args.name.now
    (λ m leads. let same = c.is_same.ensures.1 (c.in-Some.ensures.only c.args.self.now.to.now.name m leads).0 in let differ = c.if-is_same.false in cc) in
    rw c.if-is_same.false none

pub returns-in-None : goal.returns-in-None
returns-in-None c = not_carried c.args.self.now.table.now c.args.self.now.from.now c.args.self.now.to.now c.args.name.now (λ m leads. c.in-None.ensures.only c.args.self.now.to.now.name m leads)
