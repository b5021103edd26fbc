-- The pair of the new member, if it is of the old type and the old type has its member.
use Rattle.std.proofs.Common.{◌≡◌, List, ℕ, Some, None, rules}
use Rattle.refactor_table.specs.Pairs.{Leads}
use Rattle.refactor_table.specs.declared.name.RefName.TheVariants.{OfType, OfMember}
use Rattle.legacy_mapping.specs.Positions.{position_of}
use Rattle.legacy_mapping.proofs.SourceLemmas.{paired_found, paired_only}
use Rattle.legacy_mapping.proofs.search.Search.paired.Goals as goal

pub returns-in_err-old_type-clause-only : goal.returns-in_err-old_type-clause-only
returns-in_err-old_type-clause-only c = λ i is. absurd (c.in_err-old_type.ensures.only c.args.self.now.from.now.name is.0 is.2)

pub returns-then-not-is_same-clause-only : goal.returns-then-not-is_same-clause-only
returns-then-not-is_same-clause-only c = λ i is.
    let here = c.in_ok-old_type.ensures.only c.args.self.now.from.now.name is.0 is.2 in
    absurd (let same = c.is_same.ensures.1 here.0 in let differ = c.if-not-is_same.true in cc)

pub returns-clause-found : goal.returns-clause-found
returns-clause-found c =
    let at : c.copied.result ≡ position_of c.args.self.now.from_positions c.in_ok-old_type.from.now = search rules in
    let type_is : c.in_ok-old_type.old_type.now ≡ c.args.self.now.from.now.name = c.is_same.ensures.0 c.if-not-is_same.false in
    let leads : Leads c.args.self.now.table.now (OfMember c.args.self.now.from.now.name c.in_ok-old_type.from.now) (OfMember c.args.self.now.to.now.name c.args.name.now) =
    rw type_is at c.in_ok-old_type.ensures.found in
    paired_found c.args.self.now.table.now c.args.self.now.from.now c.args.self.now.to.now c.args.name.now c.in_ok-old_type.from.now c.args.self.now.from_positions c.copied.result
    c.args.self.now.from_found at leads

pub returns-clause-only : goal.returns-clause-only
returns-clause-only c = λ i is.
    let at : c.copied.result ≡ position_of c.args.self.now.from_positions c.in_ok-old_type.from.now = search rules in
    paired_only c.args.self.now.table.now c.args.self.now.from.now c.args.self.now.to.now c.args.name.now c.in_ok-old_type.from.now c.args.self.now.from_positions c.copied.result
    c.args.self.now.from_found at (λ m leads. (c.in_ok-old_type.ensures.only c.args.self.now.from.now.name m leads).1) i is
