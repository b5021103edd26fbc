-- The pair of an old member.
use Rattle.std.proofs.Common.{◌≡◌, Some, None, sym, ap, subst, List, rules, arith}
use Rattle.refactor_table.specs.Index.{row_of}
use Rattle.refactor_table.specs.Names.{AreOfOneForm}
use Rattle.refactor_table.specs.Pairs.{Leads, pair_of}
use Rattle.refactor_table.specs.declared.name.Pair.{Pair}
use Rattle.refactor_table.specs.declared.name.RefName.{RefName}
use Rattle.refactor_table.specs.declared.name.RefName.TheVariants.{OfType, OfMember}
use Rattle.refactor_table.proofs.Indexes.{member-injective}
use Rattle.refactor_table.proofs.Rows.{row_within, row_read, row_named, row_of_pair, no_pair, leads_at}
use Rattle.refactor_table.proofs.table.RefactorTable.new_member.Goals as goal

pub returns-in_err-row-clause-only : goal.returns-in_err-row-clause-only
returns-in_err-row-clause-only c = λ t m leads.
    let inside : Leads c.self.inside.rows.items (OfMember c.args.old_type.now c.args.old_member.now) (OfMember t m) = subst (λ (rows : List Pair). Leads rows (OfMember c.args.old_type.now c.args.old_member.now) (OfMember t m)) (sym c.self.view_is) leads in
    let none : row_of c.self.inside.by_old (OfMember c.args.old_type.now c.args.old_member.now) ≡ None = search rules in
    absurd (no_pair (λ p. p.old) c.self.inside.rows.items c.self.inside.by_old c.self.invariant.old_rows (OfMember c.args.old_type.now c.args.old_member.now) (OfMember t m) none inside)

pub index-pair-requires : goal.index-pair-requires
index-pair-requires c =
    let found : row_of c.self.inside.by_old (OfMember c.args.old_type.now c.args.old_member.now) ≡ Some c.in_ok-row.row = search rules in
    let within = row_within (λ p. p.old) c.self.inside.rows.items c.self.inside.by_old c.self.invariant.old_rows (OfMember c.args.old_type.now c.args.old_member.now) c.in_ok-row.row found in
    grind (arith, within)

pub unreachable-requires : goal.unreachable-requires
unreachable-requires c =
    let found : row_of c.self.inside.by_old (OfMember c.args.old_type.now c.args.old_member.now) ≡ Some c.in_ok-row.row = search rules in
    let at = row_read (λ p. p.old) c.self.inside.rows.items c.self.inside.by_old c.self.invariant.old_rows (OfMember c.args.old_type.now c.args.old_member.now) c.in_ok-row.row c.index-pair.result.now found c.index-pair.ensures in
    let named = row_named (λ p. p.old) c.self.inside.rows.items c.self.inside.by_old c.self.invariant.old_rows (OfMember c.args.old_type.now c.args.old_member.now) c.in_ok-row.row c.index-pair.result.now found at in
    subst (λ (name : RefName). AreOfOneForm name (OfType c.in-OfType.field-0)) named (subst (λ (name : RefName). AreOfOneForm c.index-pair.result.now.old name) c.in-OfType.is (c.self.invariant.one_form c.in_ok-row.row c.index-pair.result.now at))

pub returns-clause-found : goal.returns-clause-found
returns-clause-found c =
    let found : row_of c.self.inside.by_old (OfMember c.args.old_type.now c.args.old_member.now) ≡ Some c.in_ok-row.row = search rules in
    let at = row_read (λ p. p.old) c.self.inside.rows.items c.self.inside.by_old c.self.invariant.old_rows (OfMember c.args.old_type.now c.args.old_member.now) c.in_ok-row.row c.index-pair.result.now found c.index-pair.ensures in
    let named = row_named (λ p. p.old) c.self.inside.rows.items c.self.inside.by_old c.self.invariant.old_rows (OfMember c.args.old_type.now c.args.old_member.now) c.in_ok-row.row c.index-pair.result.now found at in
    subst (λ (rows : List Pair). Leads rows (OfMember c.args.old_type.now c.args.old_member.now) (OfMember c.in-OfMember.new_type c.in-OfMember.new_member)) c.self.view_is
    (leads_at c.self.inside.rows.items (OfMember c.args.old_type.now c.args.old_member.now) (OfMember c.in-OfMember.new_type c.in-OfMember.new_member) c.in_ok-row.row c.index-pair.result.now at named c.in-OfMember.is)

pub returns-clause-only : goal.returns-clause-only
returns-clause-only c = λ t m leads.
    let inside : Leads c.self.inside.rows.items (OfMember c.args.old_type.now c.args.old_member.now) (OfMember t m) = subst (λ (rows : List Pair). Leads rows (OfMember c.args.old_type.now c.args.old_member.now) (OfMember t m)) (sym c.self.view_is) leads in
    let found : row_of c.self.inside.by_old (OfMember c.args.old_type.now c.args.old_member.now) ≡ Some c.in_ok-row.row = search rules in
    let at = row_read (λ p. p.old) c.self.inside.rows.items c.self.inside.by_old c.self.invariant.old_rows (OfMember c.args.old_type.now c.args.old_member.now) c.in_ok-row.row c.index-pair.result.now found c.index-pair.ensures in
    let same : c.index-pair.result.now ≡ pair_of (OfMember c.args.old_type.now c.args.old_member.now) (OfMember t m) =
    row_of_pair (λ p. p.old) c.self.inside.rows.items c.self.inside.by_old c.self.invariant.old_rows (OfMember c.args.old_type.now c.args.old_member.now) (OfMember t m) c.in_ok-row.row c.index-pair.result.now inside found at in
    member-injective _ _ t m c.index-pair.result.now.new c.in-OfMember.is (ap (λ (p : Pair). p.new) same)
