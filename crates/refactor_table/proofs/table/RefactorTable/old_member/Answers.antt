-- The pair of a new member.
use Rattle.std.proofs.Common.{◌≡◌, Some, None, sym, ap, subst, List, rules, arith}
use Rattle.refactor_table.specs.Index.{row_of}
use Rattle.refactor_table.specs.Names.{AreOfOneForm}
use Rattle.refactor_table.specs.Pairs.{AreSound, Leads, pair_of}
use Rattle.refactor_table.specs.declared.name.Pair.{Pair}
use Rattle.refactor_table.specs.declared.name.RefName.{RefName}
use Rattle.refactor_table.specs.declared.name.RefName.TheVariants.{OfType, OfMember}
use Rattle.refactor_table.proofs.Indexes.{member-injective}
use Rattle.refactor_table.proofs.Rows.{row_within, row_read, row_named, row_of_pair, no_pair, leads_at, sound}
use Rattle.refactor_table.proofs.table.RefactorTable.old_member.Goals as goal

pub returns-in_err-row-clause-only : goal.returns-in_err-row-clause-only
returns-in_err-row-clause-only c = λ t m leads.
    let inside : Leads c.self.inside.rows.items (OfMember t m) (OfMember c.args.new_type.now c.args.new_member.now) = subst (λ (rows : List Pair). Leads rows (OfMember t m) (OfMember c.args.new_type.now c.args.new_member.now)) (sym c.self.view_is) leads in
    let none : row_of c.self.inside.by_new (OfMember c.args.new_type.now c.args.new_member.now) ≡ None = search rules in
    absurd (no_pair (λ p. p.new) c.self.inside.rows.items c.self.inside.by_new c.self.invariant.new_rows (OfMember t m) (OfMember c.args.new_type.now c.args.new_member.now) none inside)

pub index-pair-requires : goal.index-pair-requires
index-pair-requires c =
    let found : row_of c.self.inside.by_new (OfMember c.args.new_type.now c.args.new_member.now) ≡ Some c.in_ok-row.row = search rules in
    let within = row_within (λ p. p.new) c.self.inside.rows.items c.self.inside.by_new c.self.invariant.new_rows (OfMember c.args.new_type.now c.args.new_member.now) c.in_ok-row.row found in
    grind (arith, within)

pub unreachable-requires : goal.unreachable-requires
unreachable-requires c =
    let found : row_of c.self.inside.by_new (OfMember c.args.new_type.now c.args.new_member.now) ≡ Some c.in_ok-row.row = search rules in
    let at = row_read (λ p. p.new) c.self.inside.rows.items c.self.inside.by_new c.self.invariant.new_rows (OfMember c.args.new_type.now c.args.new_member.now) c.in_ok-row.row c.index-pair.result.now found c.index-pair.ensures in
    let named = row_named (λ p. p.new) c.self.inside.rows.items c.self.inside.by_new c.self.invariant.new_rows (OfMember c.args.new_type.now c.args.new_member.now) c.in_ok-row.row c.index-pair.result.now found at in
    subst (λ (name : RefName). AreOfOneForm (OfType c.in-OfType.field-0) name) named (subst (λ (name : RefName). AreOfOneForm name c.index-pair.result.now.new) c.in-OfType.is (c.self.invariant.one_form c.in_ok-row.row c.index-pair.result.now at))

pub returns-clause-found : goal.returns-clause-found
returns-clause-found c =
    let found : row_of c.self.inside.by_new (OfMember c.args.new_type.now c.args.new_member.now) ≡ Some c.in_ok-row.row = search rules in
    let at = row_read (λ p. p.new) c.self.inside.rows.items c.self.inside.by_new c.self.invariant.new_rows (OfMember c.args.new_type.now c.args.new_member.now) c.in_ok-row.row c.index-pair.result.now found c.index-pair.ensures in
    let named = row_named (λ p. p.new) c.self.inside.rows.items c.self.inside.by_new c.self.invariant.new_rows (OfMember c.args.new_type.now c.args.new_member.now) c.in_ok-row.row c.index-pair.result.now found at in
    subst (λ (rows : List Pair). Leads rows (OfMember c.in-OfMember.old_type c.in-OfMember.old_member) (OfMember c.args.new_type.now c.args.new_member.now)) c.self.view_is
    (leads_at c.self.inside.rows.items (OfMember c.in-OfMember.old_type c.in-OfMember.old_member) (OfMember c.args.new_type.now c.args.new_member.now) c.in_ok-row.row c.index-pair.result.now at c.in-OfMember.is named)

pub returns-clause-only : goal.returns-clause-only
returns-clause-only c = λ t m leads.
    let inside : Leads c.self.inside.rows.items (OfMember t m) (OfMember c.args.new_type.now c.args.new_member.now) = subst (λ (rows : List Pair). Leads rows (OfMember t m) (OfMember c.args.new_type.now c.args.new_member.now)) (sym c.self.view_is) leads in
    let found : row_of c.self.inside.by_new (OfMember c.args.new_type.now c.args.new_member.now) ≡ Some c.in_ok-row.row = search rules in
    let at = row_read (λ p. p.new) c.self.inside.rows.items c.self.inside.by_new c.self.invariant.new_rows (OfMember c.args.new_type.now c.args.new_member.now) c.in_ok-row.row c.index-pair.result.now found c.index-pair.ensures in
    let same : c.index-pair.result.now ≡ pair_of (OfMember t m) (OfMember c.args.new_type.now c.args.new_member.now) =
    row_of_pair (λ p. p.new) c.self.inside.rows.items c.self.inside.by_new c.self.invariant.new_rows (OfMember t m) (OfMember c.args.new_type.now c.args.new_member.now) c.in_ok-row.row c.index-pair.result.now inside found at in
    member-injective _ _ t m c.index-pair.result.now.old c.in-OfMember.is (ap (λ (p : Pair). p.old) same)

pub returns-in_err-row-clause-sound : goal.returns-in_err-row-clause-sound
returns-in_err-row-clause-sound c = subst AreSound c.self.view_is (sound c.self.inside.rows.items c.self.inside.by_old c.self.inside.by_new c.self.invariant)

pub returns-clause-sound : goal.returns-clause-sound
returns-clause-sound c = subst AreSound c.self.view_is (sound c.self.inside.rows.items c.self.inside.by_old c.self.inside.by_new c.self.invariant)
