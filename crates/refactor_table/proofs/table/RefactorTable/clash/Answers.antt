-- The first row that stands against a pair.
use Rattle.std.proofs.Common.{◌≡◌, Some, None, sym, ap, subst, ◌∙◌, rules, List}
use Rattle.refactor_table.specs.Index.{row_of}
use Rattle.refactor_table.specs.Pairs.{IsFirstClash, IsFresh, earlier_of}
use Rattle.refactor_table.specs.declared.name.Pair.{Pair}
use Rattle.refactor_table.proofs.Rows.{first_clash, no_clash}
use Rattle.refactor_table.proofs.table.RefactorTable.clash.Goals as goal

pub returns-in_err-row-clause-none : goal.returns-in_err-row-clause-none
returns-in_err-row-clause-none c =
    let none : earlier_of (row_of c.self.inside.by_old c.args.old.now) (row_of c.self.inside.by_new c.args.new.now) ≡ None = search rules in
    let fresh = no_clash c.self.inside.rows.items c.self.inside.by_old c.self.inside.by_new c.self.invariant c.args.old.now c.args.new.now none in
    let seen : IsFresh c.args.self.now c.args.old.now c.args.new.now = subst (λ (rows : List Pair). IsFresh rows c.args.old.now c.args.new.now) c.self.view_is fresh in
    search rules

pub returns-clause-found : goal.returns-clause-found
returns-clause-found c =
    let some : earlier_of (row_of c.self.inside.by_old c.args.old.now) (row_of c.self.inside.by_new c.args.new.now) ≡ Some c.in_ok-row.row = search rules in
    let first = first_clash c.self.inside.rows.items c.self.inside.by_old c.self.inside.by_new c.self.invariant c.args.old.now c.args.new.now c.in_ok-row.row some in
    subst (λ (rows : List Pair). IsFirstClash rows c.args.old.now c.args.new.now c.in_ok-row.row) c.self.view_is first
