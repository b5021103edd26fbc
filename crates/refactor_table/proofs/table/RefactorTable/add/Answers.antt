-- A pair is added, or nothing is.
use Rattle.std.proofs.Common.{◌≡◌, ◌++◌, ◌∷◌, [], length, refl, sym, subst, List, rules}
use Rattle.refactor_table.specs.Pairs.{IsFresh, pair_of}
use Rattle.refactor_table.specs.Table.{IsTable}
use Rattle.refactor_table.specs.declared.name.Pair.{Pair}
use Rattle.refactor_table.proofs.Indexes.{same_index-undone}
use Rattle.refactor_table.proofs.Rows.{IsTable-push, IsTable-same, fresh_old}
use Rattle.refactor_table.proofs.table.RefactorTable.add.Goals as goal

pub invariant_of-self-in_err-insert : goal.invariant_of-self-in_err-insert
invariant_of-self-in_err-insert c =
    let t = IsTable-same c.self.inside.rows.items c.self.inside.by_old c.self.inside.by_new c.insert.new.self c.self.inside.by_new c.self.invariant c.in_err-insert.ensures.err (λ q. refl) in
    rw c.reserve.ensures.items t

pub invariant_of-self-in-Err : goal.invariant_of-self-in-Err
invariant_of-self-in-Err c =
    let fresh : IsFresh c.self.inside.rows.items c.args.old c.args.new =
    subst (λ (rows : List Pair). IsFresh rows c.args.old c.args.new) (sym c.self.view_is) c.in_default.ensures.none in
    let absent = fresh_old c.self.inside.rows.items c.self.inside.by_old c.self.inside.by_new c.self.invariant c.args.old c.args.new fresh in
    let undone = same_index-undone c.self.inside.by_old c.insert.new.self c.remove.new.self c.args.old c.len-row.result absent c.in_ok-insert.ensures.ok c.remove.ensures in
    let t = IsTable-same c.self.inside.rows.items c.self.inside.by_old c.self.inside.by_new c.remove.new.self c.insert-2.new.self c.self.invariant undone c.in-Err.ensures.err in
    rw c.reserve.ensures.items t

pub invariant_of-self-2 : goal.invariant_of-self-2
invariant_of-self-2 c =
    let fresh : IsFresh c.self.inside.rows.items c.args.old c.args.new =
    subst (λ (rows : List Pair). IsFresh rows c.args.old c.args.new) (sym c.self.view_is) c.in_default.ensures.none in
    let at : c.len-row.result ≡ length c.self.inside.rows.items = search rules in
    let t = IsTable-push c.self.inside.rows.items c.self.inside.by_old c.self.inside.by_new c.insert.new.self c.insert-2.new.self c.args.old c.args.new c.len-row.result c.self.invariant at c.requires fresh
    c.in_ok-insert.ensures.ok c.in_default-insert.ensures.ok in
    let items : c.push.new.self.items ≡ c.self.inside.rows.items ++ pair_of c.args.old c.args.new ∷ [] = search rules in
    rw items t
