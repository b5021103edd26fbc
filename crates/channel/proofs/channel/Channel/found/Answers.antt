-- The new row stands where it is said to, and each other one where it did.
use Rattle.std.proofs.Common.{◌≡◌, ◌≤◌, ◌+◌, true, false, None, IsTrue, refl, sym, ap, subst, ◌∙◌, arith, rules}
use Rattle.std.specs.Ordering.{nat_cmp}
use Rattle.std.specs.FinMap.{FinMap, get, insert}
use Rattle.transactions_file.specs.Files.{is_live}
use Rattle.entity_index.specs.declared.row.Row.{Row}
use Rattle.channel.specs.Core.{last_part}
use Rattle.channel.specs.OnDisk.{Stands}
use Rattle.channel.specs.Rows.{opened_row}
use Rattle.channel.specs.declared.phase.Stage.{Stage}
use Rattle.channel.specs.declared.phase.Stage.TheVariants.{Idle}
use Rattle.channel.specs.Stages.{FitsStage}
use Rattle.channel.proofs.FoundRows.{sound_found, room_found, room_behind, at_ok}
use Rattle.channel.proofs.LeftCalls.{left_found}
use Rattle.channel.proofs.channel.Channel.found.Goals as goal

pub invariant_of-self-2 : goal.invariant_of-self-2
invariant_of-self-2 g c =
    let id = c.args.id in
    let row : Row = opened_row c.args.file c.args.at c.args.header in
    let new = subst (λ v. get v.rows id ≡ None) (sym c.self.view_is) c.requires.new in
    let confirmed = subst (λ v. v.files.confirmed ≡ last_part v) (sym c.self.view_is) c.requires.confirmed in
    let live = subst (λ v. is_live v.files.transactions.inventory.state.files c.args.file ≡ true) (sym c.self.view_is) c.requires.live in
    let stands = subst (λ v. IsTrue g.D.Disk.tells → Stands (g.D.Disk.reads v.files.disk) (last_part v) id row) (sym c.self.view_is) c.requires.stands in
    let phase = subst (λ v. v.phase ≡ Idle 0) (sym c.self.view_is) c.requires.idle in
    let rest : FitsStage (Idle 0) row = record { marked = refl; grey = refl; visited = refl } in
    let fits = subst (λ (s : Stage). FitsStage s row) (sym phase) rest in
    let kept = c.reserve.ensures.rows in
    let contents = c.self.inside.index.contents in
    let put_in = ap (λ (rows : FinMap nat_cmp Row). insert rows id c.opened_at.result) kept ∙ ap (λ (row : Row). insert contents id row) c.opened_at.ensures in
    let rows_are = c.put.ensures.rows ∙ put_in in
    let due_is : c.in_ok-due.due ≡ c.ready.result + 1 = search rules in
    let before = c.reserve.new.self in
    let not_err = sym c.is_err.ensures.value ∙ c.if-is_err.false in
    let due_enough : c.in_ok-due.due ≤ before.spare = at_ok c.reserve.result (c.in_ok-due.due ≤ before.spare) not_err c.reserve.ensures.room in
    let absent = ap (λ (rows : FinMap nat_cmp Row). get rows id) kept ∙ new in
    let one_more : c.ready.result + 1 ≤ before.spare = omega (arith, due_is, due_enough) in
    let enough = room_behind c.self.inside.prepared c.ready.result before.spare c.put.new.self.spare (get before.contents id) c.ready.ensures one_more absent c.put.ensures.spare in (
      sound_found _ id row c.put.new.self.contents rows_are g.D.Disk.tells g.D.Disk.reads c.self.invariant.0 confirmed
          (record { live = live; id_is = c.requires.id_is; header = c.requires.right; fits = fits }) stands,
      room_found _ id row c.put.new.self.contents rows_are _ c.put.new.self.spare c.self.invariant.1 enough,
      c.self.invariant.2,
      left_found g.D.Disk.tells g.D.Disk.reads g.D.Disk.leaves _ c.put.new.self.contents (subst (λ v. v.failed ≡ false) (sym c.self.view_is) c.requires.sound) c.self.invariant.3,
    )
