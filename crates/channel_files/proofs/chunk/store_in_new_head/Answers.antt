use Rattle.std.proofs.Common.{◌≡◌, ◌+◌, Err, ap, ◌∙◌, sym, subst, arith, rules}
use Rattle.transactions_file.specs.Files.{is_live, length_in}
use Rattle.transactions_file.specs.Inventory.{State}
use Rattle.transactions_file.proofs.Lengths.{live_push_same, length_push, dead_length}
use Rattle.transactions_file.proofs.Rising.{dead_above}
use Rattle.channel_files.specs.Images.{EachAsRead}
use Rattle.channel_files.specs.Faults.{UnlessFault}
use Rattle.channel_files.specs.Heads.{full_record, full_creation}
use Rattle.channel_files.proofs.Refusals.{unless_fault}
use Rattle.channel_files.proofs.FileOne.{stays_twice}
use Rattle.channel_files.proofs.chunk.store_in_new_head.Goals as goal

pub store_behind_head-requires-clause-live : goal.store_behind_head-requires-clause-live
store_behind_head-requires-clause-live g c =
    let s = c.args.transactions.now.inventory.state in
    ap (λ (s : State). is_live s.files s.created) c.in_ok-create_head.ensures.state ∙ live_push_same s.files (s.created + 1)

pub store_behind_head-requires-clause-room : goal.store_behind_head-requires-clause-room
store_behind_head-requires-clause-room g c =
    let s = c.args.transactions.now.inventory.state in
    omega (
      arith,
      ap (λ (s : State). length_in s.files s.created) c.in_ok-create_head.ensures.state,
      length_push s.files (s.created + 1) (s.created + 1),
      dead_length s.files (s.created + 1) (dead_above 2 (s.created + 1) (s.created + 1) s.files c.inventory-inventory.ensures.sound.rising (omega arith)),
    )

pub returns-in_err-create_head-clause-as_read : goal.returns-in_err-create_head-clause-as_read
returns-in_err-create_head-clause-as_read g c told each =
    let t = c.args.transactions.now in
    let t1 = c.create_head.new.transactions in
    let d0 = c.args.disk.now in
    let d1 = c.create_head.new.disk in
    let ensures = c.in_err-create_head.ensures in
    let same : Err c.in_err-create_head.field-0.0 ≡ c.from_residual.result = search rules in
    let P = EachAsRead t1 (g.D.Disk.reads d1) (g.D.Disk.leaves d1) in
    subst (λ r. UnlessFault r P) same
    (unless_fault P (d1 ≡ d0) (t1 ≡ t) (Err c.in_err-create_head.field-0.0) (full_creation t.inventory.state t.log.length) ensures.full ensures.not_full ensures.err
    (λ d e. subst (λ t. EachAsRead t (g.D.Disk.reads d1) (g.D.Disk.leaves d1)) (sym e) (subst (λ d. EachAsRead t (g.D.Disk.reads d) (g.D.Disk.leaves d)) (sym d) each)) tt)

pub returns-clause-as_read : goal.returns-clause-as_read
returns-clause-as_read g c told each =
    let t1 = c.create_head.new.transactions in
    let t2 = c.store_behind_head.new.transactions in
    let d1 = c.create_head.new.disk in
    let d2 = c.store_behind_head.new.disk in
    let ensures = c.store_behind_head.ensures in
    let P = EachAsRead t2 (g.D.Disk.reads d2) (g.D.Disk.leaves d2) in
    let each1 = c.in_ok-create_head.ensures.as_read told each in
    unless_fault P (d2 ≡ d1) (t2 ≡ t1) c.store_behind_head.result (full_record t1.log.length) ensures.full ensures.not_full ensures.err
    (λ d e. subst (λ t. EachAsRead t (g.D.Disk.reads d2) (g.D.Disk.leaves d2)) (sym e) (subst (λ d. EachAsRead t1 (g.D.Disk.reads d) (g.D.Disk.leaves d)) (sym d) each1)) (ensures.as_read told each1)

pub returns-clause-types : goal.returns-clause-types
returns-clause-types g c told = stays_twice (c.create_head.ensures.types told) (c.store_behind_head.ensures.types told)
