-- The Truncation of the last store is appended.
use Rattle.std.proofs.Common.{◌≡◌, ℕ, [], ◌∷◌, ◌++◌, ap, subst}
use Rattle.gated_log.specs.Log.{Each, IsBeforeOrAfter, IsLogOf, payloads_of}
use Rattle.gated_log.specs.State.{LogState}
use Rattle.tx_entry.specs.Entries.{spelling}
use Rattle.transactions_file.specs.Inventory.{Held}
use Rattle.transactions_file.specs.Transactions.{IsKept}
use Rattle.log_rollback.specs.Finished.{IsTruncationOf}
use Rattle.log_rollback.proofs.TakingBack.{finished_after, left_after, open_after}
use Rattle.log_rollback.proofs.dropping.drop_last.Goals as goal

pub returns-in-Ok-clause-open_ : goal.returns-in-Ok-clause-open_
returns-in-Ok-clause-open_ g c tells m ahead =
    let t = c.args.transactions.now in
    let e = c.truncation_of-entry.result in
    let is : IsTruncationOf t.inventory.state e = subst (λ (h : Held). IsTruncationOf h.state e) c.inventory.ensures.inventory c.truncation_of-entry.ensures in
    let kept = subst (λ (f : ℕ). IsKept c.append.new.self (g.D.Disk.reads c.append.new.disk f)) c.requires.file (c.in-Ok.ensures.kept tells) in
    open_after t m e (g.D.Disk.reads c.args.disk.now 0) (c.requires.kept tells) is ahead c.append.ensures.read_again (g.D.Disk.reads c.append.new.disk 0) c.append.new.self kept c.requires.last c.in-Ok.ensures.state

pub returns-in-Ok-clause-finished : goal.returns-in-Ok-clause-finished
returns-in-Ok-clause-finished g c tells m ahead =
    let t = c.args.transactions.now in
    let e = c.truncation_of-entry.result in
    let is : IsTruncationOf t.inventory.state e = subst (λ (h : Held). IsTruncationOf h.state e) c.inventory.ensures.inventory c.truncation_of-entry.ensures in
    let old = g.D.Disk.reads c.args.disk.now in
    let new = g.D.Disk.reads c.append.new.disk in
    let kept = subst (λ (f : ℕ). IsKept c.append.new.self (new f)) c.requires.file (c.in-Ok.ensures.kept tells) in
    let added = subst (λ (f : ℕ). payloads_of (new f) ≡ payloads_of (old f) ++ spelling e ∷ []) c.requires.file (c.in-Ok.ensures.added tells) in
    finished_after t m e (old 0) (c.requires.kept tells) is ahead c.append.ensures.read_again (new 0) c.append.new.self kept (ap (λ (l : LogState). l.header) c.in-Ok.ensures.log) added

pub returns-in-Ok-clause-left : goal.returns-in-Ok-clause-left
returns-in-Ok-clause-left g c tells m ahead =
    let t = c.args.transactions.now in
    let e = c.truncation_of-entry.result in
    let is : IsTruncationOf t.inventory.state e = subst (λ (h : Held). IsTruncationOf h.state e) c.inventory.ensures.inventory c.truncation_of-entry.ensures in
    let old = g.D.Disk.reads c.args.disk.now in
    let leaves = g.D.Disk.leaves c.args.disk.now in
    let new = g.D.Disk.leaves c.append.new.disk in
    let stop = subst (λ (f : ℕ). Each (leaves f) (IsLogOf t.log.header (payloads_of (old f))) → Each (new f) (IsBeforeOrAfter t.log.header (payloads_of (old f)) (spelling e))) c.requires.file (c.append.ensures.stop tells) in
    left_after t m e (old 0) (c.requires.kept tells) is ahead c.append.ensures.read_again (leaves 0) (new 0) (c.requires.synced tells) stop

pub returns-in-Err-clause-left : goal.returns-in-Err-clause-left
returns-in-Err-clause-left g c tells m ahead =
    let t = c.args.transactions.now in
    let e = c.truncation_of-entry.result in
    let is : IsTruncationOf t.inventory.state e = subst (λ (h : Held). IsTruncationOf h.state e) c.inventory.ensures.inventory c.truncation_of-entry.ensures in
    let old = g.D.Disk.reads c.args.disk.now in
    let leaves = g.D.Disk.leaves c.args.disk.now in
    let new = g.D.Disk.leaves c.append.new.disk in
    let stop = subst (λ (f : ℕ). Each (leaves f) (IsLogOf t.log.header (payloads_of (old f))) → Each (new f) (IsBeforeOrAfter t.log.header (payloads_of (old f)) (spelling e))) c.requires.file (c.append.ensures.stop tells) in
    left_after t m e (old 0) (c.requires.kept tells) is ahead c.append.ensures.read_again (leaves 0) (new 0) (c.requires.synced tells) stop
