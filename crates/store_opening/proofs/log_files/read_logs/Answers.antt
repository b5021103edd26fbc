-- The logs are read by rising channel.
use Rattle.std.proofs.Common.{◌≡◌, ◌∙◌, ℕ, List, [], ◌∷◌, ◌++◌, Err, length, map, sym, ap, subst, arith}
use Rattle.std.proofs.lemmas.List.{length-map, length_push}
use Rattle.store_io.specs.Disk.{Only}
use Rattle.channel.specs.Images.{Image}
use Rattle.recovery.specs.Images.{image_at}
use Rattle.disk_opening.specs.declared.logs.ChannelLog.{ChannelLog}
use Rattle.store_opening.specs.Left.{leaves_at}
use Rattle.store_opening.specs.LogsRead.{AreLogsOpen, AreLogsRead, IsLogOpen, IsLogRead}
use Rattle.store_opening.specs.WrongFiles.{IsWrongLog}
use Rattle.store_opening.specs.declared.fault.OpenFault.TheVariants.{Damaged}
use Rattle.store_opening.proofs.LogsSoFar.{first_wrong, open_more, read_more, same_fault, synced_more}
use Rattle.store_opening.proofs.SyncedDisks.{no_more_still}
use Rattle.store_opening.proofs.log_files.read_logs.Goals as goal

pub returns-in_err-log-clause-damaged : goal.returns-in_err-log-clause-damaged
returns-in_err-log-clause-damaged g c tells j cause is =
    let so = c.logs.invariant in
    let n = length c.args.disks.now in
    let images = map g.D.Disk.reads c.args.disks.now in
    let place = c.logs.place in
    let was = same_fault c.from_residual.result c.in_err-log.field-0.0 (Damaged j cause) c.from_residual.ensures.1 is in
    let told = c.in_err-log.ensures.damaged tells j cause (ap Err was) in
    let wrong : IsWrongLog n place (image_at images place 0) cause = subst (λ (k : ℕ). IsWrongLog k place (image_at images place 0) cause) so.many
    (subst (λ (is : List Image). IsWrongLog (length c.logs.disks) place (image_at is place 0) cause) (so.reads tells) told.1) in
    first_wrong n j place images c.logs.logs.items cause (length-map c.args.disks.now g.D.Disk.reads) so.count (omega arith) (so.read tells) (told.0, wrong)

pub logs-preserved : goal.logs-preserved
logs-preserved g c =
    let so = c.logs.invariant in
    let n = length c.args.disks.now in
    let images = map g.D.Disk.reads c.args.disks.now in
    let place = c.logs.place in
    let items = c.logs.logs.items in
    let l = c.in_ok-log.log in
    let first = map g.D.Disk.leaves c.args.disks.now in
    let old = map g.D.Disk.leaves c.logs.disks in
    let new = map g.D.Disk.leaves c.read_at.new.disks in
    let pushed : c.push.new.self.items ≡ items ++ l ∷ [] = c.in_ok-push.ensures.items in
    record {
      window = c.read_at.auto.window ∙ so.window;
      many = c.read_at.ensures.many ∙ so.many;
      count = ap (λ (k : List ChannelLog). length k) pushed ∙ omega (arith, length_push items l, so.count);
      are_open = subst (AreLogsOpen n) (sym pushed) (open_more n place items l so.count so.are_open (subst (λ (k : ℕ). IsLogOpen k place l) so.many c.in_ok-log.ensures.open_));
      read = λ tells. subst (AreLogsRead n images) (sym pushed) (read_more n place images items l so.count (so.read tells)
          (subst (λ (k : ℕ). IsLogRead k place (image_at images place) l) so.many
          (subst (λ (is : List Image). IsLogRead (length c.logs.disks) place (image_at is place) l) (so.reads tells) (c.in_ok-log.ensures.read tells))));
      synced = λ tells. synced_more place 0 images old new (so.synced tells) (c.read_at.ensures.leaves tells)
          (subst (λ (is : List Image). Only (image_at is place 0) (leaves_at new place 0)) (so.reads tells) (c.in_ok-log.ensures.synced tells));
      reads = λ tells. c.read_at.ensures.reads tells ∙ so.reads tells;
      leaves = λ tells. no_more_still first old new (so.leaves tells) (c.read_at.ensures.leaves tells);
      calm = c.in_ok-log.ensures.calm ∙ so.calm;
    }
