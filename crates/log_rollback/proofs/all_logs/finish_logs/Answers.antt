-- The logs are taken back by rising channel.
use Rattle.std.proofs.Common.{◌≡◌, ◌∙◌, ℕ, ◌+◌, List, [], ◌∷◌, ◌++◌, Err, drop, length, map, refl, sym, ap, subst, arith}
use Rattle.std.specs.Vec.Iter.{into_iter_items}
use Rattle.std.proofs.lemmas.List.{length-map, length_push}
use Rattle.store_io.specs.Disk.{Only}
use Rattle.gated_log.specs.Log.{Each, payloads_of}
use Rattle.transactions_file.specs.Transactions.{Transactions}
use Rattle.channel.specs.Images.{Image, log_header, state_of}
use Rattle.recovery.specs.Images.{image_at}
use Rattle.disk_opening.specs.declared.logs.ChannelLog.{ChannelLog}
use Rattle.store_opening.specs.Left.{Leaves, leaves_at}
use Rattle.store_opening.specs.LogsRead.{IsLogOpen, IsLogRead}
use Rattle.store_opening.specs.TakenBack.{IsTakenBack}
use Rattle.store_opening.specs.declared.fault.OpenFault.TheVariants.{Full}
use Rattle.store_opening.proofs.LogsSoFar.{same_fault}
use Rattle.store_opening.proofs.SyncedDisks.{none_at_first}
use Rattle.log_rollback.specs.Finished.{AreOpenAt, HasHeader, HaveHeaders, IsFinished, IsOpenAt}
use Rattle.log_rollback.specs.Full.{IsFullAt}
use Rattle.log_rollback.proofs.Agreed.{agrees_at, if_err_any, left_at_first, next_item, number_held}
use Rattle.log_rollback.proofs.LogsSoFar.{below_more, finished_at_first, finished_more, finished_on, full_first, full_now, headers_more, left_first, left_on, open_more, others_on, read_first, synced_at_first, synced_more, untouched_on}
use Rattle.log_rollback.proofs.all_logs.finish_logs.Goals as goal

pub logs-init : goal.logs-init
logs-init g c =
    let none : c.new-finished.result.items ≡ [] = c.new-finished.ensures.items in
    let n = length c.args.disks.now in
    let images = map g.D.Disk.reads c.args.disks.now in
    record {
      many = refl;
      count = ap (λ (l : List Transactions). length l) none;
      rest = refl;
      untouched = λ i le. refl;
      headers = none_at_first (λ (j : ℕ) (t : Transactions). HasHeader (log_header n j) t) c.new-finished.result.items none;
      are_open = λ tells. none_at_first (λ (j : ℕ) (t : Transactions). IsOpenAt c.args.common (image_at images j 0) t) c.new-finished.result.items none;
      done = λ tells. finished_at_first n c.args.common images images;
      synced = λ tells. synced_at_first 0 images (map g.D.Disk.leaves c.args.disks.now);
      left = λ tells. left_at_first n c.args.common images (map g.D.Disk.leaves c.args.disks.now) c.args.logs.items c.requires.many (c.requires.read tells) (c.requires.synced tells);
      others = λ tells j. record { reads = λ f ne. refl; leaves = λ f ne. refl };
      not_full = λ tells j below. absurd (omega arith);
      kept = λ tells what number hold. hold;
      calm = refl;
    }

pub finish_at-requires-clause-open_ : goal.finish_at-requires-clause-open_
finish_at-requires-clause-open_ g c =
    let so = c.logs.invariant in
    let next = next_item c.args.logs.items c.logs.place c.in-Some.log (into_iter_items c.next.new.self) (ap (λ (l : List ChannelLog). drop c.logs.place l) (sym c.into_iter-rest.ensures.rest) ∙ sym so.rest ∙ c.in-Some.ensures.items) in
    subst (λ (k : ℕ). IsLogOpen k c.logs.place c.in-Some.log) (sym so.many) (c.requires.open_ c.logs.place c.in-Some.log next.0)

pub finish_at-requires-clause-read : goal.finish_at-requires-clause-read
finish_at-requires-clause-read g c tells =
    let so = c.logs.invariant in
    let next = next_item c.args.logs.items c.logs.place c.in-Some.log (into_iter_items c.next.new.self) (ap (λ (l : List ChannelLog). drop c.logs.place l) (sym c.into_iter-rest.ensures.rest) ∙ sym so.rest ∙ c.in-Some.ensures.items) in
    let same = read_first g.D.Disk.reads g.D.Disk.leaves c.logs.place c.logs.disks c.logs.disks (λ i ne. refl) c.args.disks.now so.untouched in
    subst (λ (k : ℕ). IsLogRead k c.logs.place (image_at (map g.D.Disk.reads c.logs.disks) c.logs.place) c.in-Some.log) (sym so.many)
    (subst (λ (i : Image). IsLogRead (length c.args.disks.now) c.logs.place i c.in-Some.log) (sym same) (c.requires.read tells c.logs.place c.in-Some.log next.0))

pub finish_at-requires-clause-agrees : goal.finish_at-requires-clause-agrees
finish_at-requires-clause-agrees g c =
    let so = c.logs.invariant in
    let next = next_item c.args.logs.items c.logs.place c.in-Some.log (into_iter_items c.next.new.self) (ap (λ (l : List ChannelLog). drop c.logs.place l) (sym c.into_iter-rest.ensures.rest) ∙ sym so.rest ∙ c.in-Some.ensures.items) in
    agrees_at c.args.common c.args.logs.items c.logs.place c.in-Some.log c.requires.agreed.each next.0

pub finish_at-requires-clause-synced : goal.finish_at-requires-clause-synced
finish_at-requires-clause-synced g c tells =
    let so = c.logs.invariant in
    let place = c.logs.place in
    let read = read_first g.D.Disk.reads g.D.Disk.leaves place c.logs.disks c.logs.disks (λ i ne. refl) c.args.disks.now so.untouched in
    let left = left_first g.D.Disk.reads g.D.Disk.leaves place c.logs.disks c.logs.disks (λ i ne. refl) c.args.disks.now so.untouched in
    subst (λ (i : Image). Only (i 0) (leaves_at (map g.D.Disk.leaves c.logs.disks) place 0)) (sym read)
    (subst (λ (l : Leaves). Only (image_at (map g.D.Disk.reads c.args.disks.now) place 0) (l 0)) (sym left) (c.requires.synced tells place (omega (arith, so.many))))

pub returns-in_err-transactions-clause-left : goal.returns-in_err-transactions-clause-left
returns-in_err-transactions-clause-left g c tells =
    let so = c.logs.invariant in
    let place = c.logs.place in
    left_on g.D.Disk.reads g.D.Disk.leaves place c.logs.disks c.finish_at.new.disks c.finish_at.ensures.elsewhere c.args.disks.now so.untouched (length c.args.disks.now) c.args.common (so.left tells)
    (subst (λ (k : ℕ). Each (leaves_at (map g.D.Disk.leaves c.finish_at.new.disks) place 0) (IsTakenBack (log_header k place) c.args.common (state_of (image_at (map g.D.Disk.reads c.logs.disks) place)) (payloads_of (image_at (map g.D.Disk.reads c.logs.disks) place 0))))
    so.many (c.finish_at.ensures.left tells))

pub returns-in_err-push-clause-left : goal.returns-in_err-push-clause-left
returns-in_err-push-clause-left g c tells =
    let so = c.logs.invariant in
    let place = c.logs.place in
    left_on g.D.Disk.reads g.D.Disk.leaves place c.logs.disks c.finish_at.new.disks c.finish_at.ensures.elsewhere c.args.disks.now so.untouched (length c.args.disks.now) c.args.common (so.left tells)
    (subst (λ (k : ℕ). Each (leaves_at (map g.D.Disk.leaves c.finish_at.new.disks) place 0) (IsTakenBack (log_header k place) c.args.common (state_of (image_at (map g.D.Disk.reads c.logs.disks) place)) (payloads_of (image_at (map g.D.Disk.reads c.logs.disks) place 0))))
    so.many (c.finish_at.ensures.left tells))

pub returns-in_err-transactions-clause-others : goal.returns-in_err-transactions-clause-others
returns-in_err-transactions-clause-others g c tells =
    let so = c.logs.invariant in
    others_on g.D.Disk.reads g.D.Disk.leaves c.logs.place c.logs.disks c.finish_at.new.disks c.finish_at.ensures.elsewhere c.args.disks.now so.untouched (so.others tells) (c.finish_at.ensures.others tells)

pub returns-in_err-push-clause-others : goal.returns-in_err-push-clause-others
returns-in_err-push-clause-others g c tells =
    let so = c.logs.invariant in
    others_on g.D.Disk.reads g.D.Disk.leaves c.logs.place c.logs.disks c.finish_at.new.disks c.finish_at.ensures.elsewhere c.args.disks.now so.untouched (so.others tells) (c.finish_at.ensures.others tells)

pub returns-in_err-transactions-clause-kept : goal.returns-in_err-transactions-clause-kept
returns-in_err-transactions-clause-kept g c tells what hold =
    let number = number_held g.D.Disk.reads g.D.Disk.leaves (λ d f. g.met.D.Disk.reads_left d f tells) c.args.disks.now c.args.common c.args.logs.items c.requires.many (c.requires.read tells) c.requires.agreed what hold in
    c.finish_at.ensures.kept tells what number (c.logs.invariant.kept tells what number hold)

pub returns-in_err-push-clause-kept : goal.returns-in_err-push-clause-kept
returns-in_err-push-clause-kept g c tells what hold =
    let number = number_held g.D.Disk.reads g.D.Disk.leaves (λ d f. g.met.D.Disk.reads_left d f tells) c.args.disks.now c.args.common c.args.logs.items c.requires.many (c.requires.read tells) c.requires.agreed what hold in
    c.finish_at.ensures.kept tells what number (c.logs.invariant.kept tells what number hold)

pub returns-clause-kept : goal.returns-clause-kept
returns-clause-kept g c tells what hold =
    let number = number_held g.D.Disk.reads g.D.Disk.leaves (λ d f. g.met.D.Disk.reads_left d f tells) c.args.disks.now c.args.common c.args.logs.items c.requires.many (c.requires.read tells) c.requires.agreed what hold in
    c.logs.invariant.kept tells what number hold

pub returns-in_err-transactions-clause-stops : goal.returns-in_err-transactions-clause-stops
returns-in_err-transactions-clause-stops g c =
    let so = c.logs.invariant in
    let place = c.logs.place in
    let away = c.finish_at.ensures.elsewhere in
    if_err_any c.from_residual.result _ (
      place,
      omega (arith, so.many),
      untouched_on g.D.Disk.reads g.D.Disk.leaves place c.logs.disks c.finish_at.new.disks away c.args.disks.now so.untouched,
      λ tells. finished_on g.D.Disk.reads g.D.Disk.leaves place c.logs.disks c.finish_at.new.disks away (length c.args.disks.now) c.args.common (map g.D.Disk.reads c.args.disks.now) (so.done tells),
    )

pub returns-in_err-push-clause-stops : goal.returns-in_err-push-clause-stops
returns-in_err-push-clause-stops g c =
    let so = c.logs.invariant in
    let place = c.logs.place in
    let away = c.finish_at.ensures.elsewhere in
    if_err_any c.from_residual-in_err-push.result _ (
      place,
      omega (arith, so.many),
      untouched_on g.D.Disk.reads g.D.Disk.leaves place c.logs.disks c.finish_at.new.disks away c.args.disks.now so.untouched,
      λ tells. finished_on g.D.Disk.reads g.D.Disk.leaves place c.logs.disks c.finish_at.new.disks away (length c.args.disks.now) c.args.common (map g.D.Disk.reads c.args.disks.now) (so.done tells),
    )

pub returns-in_err-transactions-clause-full : goal.returns-in_err-transactions-clause-full
returns-in_err-transactions-clause-full g c tells bytes is =
    let so = c.logs.invariant in
    let mid = c.logs.disks in
    let first = c.args.disks.now in
    let was = same_fault c.from_residual.result c.in_err-transactions.field-0.0 (Full bytes) c.from_residual.ensures.1 is in
    let full = c.in_err-transactions.ensures.full tells bytes (ap Err was) in
    record {
      channel = c.logs.place;
      full = full_first g.D.Disk.reads g.D.Disk.leaves c.logs.place mid mid (λ i ne. refl) first so.untouched c.args.common bytes so.many (length-map mid g.D.Disk.reads) (length-map first g.D.Disk.reads) full;
      front = λ i more below. so.not_full tells i below more;
    }

pub returns-clause-not_full : goal.returns-clause-not_full
returns-clause-not_full g c tells j bytes full = c.logs.invariant.not_full tells j (omega (arith, full.within, length-map c.args.disks.now g.D.Disk.reads, c.logs.invariant.many)) bytes full

pub logs-preserved : goal.logs-preserved
logs-preserved g c =
    let so = c.logs.invariant in
    let place = c.logs.place in
    let n = length c.args.disks.now in
    let m = c.args.common in
    let first = c.args.disks.now in
    let mid = c.logs.disks in
    let new = c.finish_at.new.disks in
    let away = c.finish_at.ensures.elsewhere in
    let reads = g.D.Disk.reads in
    let leaves = g.D.Disk.leaves in
    let images = map reads mid in
    let items = c.logs.finished.items in
    let t = c.in_ok-transactions.transactions in
    let ok = c.in_ok-transactions.ensures in
    let pushed : c.push.new.self.items ≡ items ++ t ∷ [] = c.in_ok-push.ensures.items in
    let next = next_item c.args.logs.items place c.in-Some.log (into_iter_items c.next.new.self) (ap (λ (l : List ChannelLog). drop place l) (sym c.into_iter-rest.ensures.rest) ∙ sym so.rest ∙ c.in-Some.ensures.items) in
    record {
      many = c.finish_at.ensures.many ∙ so.many;
      count = ap (λ (k : List Transactions). length k) pushed ∙ omega (arith, length_push items t, so.count);
      rest = next.1 ∙ ap (λ (l : List ChannelLog). drop (place + 1) l) (sym c.into_iter-rest.ensures.rest);
      untouched = untouched_on reads leaves place mid new away first so.untouched;
      headers = subst (HaveHeaders n) (sym pushed) (headers_more n place items t so.count so.headers (subst (λ (k : ℕ). HasHeader (log_header k place) t) so.many ok.header));
      are_open = λ tells. subst (AreOpenAt m (map reads new)) (sym pushed) (open_more reads leaves place mid new away m items t so.count (so.are_open tells) (ok.open_ tells));
      done = λ tells. finished_more reads leaves place mid new away first so.untouched n m (so.done tells)
          (subst (λ (k : ℕ). IsFinished (log_header k place) m (state_of (image_at images place)) (payloads_of (image_at images place 0)) (image_at (map reads new) place 0)) so.many (ok.finished tells));
      synced = λ tells. synced_more reads leaves place mid new away (so.synced tells) (ok.synced tells);
      left = λ tells. left_on reads leaves place mid new away first so.untouched n m (so.left tells)
          (subst (λ (k : ℕ). Each (leaves_at (map leaves new) place 0) (IsTakenBack (log_header k place) m (state_of (image_at images place)) (payloads_of (image_at images place 0)))) so.many (c.finish_at.ensures.left tells));
      others = λ tells. others_on reads leaves place mid new away first so.untouched (so.others tells) (c.finish_at.ensures.others tells);
      not_full = λ tells. below_more (λ j. (bytes : ℕ) → IsFullAt m (map reads first) j bytes → ⊥) place (so.not_full tells)
          (λ bytes full. ok.not_full tells bytes (full_now reads leaves place mid mid (λ i ne. refl) first so.untouched m bytes so.many (length-map mid reads) (length-map first reads) full));
      kept = λ tells what number hold. c.finish_at.ensures.kept tells what number (so.kept tells what number hold);
      calm = ok.calm ∙ so.calm;
    }
