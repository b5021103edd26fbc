-- What the file held stays, in what is read and in each image.
use Rattle.std.proofs.Common.{inr, IsTrue, sym, subst, ◌∙◌}
use Rattle.store_io.specs.Disk.{Only, OthersStay}
use Rattle.gated_log.specs.Log.{payloads_of, Each, IsLogOf}
use Rattle.gated_log.specs.Of.{IsOf}
use Rattle.plain_storage.specs.Finishing.{IsSameLog}
use Rattle.plain_storage.proofs.Finished.{image_same}
use Rattle.plain_storage.proofs.finishing.finish_log.Goals as goal

pub returns-clause-open_log : goal.returns-clause-open_log
returns-clause-open_log g c told file is = record {
  file_is = c.in_ok-log.ensures.file.0 ∙ is;
  header_is = c.in_ok-log.ensures.file.1;
  is = subst (λ f. IsOf c.in_ok-log.log (g.D.Disk.reads c.finish.new.disk f)) is (c.in_ok-log.ensures.of_disk told);
}

pub returns-clause-same : goal.returns-clause-same
returns-clause-same g c told file is =
    let opening = c.args.opening in
    let new = g.D.Disk.reads c.finish.new.disk opening.file in
    let log : IsLogOf opening.header (payloads_of new) new = subst (λ h. IsLogOf h (payloads_of new) new) c.in_ok-log.ensures.file.1 (c.in_ok-log.ensures.of_disk told).is in
    subst (λ f. IsSameLog opening.header (g.D.Disk.reads c.args.disk.now f) (g.D.Disk.reads c.finish.new.disk f)) is (record { payloads = c.in_ok-log.ensures.same told; log = inr log })

pub returns-clause-clean : goal.returns-clause-clean
returns-clause-clean g c told file is clean =
    let before = subst (λ f. Only (g.D.Disk.reads c.args.disk.now f) (g.D.Disk.leaves c.args.disk.now f)) (sym is) clean in
    subst (λ f. Only (g.D.Disk.reads c.finish.new.disk f) (g.D.Disk.leaves c.finish.new.disk f)) is (c.in_ok-log.ensures.clean told before)

pub returns-clause-stop : goal.returns-clause-stop
returns-clause-stop g c told file is clean =
    let opening = c.args.opening in
    let old = g.D.Disk.reads c.args.disk.now opening.file in
    let before = subst (λ f. Only (g.D.Disk.reads c.args.disk.now f) (g.D.Disk.leaves c.args.disk.now f)) (sym is) clean in
    subst (λ f. Each (g.D.Disk.leaves c.finish.new.disk f) (IsSameLog opening.header (g.D.Disk.reads c.args.disk.now f))) is
    (λ image left. image_same opening.header old image opening.len (c.requires.log told) (c.finish.ensures.stop told before image left)
    (λ long. before image (subst (λ d. IsTrue (g.D.Disk.leaves d opening.file image)) (c.finish.ensures.untouched long) left))
    (λ short. c.finish.ensures.short told before short image left))

pub returns-clause-others : goal.returns-clause-others
returns-clause-others g c told file is =
    subst (λ f. OthersStay f (g.D.Disk.reads c.args.disk.now) (g.D.Disk.reads c.finish.new.disk) (g.D.Disk.leaves c.args.disk.now) (g.D.Disk.leaves c.finish.new.disk)) is (c.finish.ensures.others told)

pub returns-in_err-log-clause-stop : goal.returns-in_err-log-clause-stop
returns-in_err-log-clause-stop g c told file is clean =
    let opening = c.args.opening in
    let old = g.D.Disk.reads c.args.disk.now opening.file in
    let before = subst (λ f. Only (g.D.Disk.reads c.args.disk.now f) (g.D.Disk.leaves c.args.disk.now f)) (sym is) clean in
    subst (λ f. Each (g.D.Disk.leaves c.finish.new.disk f) (IsSameLog opening.header (g.D.Disk.reads c.args.disk.now f))) is
    (λ image left. image_same opening.header old image opening.len (c.requires.log told) (c.finish.ensures.stop told before image left)
    (λ long. before image (subst (λ d. IsTrue (g.D.Disk.leaves d opening.file image)) (c.finish.ensures.untouched long) left))
    (λ short. c.finish.ensures.short told before short image left))

pub returns-in_err-log-clause-others : goal.returns-in_err-log-clause-others
returns-in_err-log-clause-others g c told file is =
    subst (λ f. OthersStay f (g.D.Disk.reads c.args.disk.now) (g.D.Disk.reads c.finish.new.disk) (g.D.Disk.leaves c.args.disk.now) (g.D.Disk.leaves c.finish.new.disk)) is (c.finish.ensures.others told)
