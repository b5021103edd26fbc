-- The log of stores is finished, and then the log of types.
use Rattle.std.proofs.Common.{◌≡◌, List, ℕ, sym, subst, arith}
use Rattle.store_io.specs.Disk.{Only}
use Rattle.gated_log.specs.Log.{payloads_of, Each}
use Rattle.gated_log.specs.Reading.{IsReading}
use Rattle.plain_storage.specs.Finishing.{IsSameLog}
use Rattle.plain_storage.specs.Logs.{IsLogFile, IsOpen}
use Rattle.plain_storage.specs.Stores.{plain_header}
use Rattle.plain_storage.specs.Types.{types_header}
use Rattle.plain_storage.proofs.Finished.{FinishesOne, apart, apart_too, stop_first, stop_both, others_first, others_both}
use Rattle.plain_storage.proofs.finishing.finish_logs.Goals as goal

pub returns-in_err-stores_log-clause-stop : goal.returns-in_err-stores_log-clause-stop
returns-in_err-stores_log-clause-stop g c told clean =
    let r = g.D.Disk.reads c.args.disk.now in
    let l1 = g.D.Disk.leaves c.finish_log.new.disk in
    let first : FinishesOne 0 plain_header r (g.D.Disk.reads c.finish_log.new.disk) (g.D.Disk.leaves c.args.disk.now) l1 = record {
      stop = λ only. subst (λ h. Each (l1 0) (IsSameLog h (r 0))) c.requires.stores.1 (c.finish_log.ensures.stop told 0 c.requires.stores.0 only);
      others = c.finish_log.ensures.others told 0 c.requires.stores.0;
    } in
    stop_first r (g.D.Disk.reads c.finish_log.new.disk) (g.D.Disk.leaves c.args.disk.now) l1 first (c.requires.logs told).types clean

pub returns-in_err-stores_log-clause-others : goal.returns-in_err-stores_log-clause-others
returns-in_err-stores_log-clause-others g c told =
    others_first (g.D.Disk.reads c.args.disk.now) (g.D.Disk.reads c.finish_log.new.disk) (g.D.Disk.leaves c.args.disk.now) (g.D.Disk.leaves c.finish_log.new.disk)
    (c.finish_log.ensures.others told 0 c.requires.stores.0)

pub finish_log-requires-2-clause-reading : goal.finish_log-requires-2-clause-reading
finish_log-requires-2-clause-reading g c told =
    let others = c.finish_log.ensures.others told 0 c.requires.stores.0 in
    subst (λ f. IsReading c.args.types (g.D.Disk.reads c.finish_log.new.disk f)) (sym c.requires.types.0)
    (subst (λ (file : List ℕ). IsReading c.args.types file) (sym (others.reads 1 (apart_too 0 1 (omega arith)))) (c.requires.reading told).1)

pub finish_log-requires-2-clause-log : goal.finish_log-requires-2-clause-log
finish_log-requires-2-clause-log g c told =
    let others = c.finish_log.ensures.others told 0 c.requires.stores.0 in
    subst (λ f. IsLogFile c.args.types.header (payloads_of (g.D.Disk.reads c.finish_log.new.disk f)) (g.D.Disk.reads c.finish_log.new.disk f)) (sym c.requires.types.0)
    (subst (λ (file : List ℕ). IsLogFile c.args.types.header (payloads_of file) file) (sym (others.reads 1 (apart_too 0 1 (omega arith))))
    (subst (λ (h : List ℕ). IsLogFile h (payloads_of (g.D.Disk.reads c.args.disk.now 1)) (g.D.Disk.reads c.args.disk.now 1)) (sym c.requires.types.1) (c.requires.logs told).types.log))

pub returns-in_err-types_log-clause-stop : goal.returns-in_err-types_log-clause-stop
returns-in_err-types_log-clause-stop g c told clean =
    let r = g.D.Disk.reads c.args.disk.now in
    let l = g.D.Disk.leaves c.args.disk.now in
    let r1 = g.D.Disk.reads c.finish_log.new.disk in
    let l1 = g.D.Disk.leaves c.finish_log.new.disk in
    let r2 = g.D.Disk.reads c.finish_log-2.new.disk in
    let l2 = g.D.Disk.leaves c.finish_log-2.new.disk in
    let first : FinishesOne 0 plain_header r r1 l l1 = record {
      stop = λ only. subst (λ h. Each (l1 0) (IsSameLog h (r 0))) c.requires.stores.1 (c.finish_log.ensures.stop told 0 c.requires.stores.0 only);
      others = c.finish_log.ensures.others told 0 c.requires.stores.0;
    } in
    let second : FinishesOne 1 types_header r1 r2 l1 l2 = record {
      stop = λ only. subst (λ h. Each (l2 1) (IsSameLog h (r1 1))) c.requires.types.1 (c.finish_log-2.ensures.stop told 1 c.requires.types.0 only);
      others = c.finish_log-2.ensures.others told 1 c.requires.types.0;
    } in
    stop_both r r1 r2 l l1 l2 first second clean

pub returns-in_err-types_log-clause-others : goal.returns-in_err-types_log-clause-others
returns-in_err-types_log-clause-others g c told =
    others_both (g.D.Disk.reads c.args.disk.now) (g.D.Disk.reads c.finish_log.new.disk) (g.D.Disk.reads c.finish_log-2.new.disk)
    (g.D.Disk.leaves c.args.disk.now) (g.D.Disk.leaves c.finish_log.new.disk) (g.D.Disk.leaves c.finish_log-2.new.disk)
    (c.finish_log.ensures.others told 0 c.requires.stores.0) (c.finish_log-2.ensures.others told 1 c.requires.types.0)

pub returns-clause-open_logs : goal.returns-clause-open_logs
returns-clause-open_logs g c told =
    let r1 = g.D.Disk.reads c.finish_log.new.disk in
    let r2 = g.D.Disk.reads c.finish_log-2.new.disk in
    let others = c.finish_log-2.ensures.others told 1 c.requires.types.0 in
    let stays : r2 0 ≡ r1 0 = others.reads 0 (apart 0 1 (omega arith)) in
    let stores : IsOpen 0 plain_header c.in_ok-stores_log.stores_log (r1 0) =
    subst (λ h. IsOpen 0 h c.in_ok-stores_log.stores_log (r1 0)) c.requires.stores.1 (c.in_ok-stores_log.ensures.open_log told 0 c.requires.stores.0) in (
      subst (λ (file : List ℕ). IsOpen 0 plain_header c.in_ok-stores_log.stores_log file) (sym stays) stores,
      subst (λ h. IsOpen 1 h c.in_ok-types_log.types_log (r2 1)) c.requires.types.1 (c.in_ok-types_log.ensures.open_log told 1 c.requires.types.0),
    )

pub returns-clause-same : goal.returns-clause-same
returns-clause-same g c told =
    let r = g.D.Disk.reads c.args.disk.now in
    let r1 = g.D.Disk.reads c.finish_log.new.disk in
    let r2 = g.D.Disk.reads c.finish_log-2.new.disk in
    let first = c.finish_log.ensures.others told 0 c.requires.stores.0 in
    let second = c.finish_log-2.ensures.others told 1 c.requires.types.0 in
    let stores : IsSameLog plain_header (r 0) (r1 0) = subst (λ h. IsSameLog h (r 0) (r1 0)) c.requires.stores.1 (c.in_ok-stores_log.ensures.same told 0 c.requires.stores.0) in
    let types : IsSameLog types_header (r1 1) (r2 1) = subst (λ h. IsSameLog h (r1 1) (r2 1)) c.requires.types.1 (c.in_ok-types_log.ensures.same told 1 c.requires.types.0) in
    record {
      stores = subst (λ (file : List ℕ). IsSameLog plain_header (r 0) file) (sym (second.reads 0 (apart 0 1 (omega arith)))) stores;
      types = subst (λ (file : List ℕ). IsSameLog types_header file (r2 1)) (first.reads 1 (apart_too 0 1 (omega arith))) types;
    }

pub returns-clause-clean : goal.returns-clause-clean
returns-clause-clean g c told clean =
    let r = g.D.Disk.reads c.args.disk.now in
    let r1 = g.D.Disk.reads c.finish_log.new.disk in
    let r2 = g.D.Disk.reads c.finish_log-2.new.disk in
    let l1 = g.D.Disk.leaves c.finish_log.new.disk in
    let first = c.finish_log.ensures.others told 0 c.requires.stores.0 in
    let second = c.finish_log-2.ensures.others told 1 c.requires.types.0 in
    let apart_0 = apart 0 1 (omega arith) in
    let apart_1 = apart_too 0 1 (omega arith) in
    let stores : Only (r1 0) (l1 0) = c.in_ok-stores_log.ensures.clean told 0 c.requires.stores.0 clean.stores in
    let types : Only (r1 1) (l1 1) = subst (λ file. Only file (l1 1)) (sym (first.reads 1 apart_1)) (subst (λ test. Only (r 1) test) (sym (first.leaves 1 apart_1)) clean.types) in
    record {
      stores = subst (λ test. Only (r2 0) test) (sym (second.leaves 0 apart_0)) (subst (λ file. Only file (l1 0)) (sym (second.reads 0 apart_0)) stores);
      types = c.in_ok-types_log.ensures.clean told 1 c.requires.types.0 types;
    }

pub returns-clause-stop : goal.returns-clause-stop
returns-clause-stop g c told clean =
    let r = g.D.Disk.reads c.args.disk.now in
    let l = g.D.Disk.leaves c.args.disk.now in
    let r1 = g.D.Disk.reads c.finish_log.new.disk in
    let l1 = g.D.Disk.leaves c.finish_log.new.disk in
    let r2 = g.D.Disk.reads c.finish_log-2.new.disk in
    let l2 = g.D.Disk.leaves c.finish_log-2.new.disk in
    let first : FinishesOne 0 plain_header r r1 l l1 = record {
      stop = λ only. subst (λ h. Each (l1 0) (IsSameLog h (r 0))) c.requires.stores.1 (c.finish_log.ensures.stop told 0 c.requires.stores.0 only);
      others = c.finish_log.ensures.others told 0 c.requires.stores.0;
    } in
    let second : FinishesOne 1 types_header r1 r2 l1 l2 = record {
      stop = λ only. subst (λ h. Each (l2 1) (IsSameLog h (r1 1))) c.requires.types.1 (c.finish_log-2.ensures.stop told 1 c.requires.types.0 only);
      others = c.finish_log-2.ensures.others told 1 c.requires.types.0;
    } in
    stop_both r r1 r2 l l1 l2 first second clean

pub returns-clause-others : goal.returns-clause-others
returns-clause-others g c told =
    others_both (g.D.Disk.reads c.args.disk.now) (g.D.Disk.reads c.finish_log.new.disk) (g.D.Disk.reads c.finish_log-2.new.disk)
    (g.D.Disk.leaves c.args.disk.now) (g.D.Disk.leaves c.finish_log.new.disk) (g.D.Disk.leaves c.finish_log-2.new.disk)
    (c.finish_log.ensures.others told 0 c.requires.stores.0) (c.finish_log-2.ensures.others told 1 c.requires.types.0)
