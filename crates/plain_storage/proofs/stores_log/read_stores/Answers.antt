-- The payloads of a log are read one by one.
use Rattle.std.proofs.Common.{inl, inr, ◌≡◌, ◌<◌, ◌+◌, [], ◌∷◌, length, take, ap, subst, sym, ◌∙◌, arith, refl, true}
use Rattle.graph_model.specs.Graph.{Graph}
use Rattle.gated_log.specs.Log.{IsNoLog}
use Rattle.gated_log.specs.Reading.{IsReading, rest_of}
use Rattle.plain_storage.specs.Reading.{AreStores, IsRightGraph, IsStorePayload}
use Rattle.plain_storage.specs.Stores.{payload_of}
use Rattle.plain_storage.specs.declared.fault.OpenFault.TheVariants as open_
use Rattle.plain_storage.proofs.StoreLists.{stores_more, stores_end, first_store, stores_rest}
use Rattle.plain_storage.proofs.RightGraphs.{right_start, right_more}
use Rattle.plain_storage.proofs.LogFiles.{ended_file, within_at_start}
use Rattle.plain_storage.proofs.Opening.{fault_was, cut_of, same_fault}
use Rattle.plain_storage.proofs.stores_log.read_stores.Goals as goal

pub stores-init : goal.stores-init
stores-init g c =
    let number : 1 ≡ c.args.opening.now.count + 1 = omega (arith, c.requires.first) in
    let rest = rest_of c.args.opening.now (g.D.Disk.reads c.args.disk.now 0) in
    let empty : c.new-graph.result ≡ [] = c.new-graph.ensures in
    record {
      window = refl;
      file = c.requires.file;
      header = refl;
      within = λ told. within_at_start c.args.opening.now (g.D.Disk.reads c.args.disk.now 0) (c.requires.reading told) c.requires.first;
      right = subst (λ (h : Graph). IsRightGraph 1024 h) (sym empty) right_start;
      reading = c.requires.reading;
      so_far = λ told last new these. subst (λ (h : Graph). AreStores 1 1024 rest last h new) empty (subst (λ n. AreStores n 1024 rest last c.new-graph.result new) (sym number) these);
      left = λ told last new these. subst (λ n. AreStores n 1024 rest last c.new-graph.result new) number (subst (λ (h : Graph). AreStores 1 1024 rest last h new) (sym empty) these);
      reads = λ told. refl;
      leaves = λ told. refl;
      faults = omega arith;
    }

pub returns-in_err-n-clause-damaged : goal.returns-in_err-n-clause-damaged
returns-in_err-n-clause-damaged g c told is =
    let so = c.stores.invariant in
    let e = c.in_err-n.field-0.0 in
    let opening = c.stores.opening in
    let file = g.D.Disk.reads c.args.disk.now 0 in
    let damaged = fault_was c.from_residual.result e c.from_residual.ensures.1 is in
    inl (cut_of e ((9 < length file) × IsNoLog c.args.opening.now.header file) damaged (λ h. c.in_err-n.ensures.not_header (cc))
    (λ at cut.
    let here = c.in_err-n.ensures.cut_no_log told at (cc) in
    let at_file = subst (λ f. IsNoLog opening.header (g.D.Disk.reads c.stores.disk f)) so.file here in
    let at_start = subst (λ r. IsNoLog opening.header (r 0)) (so.reads told) at_file in
    let long = subst (λ r. 9 < length (r 0)) (so.reads told) (subst (λ f. 9 < length (g.D.Disk.reads c.stores.disk f)) so.file (c.in_err-n.ensures.cut_at told at (cc)).0) in
    (long, subst (λ h. IsNoLog h file) so.header at_start)))

pub returns-in_err-next_id-clause-damaged : goal.returns-in_err-next_id-clause-damaged
returns-in_err-next_id-clause-damaged g c told is =
    let so = c.stores.invariant in
    let opening = c.stores.opening in
    let next_id = c.stores.next_id in
    let graph = c.stores.graph in
    let payload = take c.in-Some.n c.next.new.window in
    let rest = rest_of c.next.new.self (g.D.Disk.reads c.stores.disk 0) in
    let parts = subst (λ f. rest_of opening (g.D.Disk.reads c.stores.disk f) ≡ payload ∷ rest_of c.next.new.self (g.D.Disk.reads c.stores.disk f)) so.file (rw c.in-Some.is at (c.in_ok-n.ensures.some told)) in
    let number : c.count.result ≡ opening.count + 1 = c.count.ensures ∙ rw c.in-Some.is at c.in_ok-n.ensures.counted in
    let was = same_fault c.from_residual-in_err-next_id.result c.in_err-next_id.field-0.0 open_.Damaged c.from_residual-in_err-next_id.ensures.1 is in
    inr (λ last new these.
    let first = first_store (opening.count + 1) next_id last payload rest graph new (subst (λ ps. AreStores (opening.count + 1) next_id ps last graph new) parts (so.left told last new these)) in
    c.in_err-next_id.ensures.damaged (cc) first.store first.follows (first.spelled ∙ ap (λ n. payload_of n first.store) (sym number)))

pub stores-preserved : goal.stores-preserved
stores-preserved g c =
    let so = c.stores.invariant in
    let opening = c.stores.opening in
    let before = c.stores.next_id in
    let graph = c.stores.graph in
    let payload = take c.in-Some.n c.next.new.window in
    let next = c.in_ok-next_id.next_id in
    let mid = c.read_store.new.graph in
    let number : c.count.result ≡ opening.count + 1 = c.count.ensures ∙ rw c.in-Some.is at c.in_ok-n.ensures.counted in
    let onward : c.next.new.self.count + 1 ≡ (opening.count + 1) + 1 = let counted = rw c.in-Some.is at c.in_ok-n.ensures.counted in omega (arith, counted) in
    let read : IsStorePayload (opening.count + 1) before payload next graph mid = subst (λ n. IsStorePayload n before payload next graph mid) number c.in_ok-next_id.ensures.read in
    record {
      window = c.next.auto.window ∙ so.window;
      file = c.next.ensures.file ∙ so.file;
      header = c.next.ensures.header ∙ so.header;
      within = λ told long. (rw c.in-Some.is at c.in_ok-n.ensures.onward).1;
      right = right_more (opening.count + 1) before next payload graph mid so.right read;
      reading = λ told. subst (λ f. IsReading c.next.new.self (g.D.Disk.reads c.next.new.disk f)) so.file (c.next.ensures.reading told);
      so_far = λ told last new these.
          let rest = rest_of c.next.new.self (g.D.Disk.reads c.stores.disk 0) in
          let parts = subst (λ f. rest_of opening (g.D.Disk.reads c.stores.disk f) ≡ payload ∷ rest_of c.next.new.self (g.D.Disk.reads c.stores.disk f)) so.file (rw c.in-Some.is at (c.in_ok-n.ensures.some told)) in
          let others = subst (λ n. AreStores n next rest last mid new) onward
          (subst (λ r. AreStores (c.next.new.self.count + 1) next (rest_of c.next.new.self (r 0)) last mid new) (c.next.ensures.reads told) these) in
          so.so_far told last new (subst (λ ps. AreStores (opening.count + 1) before ps last graph new) (sym parts)
          (stores_more (opening.count + 1) before next last payload rest graph mid new read others));
      left = λ told last new these.
          let rest = rest_of c.next.new.self (g.D.Disk.reads c.stores.disk 0) in
          let parts = subst (λ f. rest_of opening (g.D.Disk.reads c.stores.disk f) ≡ payload ∷ rest_of c.next.new.self (g.D.Disk.reads c.stores.disk f)) so.file (rw c.in-Some.is at (c.in_ok-n.ensures.some told)) in
          let others = stores_rest (opening.count + 1) before next last payload rest graph mid new read
          (subst (λ ps. AreStores (opening.count + 1) before ps last graph new) parts (so.left told last new these)) in
          subst (λ r. AreStores (c.next.new.self.count + 1) next (rest_of c.next.new.self (r 0)) last mid new) (sym (c.next.ensures.reads told))
          (subst (λ n. AreStores n next rest last mid new) (sym onward) others);
      reads = λ told. c.next.ensures.reads told ∙ so.reads told;
      leaves = λ told. c.next.ensures.leaves told ∙ so.leaves told;
      faults = omega (arith, so.faults, c.next.ensures.faults);
    }

pub returns-clause-read : goal.returns-clause-read
returns-clause-read g c told =
    let so = c.stores.invariant in
    let next_id = c.stores.next_id in
    let graph = c.stores.graph in
    let none = subst (λ f. rest_of c.stores.opening (g.D.Disk.reads c.stores.disk f) ≡ []) so.file (rw c.in_default.is at (c.in_ok-n.ensures.none told)) in
    so.so_far told next_id graph
    (subst (λ ps. AreStores (c.stores.opening.count + 1) next_id ps next_id graph graph) (sym none) (stores_end (c.stores.opening.count + 1) next_id graph))

pub returns-clause-log : goal.returns-clause-log
returns-clause-log g c told =
    let so = c.stores.invariant in
    let file = g.D.Disk.reads c.args.disk.now 0 in
    let after = c.next.new.self in
    let ended : after ≡ record c.stores.opening { ended = true } = rw c.in_default.is at c.in_ok-n.ensures.ended in
    let reading : IsReading after file =
    subst (λ r. IsReading after (r 0)) (c.next.ensures.reads told ∙ so.reads told) (subst (λ f. IsReading after (g.D.Disk.reads c.next.new.disk f)) so.file (c.next.ensures.reading told)) in
    ended_file c.args.opening.now.header c.stores.opening after file ended reading so.header (so.within told)
