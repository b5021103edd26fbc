-- The opening's fields are those that its value shows, and one payload was read.
use Rattle.std.proofs.Common.{◌≡◌, ◌+◌, ◌<◌, ◌∷◌, ◌++◌, false, length, take, drop, slice_index, ap, subst, sym, ◌∙◌, arith}
use Rattle.gated_log.specs.Log.{sized, is_whole, IsLogOf}
use Rattle.gated_log.specs.Reading.{IsReading, rest_of}
use Rattle.gated_log.specs.State.{OpeningState}
use Rattle.gated_log.proofs.Records.{moved, rest_on, reading_on, reading_at}
use Rattle.gated_log.proofs.CutShortLogs.{no_log}
use Rattle.gated_log.proofs.opening.Opening.next.Goals as goal

pub returns-in-Some-clause-some : goal.returns-in-Some-clause-some
returns-in-Some-clause-some g c told =
    let o = c.self.inside in
    let size = c.in-Some.size in
    let payload = take size c.payload_at.new.window in
    let bytes = g.D.Disk.reads c.args.disk.now o.file in
    let reading = subst (λ (v : OpeningState). IsReading v (g.D.Disk.reads c.args.disk.now v.file)) (sym c.self.view_is) (c.requires.reading told) in
    let long : 9 < length bytes = omega (arith, reading.len, c.if-self-le9.false) in
    let within : o.at < length bytes = omega (arith, reading.len, c.self.invariant.1, c.if-self-le9.false) in
    let one : slice_index bytes o.at ≡ 1 = sym (c.in_ok-gate_at.ensures.value told) ∙ c.if-branch-ne-OPEN.false in
    let here = subst (λ r. drop (o.at + 1) (r o.file) ≡ sized payload ++ drop (o.at + 1 + (4 + size)) (r o.file)) (c.gate_at.ensures.reads told) (rw c.in-Some.is at (c.in_ok-size.ensures.some told)) in
    let exact = rw c.in-Some.is at c.in_ok-size.ensures.long in
    let fits = rw c.in-Some.is at c.in_ok-size.ensures.fits in
    let was : OpeningState = record { file = o.file; header = o.header; len = o.len; at = o.at; count = o.count; ended = o.ended } in
    subst (λ (v : OpeningState). rest_of v (g.D.Disk.reads c.args.disk.now v.file) ≡ payload ∷ rest_of (moved was size) (g.D.Disk.reads c.args.disk.now v.file))
    c.self.view_is (rest_on _ bytes payload size reading long within one here exact fits.0 fits.1)

pub returns-in-Some-clause-reading : goal.returns-in-Some-clause-reading
returns-in-Some-clause-reading g c told =
    let o = c.self.inside in
    let size = c.in-Some.size in
    let payload = take size c.payload_at.new.window in
    let bytes = g.D.Disk.reads c.args.disk.now o.file in
    let reading = subst (λ (v : OpeningState). IsReading v (g.D.Disk.reads c.args.disk.now v.file)) (sym c.self.view_is) (c.requires.reading told) in
    let long : 9 < length bytes = omega (arith, reading.len, c.if-self-le9.false) in
    let within : o.at < length bytes = omega (arith, reading.len, c.self.invariant.1, c.if-self-le9.false) in
    let one : slice_index bytes o.at ≡ 1 = sym (c.in_ok-gate_at.ensures.value told) ∙ c.if-branch-ne-OPEN.false in
    let here = subst (λ r. drop (o.at + 1) (r o.file) ≡ sized payload ++ drop (o.at + 1 + (4 + size)) (r o.file)) (c.gate_at.ensures.reads told) (rw c.in-Some.is at (c.in_ok-size.ensures.some told)) in
    let exact = rw c.in-Some.is at c.in_ok-size.ensures.long in
    let fits = rw c.in-Some.is at c.in_ok-size.ensures.fits in
    let same : g.D.Disk.reads c.payload_at.new.disk ≡ g.D.Disk.reads c.args.disk.now = c.payload_at.ensures.reads told ∙ c.gate_at.ensures.reads told in
    let still : g.D.Disk.reads c.payload_at.new.disk c.args.self.now.file ≡ bytes =
    (λ i. same i c.args.self.now.file) ∙ ap (λ (v : OpeningState). g.D.Disk.reads c.args.disk.now v.file) (sym c.self.view_is) in
    reading_at _ _ _ still (reading_on _ bytes payload size reading long within one here exact fits.0 fits.1)

pub returns-in-None-clause-cut_no_log : goal.returns-in-None-clause-cut_no_log
returns-in-None-clause-cut_no_log g c told at is payloads log =
    let o = c.self.inside in
    let bytes = g.D.Disk.reads c.args.disk.now o.file in
    let reading = subst (λ (v : OpeningState). IsReading v (g.D.Disk.reads c.args.disk.now v.file)) (sym c.self.view_is) (c.requires.reading told) in
    let long : 9 < length bytes = omega (arith, reading.len, c.if-self-le9.false) in
    let within : o.at < length bytes = omega (arith, reading.len, c.self.invariant.1, c.if-self-le9.false) in
    let one : slice_index bytes o.at ≡ 1 = sym (c.in_ok-gate_at.ensures.value told) ∙ c.if-branch-ne-OPEN.false in
    let part = subst (λ r. is_whole (drop (o.at + 1) (r o.file)) ≡ false) (c.gate_at.ensures.reads told) (rw c.in-None.is at (c.in_ok-size.ensures.none told)) in
    no_log _ bytes reading long one within part payloads (subst (λ (v : OpeningState). IsLogOf v.header payloads (g.D.Disk.reads c.args.disk.now v.file)) (sym c.self.view_is) log)
