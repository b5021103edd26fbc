use Rattle.std.proofs.Common.{◌++◌, ap, ◌∙◌, sym, List, ℕ, Some, take, arith, append_assoc}
use Rattle.workload.specs.Lines.{IsNext, script}
use Rattle.store_run.specs.Scripts.{text_of}
use Rattle.store_run.proofs.ScriptFronts.{cut_in_line, ends_with_next, next_in_front}
use Rattle.store_run.proofs.generating.generate.Goals as goal

pub returns-in-Err-put-clause-answered : goal.returns-in-Err-put-clause-answered
returns-in-Err-put-clause-answered g c = λ tells.
    let inv = c.lines.invariant.put tells in
    let cut = c.in-Err-put.ensures.err tells in
    let next = next_in_front c.lines.generator c.next.new.self _ (rw c.in-Ok-Some.field-0-is at c.in-Ok-Some.ensures.next) in
    cut_in_line (g.K.Sink.written c.args.sink.now) (g.K.Sink.written c.lines.sink) _ (text_of (script c.args.lines c.args.number)) inv.0 _ (text_of c.next.new.self) cut.0 inv.1 (inv.3 ∙ ap (λ (l : List ℕ). inv.0 ++ l) next)
    (cut.2 ∙ ap (λ (l : List ℕ). g.K.Sink.written c.lines.sink ++ take cut.0 l) c.as_slice.ensures)

pub lines-preserved : goal.lines-preserved
lines-preserved g c =
    let line = c.in-Ok-Some.line in
    let next : IsNext c.lines.generator (Some line) c.next.new.self = rw c.in-Ok-Some.field-0-is at c.in-Ok-Some.ensures.next in
    record {
      put = λ tells.
          let inv = c.lines.invariant.put tells in (
            inv.0 ++ line,
            c.in-Ok.ensures.ok tells ∙ (ap (λ (l : List ℕ). g.K.Sink.written c.lines.sink ++ l) c.as_slice.ensures ∙ (ap (λ (w : List ℕ). w ++ line) inv.1 ∙ append_assoc (g.K.Sink.written c.args.sink.now) inv.0 line)),
            ends_with_next inv.0 c.lines.generator c.next.new.self line next,
            inv.3 ∙ (ap (λ (l : List ℕ). inv.0 ++ l) (next_in_front c.lines.generator c.next.new.self line next) ∙ sym (append_assoc inv.0 line (text_of c.next.new.self))),
          );
      faults = omega (arith, c.lines.invariant.faults, c.put.ensures.faults);
    }
