use Rattle.std.proofs.Common.{◌≡◌, ◌≤◌, ◌++◌, IsTrue, length, ℕ, List}
use Rattle.workload.specs.Lines.{script}
use Rattle.store_run.specs.Run.{EndsLine}
use Rattle.store_run.specs.Scripts.{text_of}
use Rattle.store_run.proofs.generating.generate.Given as goal

-- whole lines were put, and these and the lines that are left are the script
abbrev pub invariant-lines : goal.invariant-lines
invariant-lines g l = record {
  put : IsTrue g.K.Sink.tells → (done : List ℕ) × (g.K.Sink.written l.sink ≡ g.K.Sink.written l.fn.sink ++ done) × EndsLine done × (text_of (script l.fn.lines l.fn.number) ≡ done ++ text_of l.generator);
  faults : g.K.Sink.faults l.fn.sink ≤ g.K.Sink.faults l.sink;
}

abbrev pub decreases-lines : goal.decreases-lines
decreases-lines g l = length l.generator
