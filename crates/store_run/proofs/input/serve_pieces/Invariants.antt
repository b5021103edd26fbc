-- The pieces of a source are served one by one.
use Rattle.std.proofs.Common.{◌≡◌, ◌≤◌, ◌-◌, ◌++◌, [], ℕ, List, IsTrue, length}
use Rattle.session_model.specs.Answer.{State}
use Rattle.plain_storage.specs.Held.{PlainHeld}
use Rattle.plain_storage.specs.Images.{AreClean, OtherFilesStay}
use Rattle.plain_storage.specs.Keeping.{AreOpen}
use Rattle.store_run.specs.Progress.{IsServed, StandsBehind}
use Rattle.store_run.specs.Serving.{IsAt}
use Rattle.store_run.proofs.input.serve_pieces.Given as goal

abbrev pub invariant-loop-taken : goal.invariant-loop-taken
invariant-loop-taken g l = record {
  buf : length l.buf ≡ length l.initial.buf;
  within : l.taken ≤ 268435456;
  at_ : (now : State) × IsAt l.session l.plain now;
  logs : IsTrue g.D.Disk.tells → AreOpen l.plain (g.D.Disk.reads l.disk);
  clean : IsTrue g.D.Disk.tells → AreClean (g.D.Disk.reads l.initial.disk) (g.D.Disk.leaves l.initial.disk) → AreClean (g.D.Disk.reads l.disk) (g.D.Disk.leaves l.disk);
  others : IsTrue g.D.Disk.tells → OtherFilesStay (g.D.Disk.reads l.initial.disk) (g.D.Disk.reads l.disk) (g.D.Disk.leaves l.initial.disk) (g.D.Disk.leaves l.disk);
  so_far : IsTrue g.S.Source.tells → (read : List ℕ) × (length read ≡ l.taken) × (g.S.Source.left l.initial.source ≡ read ++ g.S.Source.left l.source)
      × (IsTrue g.K.Sink.tells → IsTrue g.D.Disk.tells → (start : PlainHeld) → StandsBehind start [] l.initial.session l.initial.plain (g.D.Disk.reads l.initial.disk)
      → IsServed start l.session l.plain (g.D.Disk.reads l.disk) read l.unended.items (g.K.Sink.written l.initial.sink) (g.K.Sink.written l.sink));
  source_faults : g.S.Source.faults l.initial.source ≤ g.S.Source.faults l.source;
  sink_faults : g.K.Sink.faults l.initial.sink ≤ g.K.Sink.faults l.sink;
  disk_faults : g.D.Disk.faults l.initial.disk ≤ g.D.Disk.faults l.disk;
}

abbrev pub decreases-loop-taken : goal.decreases-loop-taken
decreases-loop-taken g l = 268435456 - l.taken
