-- The bytes of a piece are served one by one.
use Rattle.std.proofs.Common.{◌≤◌, IsTrue, take}
use Rattle.session_model.specs.Answer.{State}
use Rattle.plain_storage.specs.Images.{AreClean, OtherFilesStay}
use Rattle.plain_storage.specs.Keeping.{AreOpen}
use Rattle.store_run.specs.Progress.{Serves}
use Rattle.store_run.specs.Serving.{IsAt}
use Rattle.store_run.proofs.serve.serve_piece.Given as goal

abbrev pub invariant-loop-byte : goal.invariant-loop-byte
invariant-loop-byte g l = record {
  at_ : (now : State) × IsAt l.session l.plain now;
  logs : IsTrue g.D.Disk.tells → AreOpen l.plain (g.D.Disk.reads l.disk);
  clean : IsTrue g.D.Disk.tells → AreClean (g.D.Disk.reads l.initial.disk) (g.D.Disk.leaves l.initial.disk) → AreClean (g.D.Disk.reads l.disk) (g.D.Disk.leaves l.disk);
  others : IsTrue g.D.Disk.tells → OtherFilesStay (g.D.Disk.reads l.initial.disk) (g.D.Disk.reads l.disk) (g.D.Disk.leaves l.initial.disk) (g.D.Disk.leaves l.disk);
  served : IsTrue g.K.Sink.tells → IsTrue g.D.Disk.tells
      → Serves l.initial.session l.session l.initial.plain l.plain (g.D.Disk.reads l.initial.disk) (g.D.Disk.reads l.disk)
      l.initial.unended.items l.unended.items (take l.byte-index l.piece) (g.K.Sink.written l.initial.sink) (g.K.Sink.written l.sink);
  disk_faults : g.D.Disk.faults l.initial.disk ≤ g.D.Disk.faults l.disk;
  sink_faults : g.K.Sink.faults l.initial.sink ≤ g.K.Sink.faults l.sink;
}
