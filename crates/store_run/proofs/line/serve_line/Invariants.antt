-- Within a line the next step is what is due; and how many steps a line still takes at most.
use Rattle.std.proofs.Common.{◌≤◌, Bool, IsTrue}
use Rattle.session_model.specs.Answer.{State}
use Rattle.session.specs.Dealing.{IsDueStep}
use Rattle.session_lines.specs.Broken.{looked_up}
use Rattle.session_lines.specs.Steps.{IsListed, steps_left}
use Rattle.plain_storage.specs.Images.{AreClean, OtherFilesStay}
use Rattle.plain_storage.specs.Keeping.{AreOpen, Keeps}
use Rattle.store_run.specs.Serving.{IsAt}
use Rattle.store_run.specs.Within.{IsWithin, any_record}
use Rattle.store_run.proofs.BeginsWithin.{begun_at}
use Rattle.store_run.proofs.EveryId.{every_id}
use Rattle.store_run.proofs.line.serve_line.Given as goal

abbrev pub invariant-steps : goal.invariant-steps
invariant-steps g l = record {
  within : (now : State) → IsAt l.fn.session l.fn.plain now → (kept : Bool) → (IsTrue kept → IsTrue g.D.Disk.tells) → (IsTrue kept → Keeps l.fn.plain now.types (g.D.Disk.reads l.fn.disk))
      → IsWithin g.K.Sink.tells kept (begun_at now l.fn.plain l.fn.line (g.K.Sink.written l.fn.sink)) (IsDueStep any_record l.step l.session) l.plain (g.D.Disk.reads l.disk) (g.K.Sink.written l.sink);
  listed : IsListed (looked_up l.session.waiting) every_id;
  logs : IsTrue g.D.Disk.tells → AreOpen l.plain (g.D.Disk.reads l.disk);
  clean : IsTrue g.D.Disk.tells → AreClean (g.D.Disk.reads l.fn.disk) (g.D.Disk.leaves l.fn.disk) → AreClean (g.D.Disk.reads l.disk) (g.D.Disk.leaves l.disk);
  others : IsTrue g.D.Disk.tells → OtherFilesStay (g.D.Disk.reads l.fn.disk) (g.D.Disk.reads l.disk) (g.D.Disk.leaves l.fn.disk) (g.D.Disk.leaves l.disk);
  disk_faults : g.D.Disk.faults l.fn.disk ≤ g.D.Disk.faults l.disk;
  sink_faults : g.K.Sink.faults l.fn.sink ≤ g.K.Sink.faults l.sink;
}

abbrev pub decreases-steps : goal.decreases-steps
decreases-steps g l = steps_left l.session.waiting every_id
