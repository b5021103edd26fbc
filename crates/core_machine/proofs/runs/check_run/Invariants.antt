use Rattle.std.proofs.Common.{◌≡◌, Some, length, take}
use Rattle.core_steps.specs.Good.{IsGood}
use Rattle.core_steps.specs.Steps.{run}
use Rattle.core_machine.proofs.runs.check_run.Given as goal

abbrev pub invariant-loop-index : goal.invariant-loop-index
invariant-loop-index l = record {
  leads : run l.fn.start (take l.index l.steps.items) ≡ Some l.core;
  good : IsGood l.core;
  channels : length l.core.channels ≡ length l.fn.start.channels;
  actors : length l.core.hands ≡ length l.fn.start.hands;
}
