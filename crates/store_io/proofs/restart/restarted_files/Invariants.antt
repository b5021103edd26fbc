-- Each file passed has its new one.
use Rattle.std.proofs.Common.{take}
use Rattle.store_io.specs.Restart.{AllRestart}
use Rattle.store_io.proofs.restart.restarted_files.Given as goal

abbrev pub invariant-loop-m : goal.invariant-loop-m
invariant-loop-m l = AllRestart l.pick (take l.m-index l.files) l.new.items
