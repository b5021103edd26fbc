-- What a fault of a log that is added to is to who opens the disks.
use Rattle.gated_log.specs.declared.log.AppendFault.{AppendFault}
use Rattle.gated_log.specs.declared.log.AppendFault.TheVariants as appends
use Rattle.store_opening.specs.declared.fault.OpenFault.{OpenFault}
use Rattle.store_opening.specs.declared.fault.OpenFault.TheVariants.{Fault, Full}

abbrev pub of_append : AppendFault → OpenFault
of_append appends.Fault = Fault
of_append (appends.Full length) = Full length
