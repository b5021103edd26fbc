-- What a fault below is to who opens a disk.
use Rattle.entity_form.specs.declared.fault.FormFault.{FormFault}
use Rattle.entity_form.specs.declared.fault.FormFault.TheVariants as forms
use Rattle.gated_log.specs.declared.opening.LogFault.{LogFault}
use Rattle.gated_log.specs.declared.opening.LogFault.TheVariants as log
use Rattle.type_dictionary.specs.declared.fault.RecordFault.{RecordFault}
use Rattle.type_dictionary.specs.declared.fault.RecordFault.TheVariants as records
use Rattle.plain_storage.specs.declared.fault.OpenFault.{OpenFault}
use Rattle.plain_storage.specs.declared.fault.OpenFault.TheVariants as open_

-- another header and a record that is cut are damage
abbrev pub log_fault : LogFault → OpenFault
log_fault log.Fault = open_.Fault
log_fault log.Header = open_.Damaged
log_fault (log.Cut at) = open_.Damaged

-- a text that is not the next record is damage
abbrev pub record_fault : RecordFault → OpenFault
record_fault records.Bad = open_.Damaged
record_fault records.NoMemory = open_.NoMemory

-- bytes that are no entity are damage
abbrev pub form_fault : FormFault → OpenFault
form_fault forms.Bad = open_.Damaged
form_fault forms.NoMemory = open_.NoMemory
