-- The fault that is told of a log is one of that log.
use Rattle.std.proofs.Common.{◌≡◌, ◌≢◌, ℕ, ◌<◌, List, length, take, refl, subst}
use Rattle.gated_log.specs.Log.{payloads_of}
use Rattle.channel.specs.Images.{log_header}
use Rattle.recovery.specs.Images.{types_header}
use Rattle.disk_opening.specs.LogFaults.{IsCutAt, IsEntryFault, IsOrderFault}
use Rattle.disk_opening.specs.TypesReading.{IsTypeFault}
use Rattle.disk_opening.specs.declared.logs.ChannelLogFault.{ChannelLogFault}
use Rattle.disk_opening.specs.declared.logs.ChannelLogFault.TheVariants as logs
use Rattle.disk_opening.specs.declared.type_log.DictionaryFault.{DictionaryFault}
use Rattle.disk_opening.specs.declared.type_log.DictionaryFault.TheVariants as types
use Rattle.store_opening.specs.Faults.{of_dictionary, of_log}
use Rattle.store_opening.specs.WrongFiles.{IsWrongDictionary, IsWrongLog}
use Rattle.store_opening.specs.declared.fault.Cause.{Cause}
use Rattle.store_opening.specs.declared.fault.OpenFault.TheVariants.{Damaged, Full}

same_channel : {j k : ℕ} {a b : Cause} → Damaged j a ≡ Damaged k b → k ≡ j
same_channel e = cc

same_cause : {j k : ℕ} {a b : Cause} → Damaged j a ≡ Damaged k b → a ≡ b
same_cause e = cc

pub log_damage : (n channel j : ℕ) (file : List ℕ) (cause : Cause) (e : ChannelLogFault)
    → (e ≡ logs.Header → (9 < length file) × (take 8 file ≢ log_header n channel))
    → ((at : ℕ) → e ≡ logs.Log at → IsCutAt (log_header n channel) file at)
    → ((at : ℕ) → e ≡ logs.Entry at → IsEntryFault (payloads_of file) at)
    → ((at : ℕ) → e ≡ logs.Order at → IsOrderFault (payloads_of file) at)
    → of_log channel e ≡ Damaged j cause → (j ≡ channel) × IsWrongLog n channel file cause
log_damage n channel j file cause logs.NoMemory header cut entry order is = absurd cc
log_damage n channel j file cause logs.Fault header cut entry order is = absurd cc
log_damage n channel j file cause logs.Header header cut entry order is =
    (same_channel is, subst (IsWrongLog n channel file) (same_cause is) record { long = (header refl).0; other = (header refl).1 })
log_damage n channel j file cause (logs.Log at) header cut entry order is = (same_channel is, subst (IsWrongLog n channel file) (same_cause is) (cut at refl))
log_damage n channel j file cause (logs.Entry at) header cut entry order is = (same_channel is, subst (IsWrongLog n channel file) (same_cause is) (entry at refl))
log_damage n channel j file cause (logs.Order at) header cut entry order is = (same_channel is, subst (IsWrongLog n channel file) (same_cause is) (order at refl))

pub log_not_full : (channel bytes : ℕ) (e : ChannelLogFault) → of_log channel e ≡ Full bytes → ⊥
log_not_full channel bytes logs.NoMemory is = cc
log_not_full channel bytes logs.Fault is = cc
log_not_full channel bytes logs.Header is = cc
log_not_full channel bytes (logs.Log at) is = cc
log_not_full channel bytes (logs.Entry at) is = cc
log_not_full channel bytes (logs.Order at) is = cc

pub dictionary_damage : (n j : ℕ) (file : List ℕ) (cause : Cause) (e : DictionaryFault)
    → (e ≡ types.Header → (9 < length file) × (take 8 file ≢ types_header n))
    → ((at : ℕ) → e ≡ types.Log at → IsCutAt (types_header n) file at)
    → ((at : ℕ) → e ≡ types.Record at → IsTypeFault (payloads_of file) at)
    → of_dictionary e ≡ Damaged j cause → (j ≡ 0) × IsWrongDictionary n file cause
dictionary_damage n j file cause types.NoMemory header cut entry is = absurd cc
dictionary_damage n j file cause types.Fault header cut entry is = absurd cc
dictionary_damage n j file cause types.Header header cut entry is =
    (same_channel is, subst (IsWrongDictionary n file) (same_cause is) record { long = (header refl).0; other = (header refl).1 })
dictionary_damage n j file cause (types.Log at) header cut entry is = (same_channel is, subst (IsWrongDictionary n file) (same_cause is) (cut at refl))
dictionary_damage n j file cause (types.Record at) header cut entry is = (same_channel is, subst (IsWrongDictionary n file) (same_cause is) (entry at refl))

pub dictionary_not_full : (bytes : ℕ) (e : DictionaryFault) → of_dictionary e ≡ Full bytes → ⊥
dictionary_not_full bytes types.NoMemory is = cc
dictionary_not_full bytes types.Fault is = cc
dictionary_not_full bytes types.Header is = cc
dictionary_not_full bytes (types.Log at) is = cc
dictionary_not_full bytes (types.Record at) is = cc
