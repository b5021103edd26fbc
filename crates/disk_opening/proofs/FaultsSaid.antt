-- Which fault was met where one is told.
use Rattle.std.proofs.Common.{◌≡◌, ℕ, Result, Ok, Err, IsErrAnd, IsErrOf}
use Rattle.gated_log.specs.declared.opening.LogFault.{LogFault}
use Rattle.gated_log.specs.declared.opening.LogFault.TheVariants.{Fault, Header, Cut}
use Rattle.disk_opening.specs.LogFaults.{channel_log_fault}
use Rattle.disk_opening.specs.declared.logs.ChannelLogFault.{ChannelLogFault}
use Rattle.disk_opening.specs.declared.logs.ChannelLogFault.TheVariants as told
use Rattle.disk_opening.specs.TypesReading.{dictionary_fault}
use Rattle.disk_opening.specs.declared.type_log.DictionaryFault.{DictionaryFault}
use Rattle.disk_opening.specs.declared.type_log.DictionaryFault.TheVariants as types

pub cut_was : {T : Type 0} (r : Result T ChannelLogFault) (e : LogFault) (at : ℕ) → IsErrAnd r (λ f. f ≡ channel_log_fault e) → IsErrOf r (told.Log at) → e ≡ Cut at
cut_was (Ok x) e at is was = absurd is
cut_was (Err f) Fault at is was = cc
cut_was (Err f) Header at is was = cc
cut_was (Err f) (Cut k) at is was = cc

pub types_cut_was : {T : Type 0} (r : Result T DictionaryFault) (e : LogFault) (at : ℕ) → IsErrAnd r (λ f. f ≡ dictionary_fault e) → IsErrOf r (types.Log at) → e ≡ Cut at
types_cut_was (Ok x) e at is was = absurd is
types_cut_was (Err f) Fault at is was = cc
types_cut_was (Err f) Header at is was = cc
types_cut_was (Err f) (Cut k) at is was = cc

pub same_fault : {T E : Type 0} (r : Result T E) (e d : E) → IsErrAnd r (λ f. f ≡ e) → IsErrOf r d → e ≡ d
same_fault (Ok x) e d is was = absurd is
same_fault (Err f) e d is was = cc
