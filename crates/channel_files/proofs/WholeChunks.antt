-- Chunks of whole entities, and one chunk more or less.
use Rattle.std.proofs.Common.{◌≡◌, ℕ, List, [], ◌∷◌, ◌++◌, take, Result, Ok, Err, OnOk, IfErr}
use Rattle.std.proofs.lemmas.List.Elements.{All-append, All-cons, All-nil, All-take, All-same}
use Rattle.data_file.specs.Chunks.{IsChunk}
use Rattle.channel_files.specs.declared.fault.FilesFault.{FilesFault}
use Rattle.channel_files.specs.declared.fault.FilesFault.TheVariants as files
use Rattle.channel_files.specs.Chunks.{Chunk}
use Rattle.channel_files.specs.Faults.{IsFaultOrFull, UnlessFault}
use Rattle.channel_files.specs.Whole.{AreWhole}

abbrev IsWhole : Chunk → Type 0
IsWhole c = IsChunk c.bytes

pub whole_same : (old new : List Chunk) → AreWhole old → new ≡ old → AreWhole new
whole_same old new whole same = All-same IsWhole new old same whole

pub whole_with : (old new : List Chunk) (c : Chunk) → AreWhole old → IsChunk c.bytes → new ≡ old ++ c ∷ [] → AreWhole new
whole_with old new c whole is same = All-same IsWhole new (old ++ c ∷ []) same (All-append IsWhole old (c ∷ []) whole (All-cons IsWhole c [] is (All-nil IsWhole)))

pub whole_front : (old new : List Chunk) (n : ℕ) → AreWhole old → new ≡ take n old → AreWhole new
whole_front old new n whole same = All-same IsWhole new (take n old) same (All-take IsWhole n old whole)

-- what follows where the call was done, and where nothing was, holds of each answer but `Fault`
pub unless_fault : {A : Type 0} (r : Result A FilesFault) (Done Kept X : Type 0) → OnOk r Done → IfErr r (IsFaultOrFull (λ n. Kept)) → (Done → X) → (Kept → X) → UnlessFault r X
unless_fault (Ok a) Done Kept X ok err from_done from_kept = from_done ok
unless_fault (Err files.Fault) Done Kept X ok err from_done from_kept = tt
unless_fault (Err (files.Full n)) Done Kept X ok err from_done from_kept = from_kept err
unless_fault (Err (files.Unconfirmed n)) Done Kept X ok err from_done from_kept = absurd err
unless_fault (Err (files.Changed at)) Done Kept X ok err from_done from_kept = absurd err
