-- What a call on one file leaves of the files.
use Rattle.std.proofs.Common.{nat_le, ◌≡◌, ℕ, ◌+◌, ◌≤◌, ◌<◌, min, true, false, List, [], ◌∷◌, ◌++◌, length, take, drop, get_or, Result, Ok, Err, OnOk, OnErr, refl, sym, ◌∙◌, ap, subst, arith, length-take}
use Rattle.std.proofs.lemmas.Bool.{false≢true, and_parts}
use Rattle.std.proofs.lemmas.List.{take_all, nil_from_length}
use Rattle.store_io.specs.Disk.{Torn, CutShort, Follows, Only, Holds, OthersStay}
use Rattle.store_io.specs.Image.{is_image, opened, opened_from, closed}
use Rattle.store_io.specs.Files.{place_of, reads_of, leaves_of}
use Rattle.store_io.specs.Restart.{synced_of}
use Rattle.store_io.specs.declared.mem_file.MemFile.{MemFile}
use Rattle.store_io.proofs.Images.{image-length, stop-written, stop-cut, stop-synced}
use Rattle.store_io.proofs.FilesChanged.{Found, Changed, found, all_same}

pub found_at : (files : List MemFile) (file place : ℕ) (m : MemFile) → place ≡ place_of files file → place < length files → m ≡ get_or files place m → Found files file m
found_at files file place m is within here = subst (Found files file) (sym here) (found files file place m is within)

pub torn_same : (at n : ℕ) (c : List ℕ) → Torn at n c c
torn_same at n c = record { before = refl; after = refl; no_shorter = omega arith; no_longer = omega arith }

module _ (files new : List MemFile) (file : ℕ) (m m' : MemFile) (was : Found files file m) (now : Changed files new file m') where
  pub others_stay : OthersStay file (reads_of files) (reads_of new) (leaves_of files) (leaves_of new)
  others_stay = record { reads = now.other_reads; leaves = now.other_leaves }

  -- from an image of the new file, and back to the old one
  new_image : (c : List ℕ) → leaves_of new file c ≡ true → is_image m'.least m'.kept.items c ≡ true
  new_image c left = sym (λ i. now.leaves i c) ∙ left

  old_image : (c : List ℕ) → is_image m.least m.kept.items c ≡ true → leaves_of files file c ≡ true
  old_image c is = (λ i. was.leaves i c) ∙ is

  pub same_stop : m'.kept.items ≡ m.kept.items → m'.least ≡ m.least → (c : List ℕ) → leaves_of new file c ≡ true → leaves_of files file c ≡ true
  same_stop same least c left = old_image c ((λ i. is_image (sym least i) (sym same i) c) ∙ new_image c left)

  pub write_stop : (at n : ℕ) → at ≤ length m.bytes.items → m'.kept.items ≡ opened m.kept.items at n → m'.least ≡ m.least → Follows (Torn at n) (leaves_of files file) (leaves_of new file)
  write_stop at n within opened_now least c left =
      let long = image-length m.least m.kept.items m.bytes.items m.read_left in
      let is = (λ i. is_image (sym least i) m'.kept.items c) ∙ new_image c left in
      let from = stop-written m.least at n m.kept.items m'.kept.items c (omega (arith, long.1)) (omega (arith, long.0, long.1)) opened_now is in
      (from.0, old_image from.0 from.1, from.2)

  pub write_stop_of : {T E : Type 0} (result : Result T E) (at n : ℕ) → at ≤ length m.bytes.items → m'.least ≡ m.least
      → OnOk result (m'.kept.items ≡ opened m.kept.items at n) → OnErr result (m'.kept.items ≡ m.kept.items) → Follows (Torn at n) (leaves_of files file) (leaves_of new file)
  write_stop_of (Ok x) at n within least opened_now same = write_stop at n within opened_now least
  write_stop_of (Err e) at n within least opened_now same = λ c left. (c, same_stop same least c left, torn_same at n c)

  pub cut_stop : (n : ℕ) → m'.kept.items ≡ opened_from m.kept.items n → m'.least ≡ min m.least n → Follows (CutShort n) (leaves_of files file) (leaves_of new file)
  cut_stop n opened_now least c left =
      let long = image-length m.least m.kept.items m.bytes.items m.read_left in
      let is = (λ i. is_image (sym least i) m'.kept.items c) ∙ new_image c left in
      let from = stop-cut m.least n m.kept.items m'.kept.items c (omega (arith, long.0, long.1)) opened_now is in
      (from.0, old_image from.0 from.1, from.2)

  pub sync_only : m'.kept.items ≡ closed m.bytes.items → m'.least ≡ length m.bytes.items → Only (reads_of files file) (leaves_of new file)
  sync_only is_closed least c left = stop-synced m'.least m'.kept.items m.bytes.items c least is_closed (new_image c left) ∙ sym was.reads

  pub sync_only_of : {T E : Type 0} (result : Result T E) → OnOk result (m'.kept.items ≡ closed m.bytes.items) → OnOk result (m'.least ≡ length m.bytes.items) → OnOk result (Only (reads_of files file) (leaves_of new file))
  sync_only_of (Ok x) is_closed least = sync_only is_closed least
  sync_only_of (Err e) is_closed least = tt

  -- what is read was an image
  pub sync_stop_of : {T E : Type 0} (result : Result T E) → OnOk result (m'.kept.items ≡ closed m.bytes.items) → OnOk result (m'.least ≡ length m.bytes.items)
      → OnErr result (m'.kept.items ≡ m.kept.items) → OnErr result (m'.least ≡ m.least) → (c : List ℕ) → leaves_of new file c ≡ true → leaves_of files file c ≡ true
  sync_stop_of (Ok x) is_closed least same same_least c left =
      let is_read : c ≡ m.bytes.items = sync_only is_closed least c left ∙ was.reads in
      subst (λ (l : List ℕ). leaves_of files file l ≡ true) (sym is_read) (old_image m.bytes.items m.read_left)
  sync_stop_of (Err e) is_closed least same same_least c left = same_stop same same_least c left

  pub unsynced_of : {T E : Type 0} (result : Result T E) → OnErr result (m'.kept.items ≡ m.kept.items) → OnErr result (m'.least ≡ m.least) → OnErr result (leaves_of new ≡ leaves_of files)
  unsynced_of (Ok x) same least = tt
  unsynced_of (Err e) same least =
      all_same (leaves_of files) (leaves_of new) file now.other_leaves (now.leaves ∙ (λ i. is_image (least i) (same i)) ∙ sym was.leaves)

pub nothing_read : (buf : List ℕ) (at : ℕ) (reads : List ℕ) → reads ≡ [] → at + length buf ≤ length reads → buf ≡ take (length buf) (drop at reads)
nothing_read buf at reads none within =
    let empty : length reads ≡ 0 = ap length none in
    nil_from_length buf (omega arith) ∙ sym (nil_from_length (take (length buf) (drop at reads)) (omega (arith, length-take (length buf) (drop at reads))))

pub written_after : {T E : Type 0} (result : Result T E) (at : ℕ) (bytes old old' new new' : List ℕ) → old ≡ old' → new' ≡ new → OnOk result (Holds old at bytes new) → OnOk result (Holds old' at bytes new')
written_after (Ok x) at bytes old old' new new' was is holds = is ∙ holds ∙ ap (λ (l : List ℕ). take at l ++ (bytes ++ drop (length bytes) (drop at l))) was
written_after (Err e) at bytes old old' new new' was is holds = tt

pub cut_nothing : (n : ℕ) (reads : List ℕ) → n ≤ length reads → reads ≡ [] → reads ≡ take n reads
cut_nothing n reads within none = sym (take_all n reads (omega (arith, ap length none)))

-- a file that is not there leaves nothing
pub only_empty : Only [] (is_image 0 [])
only_empty [] is = refl
only_empty (x ∷ c) is = absurd (false≢true (and_parts (nat_le 0 (length (x ∷ c))) false is).1)

pub sync_nothing : (files : List MemFile) (file : ℕ) → reads_of files file ≡ [] → leaves_of files file ≡ is_image 0 [] → Only (reads_of files file) (leaves_of files file)
sync_nothing files file none absent c left = only_empty c (sym (λ i. absent i c) ∙ left) ∙ sym none

-- what was synced of the files, where the call keeps that of the file
module _ (files new : List MemFile) (file : ℕ) (m m' : MemFile) (was : Found files file m) (now : Changed files new file m') where
  pub synced_stays : m'.synced.items ≡ m.synced.items → synced_of new ≡ synced_of files
  synced_stays same = all_same (synced_of files) (synced_of new) file now.other_synced (now.synced ∙ same ∙ sym was.synced)

  pub synced_now : {T E : Type 0} (result : Result T E) → OnOk result (m'.synced.items ≡ m.bytes.items) → OnOk result (synced_of new file ≡ reads_of files file)
  synced_now (Ok x) same = now.synced ∙ same ∙ sym was.reads
  synced_now (Err e) same = tt

  pub synced_not : {T E : Type 0} (result : Result T E) → OnErr result (m'.synced.items ≡ m.synced.items) → OnErr result (synced_of new ≡ synced_of files)
  synced_not (Ok x) same = tt
  synced_not (Err e) same = synced_stays same
