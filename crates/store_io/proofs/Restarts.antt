-- The files of a disk in memory after a restart.
use Rattle.std.proofs.Common.{nat_le, ◌≡◌, ℕ, ◌==◌, if◌then◌else◌, Bool, true, false, List, [], ◌∷◌, ◌++◌, length, map, unwrap_or, Option, Some, None, refl, arith}
use Rattle.std.proofs.lemmas.Bool.{and_from, eq-eqb, le-leb}
use Rattle.std.proofs.lemmas.List.{length-map}
use Rattle.store_io.specs.Disk.{Only}
use Rattle.store_io.specs.Image.{fits, is_image}
use Rattle.store_io.specs.Files.{reads_of, leaves_of}
use Rattle.store_io.specs.Restart.{picked, picked_of, synced_of, IsRestart, AllRestart}
use Rattle.store_io.specs.declared.pick.Pick.{Pick}
use Rattle.store_io.specs.declared.pick.Pick.TheVariants.{Synced, Written, Filled}
use Rattle.store_io.specs.declared.mem_file.MemFile.{MemFile}
use Rattle.store_io.proofs.Images.{image-length, stop-synced}
use Rattle.store_io.proofs.FileCalls.{only_empty}

fits-filled : (kept : List (Option ℕ)) (fill : ℕ) → fits (map (λ k. unwrap_or k fill) kept) kept ≡ true
fits-filled [] fill = refl
fits-filled (Some b ∷ kept) fill = and_from (b == b) (fits (map (λ k. unwrap_or k fill) kept) kept) (eq-eqb b b refl) (fits-filled kept fill)
fits-filled (None ∷ kept) fill = fits-filled kept fill

picked_image : (pick : Pick) (m : MemFile) → is_image m.least m.kept.items (picked pick m) ≡ true
picked_image Synced m = m.synced_left
picked_image Written m = m.read_left
picked_image (Filled fill) m =
    let long = image-length m.least m.kept.items m.bytes.items m.read_left in
    let all = map (λ k. unwrap_or k fill) m.kept.items in
    and_from (nat_le m.least (length all)) (fits all m.kept.items)
    (le-leb m.least (length all) (omega (arith, long.0, long.1, length-map m.kept.items (λ k. unwrap_or k fill))))
    (fits-filled m.kept.items fill)

one_image : (here : Bool) (pick : Pick) (m : MemFile) (rest : List ℕ) (leaves : List ℕ → Bool) → leaves rest ≡ true
    → (if here then is_image m.least m.kept.items (if here then picked pick m else rest) else leaves (if here then picked pick m else rest)) ≡ true
one_image true pick m rest leaves left = picked_image pick m
one_image false pick m rest leaves left = left

-- what is picked is an image
pub picked_left : (pick : Pick) (files : List MemFile) (file : ℕ) → leaves_of files file (picked_of pick files file) ≡ true
picked_left pick [] file = refl
picked_left pick (m ∷ files) file = one_image (m.number == file) pick m (picked_of pick files file) (leaves_of files file) (picked_left pick files file)

-- and it is what the new files read
pub restart_reads : (pick : Pick) (files new : List MemFile) → AllRestart pick files new → reads_of new ≡ picked_of pick files
restart_reads pick [] [] all = refl
restart_reads pick [] (n ∷ new) all = absurd all
restart_reads pick (m ∷ files) [] all = absurd all
restart_reads pick (m ∷ files) (n ∷ new) all = λ i file. if all.0.number i == file then all.0.bytes i else restart_reads pick files new all.1 i file

-- and what was synced of them
pub restart_synced : (pick : Pick) (files new : List MemFile) → AllRestart pick files new → synced_of new ≡ reads_of new
restart_synced pick [] [] all = refl
restart_synced pick [] (n ∷ new) all = absurd all
restart_synced pick (m ∷ files) [] all = absurd all
restart_synced pick (m ∷ files) (n ∷ new) all = λ i file. if n.number == file then all.0.synced i else restart_synced pick files new all.1 i file

one_clean : (here : Bool) (n : MemFile) (rest : List ℕ) (leaves : List ℕ → Bool) → Only n.bytes.items (is_image n.least n.kept.items) → Only rest leaves
    → Only (if here then n.bytes.items else rest) (λ image. if here then is_image n.least n.kept.items image else leaves image)
one_clean true n rest leaves only others = only
one_clean false n rest leaves only others = others

pub restart_clean : (pick : Pick) (files new : List MemFile) (file : ℕ) → AllRestart pick files new → Only (reads_of new file) (leaves_of new file)
restart_clean pick [] [] file all = only_empty
restart_clean pick [] (n ∷ new) file all = absurd all
restart_clean pick (m ∷ files) [] file all = absurd all
restart_clean pick (m ∷ files) (n ∷ new) file all =
    one_clean (n.number == file) n (reads_of new file) (leaves_of new file)
    (λ c left. stop-synced n.least n.kept.items n.bytes.items c all.0.least all.0.kept left)
    (restart_clean pick files new file all.1)

pub restart_push : (pick : Pick) (files new : List MemFile) (m n : MemFile) → AllRestart pick files new → IsRestart pick m n → AllRestart pick (files ++ m ∷ []) (new ++ n ∷ [])
restart_push pick [] [] m n all is = (is, tt)
restart_push pick [] (y ∷ new) m n all is = absurd all
restart_push pick (x ∷ files) [] m n all is = absurd all
restart_push pick (x ∷ files) (y ∷ new) m n all is = (all.0, restart_push pick files new m n all.1 is)
