-- The files of a disk in memory, one of them changed.
use Rattle.std.proofs.Common.{inl, inr, ◌≡◌, ◌≢◌, ℕ, zero, suc, ◌+◌, ◌≤◌, ◌<◌, ◌==◌, if◌then◌else◌, Bool, true, false, List, [], ◌∷◌, ◌++◌, length, get_or, drop, refl, sym, ◌∙◌, ap, arith}
use Rattle.std.proofs.lemmas.Bool.{cases_eq, eqb-true, eq-eqb, cond-true, cond-false, cases_Bool}
use Rattle.std.proofs.lemmas.List.{drop_more, drop_all}
use lib.ListN.{set}
use Rattle.store_io.specs.Image.{is_image}
use Rattle.store_io.specs.Files.{place_of, reads_of, leaves_of}
use Rattle.store_io.specs.Restart.{synced_of}
use Rattle.store_io.specs.declared.mem_file.MemFile.{MemFile}

-- the file at its place
pub record Found (files : List MemFile) (file : ℕ) (m : MemFile) : Type 0 where
  pub number : m.number ≡ file
  pub reads : reads_of files file ≡ m.bytes.items
  pub leaves : leaves_of files file ≡ is_image m.least m.kept.items
  pub synced : synced_of files file ≡ m.synced.items

found_here : (m : MemFile) (files : List MemFile) (file : ℕ) → (m.number == file) ≡ true → Found (m ∷ files) file m
found_here m files file here = record {
  number = eqb-true m.number file here;
  reads = cond-true (m.number == file) m.bytes.items (reads_of files file) here;
  leaves = λ i image. cond-true (m.number == file) (is_image m.least m.kept.items image) (leaves_of files file image) here i;
  synced = cond-true (m.number == file) m.synced.items (synced_of files file) here;
}

place_here : (m : MemFile) (files : List MemFile) (file : ℕ) → (m.number == file) ≡ true → place_of (m ∷ files) file ≡ 0
place_here m files file here = cond-true (m.number == file) 0 (1 + place_of files file) here

place_later : (m : MemFile) (files : List MemFile) (file : ℕ) → (m.number == file) ≡ false → place_of (m ∷ files) file ≡ 1 + place_of files file
place_later m files file other = cond-false (m.number == file) 0 (1 + place_of files file) other

reads_later : (m : MemFile) (files : List MemFile) (file : ℕ) → (m.number == file) ≡ false → reads_of (m ∷ files) file ≡ reads_of files file
reads_later m files file other = cond-false (m.number == file) m.bytes.items (reads_of files file) other

leaves_later : (m : MemFile) (files : List MemFile) (file : ℕ) → (m.number == file) ≡ false → leaves_of (m ∷ files) file ≡ leaves_of files file
leaves_later m files file other = λ i image. cond-false (m.number == file) (is_image m.least m.kept.items image) (leaves_of files file image) other i

synced_later : (m : MemFile) (files : List MemFile) (file : ℕ) → (m.number == file) ≡ false → synced_of (m ∷ files) file ≡ synced_of files file
synced_later m files file other = cond-false (m.number == file) m.synced.items (synced_of files file) other

pub found : (files : List MemFile) (file place : ℕ) (d : MemFile) → place ≡ place_of files file → place < length files → Found files file (get_or files place d)
found [] file place d is within = absurd (omega arith)
found (m ∷ files) file zero d is within = elim (cases_Bool (m.number == file)) [
  | inl here ↦ found_here m files file here
  | inr other ↦ absurd (omega (arith, is, place_later m files file other))
]
found (m ∷ files) file (suc place) d is within = elim (cases_Bool (m.number == file)) [
  | inl here ↦ absurd (omega (arith, is, place_here m files file here))
  | inr other ↦
      let next : suc place ≡ 1 + place_of files file = is ∙ place_later m files file other in
      let rest = found files file place d (omega arith) (omega arith) in
      record {
        number = rest.number;
        reads = reads_later m files file other ∙ rest.reads;
        leaves = leaves_later m files file other ∙ rest.leaves;
        synced = synced_later m files file other ∙ rest.synced;
      }
]

-- one file is changed, and the others are as they were
pub record Changed (files new : List MemFile) (file : ℕ) (m : MemFile) : Type 0 where
  pub reads : reads_of new file ≡ m.bytes.items
  pub leaves : leaves_of new file ≡ is_image m.least m.kept.items
  pub other_reads : (f : ℕ) → f ≢ file → reads_of new f ≡ reads_of files f
  pub other_leaves : (f : ℕ) → f ≢ file → leaves_of new f ≡ leaves_of files f
  pub synced : synced_of new file ≡ m.synced.items
  pub other_synced : (f : ℕ) → f ≢ file → synced_of new f ≡ synced_of files f

not_it : (a b : ℕ) → a ≢ b → (a == b) ≡ false
not_it a b ne = elim (cases_Bool (a == b)) [ inl is ↦ absurd (ne (eqb-true a b is)) | inr other ↦ other ]

changed_here : (m m' : MemFile) (files : List MemFile) (file : ℕ) → m.number ≡ file → m'.number ≡ file → Changed (m ∷ files) (m' ∷ files) file m'
changed_here m m' files file was is =
    let here = found_here m' files file (eq-eqb m'.number file is) in
    record {
      reads = here.reads;
      leaves = here.leaves;
      other_reads = λ f ne.
          reads_later m' files f (not_it m'.number f (λ e. ne (sym e ∙ is))) ∙ sym (reads_later m files f (not_it m.number f (λ e. ne (sym e ∙ was))));
      other_leaves = λ f ne.
          leaves_later m' files f (not_it m'.number f (λ e. ne (sym e ∙ is))) ∙ sym (leaves_later m files f (not_it m.number f (λ e. ne (sym e ∙ was))));
      synced = here.synced;
      other_synced = λ f ne.
          synced_later m' files f (not_it m'.number f (λ e. ne (sym e ∙ is))) ∙ sym (synced_later m files f (not_it m.number f (λ e. ne (sym e ∙ was))));
    }

changed_later : (m : MemFile) (files new : List MemFile) (file : ℕ) (m' : MemFile) → (m.number == file) ≡ false → Changed files new file m' → Changed (m ∷ files) (m ∷ new) file m'
changed_later m files new file m' other rest = record {
  reads = reads_later m new file other ∙ rest.reads;
  leaves = leaves_later m new file other ∙ rest.leaves;
  other_reads = λ f ne. ap (λ (l : List ℕ). if m.number == f then m.bytes.items else l) (rest.other_reads f ne);
  other_leaves = λ f ne. λ i image. if m.number == f then is_image m.least m.kept.items image else rest.other_leaves f ne i image;
  synced = synced_later m new file other ∙ rest.synced;
  other_synced = λ f ne. ap (λ (l : List ℕ). if m.number == f then m.synced.items else l) (rest.other_synced f ne);
}

pub changed : (files : List MemFile) (file place : ℕ) (m' : MemFile) → place ≡ place_of files file → place < length files → m'.number ≡ file → Changed files (set files place m') file m'
changed [] file place m' is within named = absurd (omega arith)
changed (m ∷ files) file zero m' is within named = elim (cases_Bool (m.number == file)) [
  | inl here ↦ changed_here m m' files file (eqb-true m.number file here) named
  | inr other ↦ absurd (omega (arith, is, place_later m files file other))
]
changed (m ∷ files) file (suc place) m' is within named = elim (cases_Bool (m.number == file)) [
  | inl here ↦ absurd (omega (arith, is, place_here m files file here))
  | inr other ↦
      let next : suc place ≡ 1 + place_of files file = is ∙ place_later m files file other in
      changed_later m files (set files place m') file m' other (changed files file place m' (omega arith) (omega arith) named)
]

-- a file that is not there reads as empty, and so does a new one
pub absent_reads : (files : List MemFile) (file : ℕ) → place_of files file ≡ length files → reads_of files file ≡ []
absent_reads [] file is = refl
absent_reads (m ∷ files) file is = elim (cases_Bool (m.number == file)) [
  | inl here ↦ let first : place_of (m ∷ files) file ≡ 0 = place_here m files file here in absurd (omega arith)
  | inr other ↦ let next : place_of (m ∷ files) file ≡ 1 + place_of files file = place_later m files file other in reads_later m files file other ∙ absent_reads files file (omega arith)
]

pub absent_leaves : (files : List MemFile) (file : ℕ) → place_of files file ≡ length files → leaves_of files file ≡ is_image 0 []
absent_leaves [] file is = refl
absent_leaves (m ∷ files) file is = elim (cases_Bool (m.number == file)) [
  | inl here ↦ let first : place_of (m ∷ files) file ≡ 0 = place_here m files file here in absurd (omega arith)
  | inr other ↦ let next : place_of (m ∷ files) file ≡ 1 + place_of files file = place_later m files file other in leaves_later m files file other ∙ absent_leaves files file (omega arith)
]

pub absent_synced : (files : List MemFile) (file : ℕ) → place_of files file ≡ length files → synced_of files file ≡ []
absent_synced [] file is = refl
absent_synced (m ∷ files) file is = elim (cases_Bool (m.number == file)) [
  | inl here ↦ let first : place_of (m ∷ files) file ≡ 0 = place_here m files file here in absurd (omega arith)
  | inr other ↦ let next : place_of (m ∷ files) file ≡ 1 + place_of files file = place_later m files file other in synced_later m files file other ∙ absent_synced files file (omega arith)
]

either : (here : Bool) (x : List ℕ) → x ≡ [] → (if here then x else []) ≡ []
either true x is = is
either false x is = refl

either_test : (here : Bool) (p q : List ℕ → Bool) → p ≡ q → (λ (image : List ℕ). if here then p image else q image) ≡ q
either_test true p q same = same
either_test false p q same = refl

pub push_reads : (files : List MemFile) (m : MemFile) → m.bytes.items ≡ [] → reads_of (files ++ m ∷ []) ≡ reads_of files
push_reads [] m none = λ i f. either (m.number == f) m.bytes.items none i
push_reads (x ∷ files) m none = λ i f. if x.number == f then x.bytes.items else push_reads files m none i f

pub push_synced : (files : List MemFile) (m : MemFile) → m.synced.items ≡ [] → synced_of (files ++ m ∷ []) ≡ synced_of files
push_synced [] m none = λ i f. either (m.number == f) m.synced.items none i
push_synced (x ∷ files) m none = λ i f. if x.number == f then x.synced.items else push_synced files m none i f

pub push_leaves : (files : List MemFile) (m : MemFile) → m.kept.items ≡ [] → m.least ≡ 0 → leaves_of (files ++ m ∷ []) ≡ leaves_of files
push_leaves [] m none least = λ i f image. either_test (m.number == f) (is_image m.least m.kept.items) (is_image 0 []) (λ j. is_image (least j) (none j)) i image
push_leaves (x ∷ files) m none least = λ i f image. if x.number == f then is_image x.least x.kept.items image else push_leaves files m none least i f image

pub push_place : (files : List MemFile) (m : MemFile) (file : ℕ) → m.number ≡ file → place_of files file ≡ length files → place_of (files ++ m ∷ []) file ≡ length files
push_place [] m file named is = place_here m [] file (eq-eqb m.number file named)
push_place (x ∷ files) m file named is = elim (cases_Bool (x.number == file)) [
  | inl here ↦ let first : place_of (x ∷ files) file ≡ 0 = place_here x files file here in absurd (omega arith)
  | inr other ↦
      let next : place_of (x ∷ files) file ≡ 1 + place_of files file = place_later x files file other in
      let rest : place_of (files ++ m ∷ []) file ≡ length files = push_place files m file named (omega arith) in
      let more : place_of (x ∷ (files ++ m ∷ [])) file ≡ 1 + place_of (files ++ m ∷ []) file = place_later x (files ++ m ∷ []) file other in
      omega arith
]

-- on from one file to the next
pub place_on : (files : List MemFile) (file : ℕ) (m : MemFile) → m.number ≢ file → place_of (m ∷ files) file ≡ 1 + place_of files file
place_on files file m ne = place_later m files file (not_it m.number file ne)

pub place_at : (files : List MemFile) (file : ℕ) (m : MemFile) → m.number ≡ file → place_of (m ∷ files) file ≡ 0
place_at files file m is = place_here m files file (eq-eqb m.number file is)

pub place_step : (files : List MemFile) (file place : ℕ) (m : MemFile) → place < length files → m ≡ get_or files place m → m.number ≢ file → place_of (drop place files) file ≡ 1 + place_of (drop (place + 1) files) file
place_step files file place m within is ne =
    ap (λ (l : List MemFile). place_of l file) (drop_more files place m within ∙ ap (λ (x : MemFile). x ∷ drop (place + 1) files) (sym is)) ∙ place_on (drop (place + 1) files) file m ne

pub place_stop : (files : List MemFile) (file place : ℕ) (m : MemFile) → place < length files → m ≡ get_or files place m → m.number ≡ file → place_of (drop place files) file ≡ 0
place_stop files file place m within is named =
    ap (λ (l : List MemFile). place_of l file) (drop_more files place m within ∙ ap (λ (x : MemFile). x ∷ drop (place + 1) files) (sym is)) ∙ place_at (drop (place + 1) files) file m named

pub place_end : (files : List MemFile) (file place : ℕ) → length files ≤ place → place_of (drop place files) file ≡ 0
place_end files file place past = ap (λ (l : List MemFile). place_of l file) (drop_all place files past)

-- what is the same at one file and at the others
pub all_same : {A : Type 0} (old new : ℕ → A) (file : ℕ) → ((f : ℕ) → f ≢ file → new f ≡ old f) → new file ≡ old file → new ≡ old
all_same {A} old new file others here = λ i f. at f i
  where
    at : (f : ℕ) → new f ≡ old f
    at f = elim (cases_eq f file) [ inl is ↦ ap new is ∙ here ∙ ap old (sym is) | inr ne ↦ others f ne ]
