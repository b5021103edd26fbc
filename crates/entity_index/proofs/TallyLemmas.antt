-- How the tally of the files follows the rows.
use Rattle.std.proofs.Common.{◌≡◌, ◌≢◌, ℕ, zero, suc, ◌+◌, ◌-◌, ◌*◌, ◌^◌, ◌<◌, ◌≤◌, Bool, true, false, cond, Option, Some, None, nat_eq, refl, sym, ap, subst, ◌∙◌, inl, inr, arith, true≢false}
use Rattle.std.specs.Prelude.{List, min, is_some, IfSome, if◌then◌else◌}
use Rattle.oid_table.specs.Table.{Table}
use Rattle.std.specs.Option.{option_map_or}
use Rattle.std.proofs.lemmas.Bool.{cases_eq}
use Rattle.std.proofs.lemmas.Bool.Decides.{nat_tests}
use Rattle.std.specs.Ordering.{nat_cmp}
use Rattle.std.specs.FinMap.{FinMap, get, insert, remove, len, empty, get-empty, len-empty}
use Rattle.oid_table.specs.MapLaws.{get-insert_same, get-insert_other, get-remove_same, get-remove_other, insert-remove_same, remove-absent, len-insert_new, len-insert_old, len-remove_old}
use Rattle.entity_index.specs.declared.row.Row.{Row}
use Rattle.entity_index.specs.declared.tally.FileUse.{FileUse}
use Rattle.entity_index.specs.Totals.{total}
use Rattle.entity_index.specs.Rows.{bytes_in, used_in}
use Rattle.entity_index.specs.Tally.{IsTally, bytes_of, rows_of, row_in, counted_in, counted_out}
use Rattle.entity_index.proofs.TotalLemmas.{total-insert, total-remove, total-≤, total-times, total-ones, total-empty}

-- a row weighs in its own file, and in no other
here : (file n : ℕ) → (if nat_eq file file then n else 0) ≡ n
here file n = grind (arith, nat_tests)

elsewhere : (file other n : ℕ) → (file ≡ other → ⊥) → (if nat_eq file other then n else 0) ≡ 0
elsewhere file other n differs = grind (arith, nat_tests)

module _ {V : Type 0} where
  -- an insertion keeps the sum of the keys and the room for more, and so does a removal
  pub room-insert : (m n : FinMap nat_cmp V) (k : ℕ) (v : V) (r : Option V) (spare spare' : ℕ) → r ≡ get m k → n ≡ insert m k v → spare' + (if is_some r then 0 else 1) ≡ spare → len n + spare' ≡ len m + spare
  room-insert m n k v (Some w) spare spare' old is room = let same = ap len is ∙ len-insert_old m k w v (sym old) in omega arith
  room-insert m n k v None spare spare' old is room = let more = ap len is ∙ len-insert_new m k v (sym old) in omega arith

  pub len-remove_one : (m : FinMap nat_cmp V) (k : ℕ) (v : V) → get m k ≡ Some v → len (remove m k) + 1 ≡ len m
  len-remove_one m k v had =
      let out = total-remove (λ (_ : V). 1) m k v had in
      let a = total-ones (remove m k) in
      let b = total-ones m in
      omega arith

  pub room-remove : (m n : FinMap nat_cmp V) (k : ℕ) (r : Option V) (spare spare' : ℕ) → r ≡ get m k → n ≡ remove m k → spare' ≡ spare + (if is_some r then 1 else 0) → len n + spare' ≡ len m + spare
  room-remove m n k (Some w) spare spare' old is room = let less = ap len is in let one = len-remove_one m k w (sym old) in omega arith
  room-remove m n k None spare spare' old is room = let same = ap len (is ∙ remove-absent m k (sym old)) in omega arith

module _ (rows : FinMap nat_cmp Row) (used : FinMap nat_cmp FileUse) (t : IsTally rows used) where
  -- a row's bytes are within its file's, and its file has a row
  pub has_bytes : (id : ℕ) (row : Row) → get rows id ≡ Some row → row.header.length ≤ bytes_of used row.file
  has_bytes id row had =
      let kept = t.bytes row.file in
      let out = total-remove (bytes_in row.file) rows id row had in
      let mine = here row.file row.header.length in
      omega arith

  pub has_row : (id : ℕ) (row : Row) → get rows id ≡ Some row → 0 < rows_of used row.file
  has_row id row had =
      let kept = t.counts row.file in
      let out = total-remove (row_in row.file) rows id row had in
      let mine = here row.file 1 in
      omega arith

  -- a file has at most as many rows as there are, and so many bytes for each
  pub rows_of-≤ : (file : ℕ) → rows_of used file ≤ len rows
  rows_of-≤ file =
      let kept = t.counts file in
      let most = total-≤ (row_in file) rows (λ _. 1) (λ id row had. grind (arith, nat_tests)) in
      let all = total-ones rows in
      omega arith

  pub bytes_of-≤ : (file : ℕ) → bytes_of used file ≤ (2 ^ 64 - 1) * rows_of used file
  bytes_of-≤ file =
      let kept = t.bytes file in
      let counted = t.counts file in
      let most = total-≤ (bytes_in file) rows (λ row. (2 ^ 64 - 1) * row_in file row) (λ id row had. let fit = t.fit id row had in grind (arith, nat_tests)) in
      let times = total-times (row_in file) rows in
      omega arith

  -- no more files than rows
  pub files-≤ : len used ≤ len rows
  files-≤ =
      let each = total-≤ (λ _. 1) used (λ kept. kept.rows) (λ file kept found. let some = t.some file kept found in omega arith) in
      let files = total-ones used in
      let all = t.all in
      omega arith

pub IsTally-empty : IsTally empty empty
IsTally-empty = record {
  bytes = λ file. ap (λ o. option_map_or (λ (kept : FileUse). kept.bytes) o 0) (get-empty nat_cmp file) ∙ sym (total-empty (bytes_in file));
  counts = λ file. ap (λ o. option_map_or (λ (kept : FileUse). kept.rows) o 0) (get-empty nat_cmp file) ∙ sym (total-empty (row_in file));
  some = λ file kept found. let none = get-empty {X = FileUse} nat_cmp file in absurd cc;
  all = total-empty (λ kept. kept.rows) ∙ sym (len-empty nat_cmp Row);
  fit = λ id row found. let none = get-empty {X = Row} nat_cmp id in absurd cc;
}

-- a row that is new
pub IsTally-in : (rows : FinMap nat_cmp Row) (used : FinMap nat_cmp FileUse) → IsTally rows used → (id : ℕ) (row : Row) → get rows id ≡ None → row.header.length < 2 ^ 64
    → IsTally (insert rows id row) (counted_in used row.file row.header.length)
IsTally-in rows used t id row new fits =
    let kept : FileUse = record { bytes = bytes_of used row.file + row.header.length; rows = rows_of used row.file + 1 } in
    record {
      bytes = λ file.
          let sum = total-insert (bytes_in file) rows id row in
          let none : option_map_or (bytes_in file) (get rows id) 0 ≡ 0 = ap (λ o. option_map_or (bytes_in file) o 0) new in
          let before = t.bytes file in
          elim (cases_eq file row.file) [
            | inl same ↦
                let now = ap (λ o. option_map_or (λ (k : FileUse). k.bytes) o 0) (ap (get (insert used row.file kept)) same ∙ get-insert_same used row.file kept) in
                let mine = ap (λ f. bytes_in f row) same ∙ here row.file row.header.length in
                let was = ap (bytes_of used) same in
                omega arith
            | inr differs ↦
                let now = ap (λ o. option_map_or (λ (k : FileUse). k.bytes) o 0) (get-insert_other used row.file kept file differs) in
                let mine = elsewhere row.file file row.header.length (λ e. differs (sym e)) in
                omega arith
          ];
      counts = λ file.
          let sum = total-insert (row_in file) rows id row in
          let none : option_map_or (row_in file) (get rows id) 0 ≡ 0 = ap (λ o. option_map_or (row_in file) o 0) new in
          let before = t.counts file in
          elim (cases_eq file row.file) [
            | inl same ↦
                let now = ap (λ o. option_map_or (λ (k : FileUse). k.rows) o 0) (ap (get (insert used row.file kept)) same ∙ get-insert_same used row.file kept) in
                let mine = ap (λ f. row_in f row) same ∙ here row.file 1 in
                let was = ap (rows_of used) same in
                omega arith
            | inr differs ↦
                let now = ap (λ o. option_map_or (λ (k : FileUse). k.rows) o 0) (get-insert_other used row.file kept file differs) in
                let mine = elsewhere row.file file 1 (λ e. differs (sym e)) in
                omega arith
          ];
      some = λ file other found.
          elim (cases_eq file row.file) [
            | inl same ↦
                let first = ap (get (insert used row.file kept)) same ∙ get-insert_same used row.file kept in
                let is : kept ≡ other = cc in
                subst (λ (k : FileUse). 0 < k.rows) is (omega arith)
            | inr differs ↦ t.some file other (sym (get-insert_other used row.file kept file differs) ∙ found)
          ];
      all = let sum = total-insert (λ (k : FileUse). k.rows) used row.file kept in let before = t.all in let more = len-insert_new rows id row new in omega arith;
      fit = λ j other found.
          elim (cases_eq j id) [
            | inl same ↦
                let first = ap (get (insert rows id row)) same ∙ get-insert_same rows id row in
                let is : row ≡ other = cc in
                subst (λ (r : Row). r.header.length < 2 ^ 64) is fits
            | inr differs ↦ t.fit j other (sym (get-insert_other rows id row j differs) ∙ found)
          ];
    }

-- a file that is kept is kept with at least one row
kept_file : (used : FinMap nat_cmp FileUse) (file : ℕ) → 0 < rows_of used file → (kept : FileUse) × (get used file ≡ Some kept)
kept_file used file some = by_case (get used file) refl
  where
    by_case : (o : Option FileUse) → get used file ≡ o → (kept : FileUse) × (get used file ≡ Some kept)
    by_case (Some kept) is = (kept, is)
    by_case None is = let none : rows_of used file ≡ 0 = ap (λ o. option_map_or (λ (k : FileUse). k.rows) o 0) is in absurd (omega arith)

-- a row that is gone
module _ (rows : FinMap nat_cmp Row) (used : FinMap nat_cmp FileUse) (t : IsTally rows used) (id : ℕ) (row : Row) (had : get rows id ≡ Some row) where
  fit_still : (j : ℕ) (other : Row) → get (remove rows id) j ≡ Some other → other.header.length < 2 ^ 64
  fit_still j other found =
      elim (cases_eq j id) [
        | inl same ↦ let gone = ap (get (remove rows id)) same ∙ get-remove_same rows id in absurd cc
        | inr differs ↦ t.fit j other (sym (get-remove_other rows id j differs) ∙ found)
      ]

  fewer : len (remove rows id) + 1 ≡ len rows
  fewer = len-remove_one rows id row had

  -- its file has no other row, and is given up
  IsTally-last : rows_of used row.file ≡ 1 → IsTally (remove rows id) (remove used row.file)
  IsTally-last one =
      let found = kept_file used row.file (omega arith) in
      record {
        bytes = λ file.
            let sum = total-remove (bytes_in file) rows id row had in
            let count = total-remove (row_in file) rows id row had in
            let before = t.bytes file in
            let counted = t.counts file in
            elim (cases_eq file row.file) [
              | inl same ↦
                  let now = ap (λ o. option_map_or (λ (k : FileUse). k.bytes) o 0) (ap (get (remove used row.file)) same ∙ get-remove_same used row.file) in
                  let mine = ap (λ f. row_in f row) same ∙ here row.file 1 in
                  let was = ap (rows_of used) same in
                  let most = total-≤ (bytes_in file) (remove rows id) (λ r. (2 ^ 64 - 1) * row_in file r) (λ j r there. let fit = fit_still j r there in grind (arith, nat_tests)) in
                  let times = total-times (row_in file) (remove rows id) in
                  omega arith
              | inr differs ↦
                  let now = ap (λ o. option_map_or (λ (k : FileUse). k.bytes) o 0) (get-remove_other used row.file file differs) in
                  let mine = elsewhere row.file file row.header.length (λ e. differs (sym e)) in
                  omega arith
            ];
        counts = λ file.
            let count = total-remove (row_in file) rows id row had in
            let counted = t.counts file in
            elim (cases_eq file row.file) [
              | inl same ↦
                  let now = ap (λ o. option_map_or (λ (k : FileUse). k.rows) o 0) (ap (get (remove used row.file)) same ∙ get-remove_same used row.file) in
                  let mine = ap (λ f. row_in f row) same ∙ here row.file 1 in
                  let was = ap (rows_of used) same in
                  omega arith
              | inr differs ↦
                  let now = ap (λ o. option_map_or (λ (k : FileUse). k.rows) o 0) (get-remove_other used row.file file differs) in
                  let mine = elsewhere row.file file 1 (λ e. differs (sym e)) in
                  omega arith
            ];
        some = λ file kept there.
            elim (cases_eq file row.file) [
              | inl same ↦ let gone = ap (get (remove used row.file)) same ∙ get-remove_same used row.file in absurd cc
              | inr differs ↦ t.some file kept (sym (get-remove_other used row.file file differs) ∙ there)
            ];
        all =
            let out = total-remove (λ (k : FileUse). k.rows) used row.file found.0 found.1 in
            let kept : rows_of used row.file ≡ found.0.rows = ap (λ o. option_map_or (λ (k : FileUse). k.rows) o 0) found.1 in
            let before = t.all in
            let less = fewer in
            omega arith;
        fit = fit_still;
      }

  -- its file has other rows
  IsTally-one_of_several : 1 < rows_of used row.file → IsTally (remove rows id) (insert used row.file (record { bytes = bytes_of used row.file - row.header.length; rows = rows_of used row.file - 1 }))
  IsTally-one_of_several several =
      let kept : FileUse = record { bytes = bytes_of used row.file - row.header.length; rows = rows_of used row.file - 1 } in
      record {
        bytes = λ file.
            let sum = total-remove (bytes_in file) rows id row had in
            let before = t.bytes file in
            elim (cases_eq file row.file) [
              | inl same ↦
                  let now = ap (λ o. option_map_or (λ (k : FileUse). k.bytes) o 0) (ap (get (insert used row.file kept)) same ∙ get-insert_same used row.file kept) in
                  let mine = ap (λ f. bytes_in f row) same ∙ here row.file row.header.length in
                  let was = ap (bytes_of used) same in
                  omega arith
              | inr differs ↦
                  let now = ap (λ o. option_map_or (λ (k : FileUse). k.bytes) o 0) (get-insert_other used row.file kept file differs) in
                  let mine = elsewhere row.file file row.header.length (λ e. differs (sym e)) in
                  omega arith
            ];
        counts = λ file.
            let count = total-remove (row_in file) rows id row had in
            let counted = t.counts file in
            elim (cases_eq file row.file) [
              | inl same ↦
                  let now = ap (λ o. option_map_or (λ (k : FileUse). k.rows) o 0) (ap (get (insert used row.file kept)) same ∙ get-insert_same used row.file kept) in
                  let mine = ap (λ f. row_in f row) same ∙ here row.file 1 in
                  let was = ap (rows_of used) same in
                  omega arith
              | inr differs ↦
                  let now = ap (λ o. option_map_or (λ (k : FileUse). k.rows) o 0) (get-insert_other used row.file kept file differs) in
                  let mine = elsewhere row.file file 1 (λ e. differs (sym e)) in
                  omega arith
            ];
        some = λ file other there.
            elim (cases_eq file row.file) [
              | inl same ↦
                  let first = ap (get (insert used row.file kept)) same ∙ get-insert_same used row.file kept in
                  let is : kept ≡ other = cc in
                  subst (λ (k : FileUse). 0 < k.rows) is (omega arith)
              | inr differs ↦ t.some file other (sym (get-insert_other used row.file kept file differs) ∙ there)
            ];
        all =
            let put = total-insert (λ (k : FileUse). k.rows) used row.file kept in
            let before = t.all in
            let less = fewer in
            omega arith;
        fit = fit_still;
      }

  pub IsTally-out : IsTally (remove rows id) (counted_out used row.file row.header.length)
  IsTally-out = by_test (nat_eq (rows_of used row.file) 1) refl
    where
      by_test : (b : Bool) → nat_eq (rows_of used row.file) 1 ≡ b → IsTally (remove rows id) (if b then remove used row.file else insert used row.file (record { bytes = bytes_of used row.file - row.header.length; rows = rows_of used row.file - 1 }))
      by_test true is = IsTally-last (grind (arith, nat_tests))
      by_test false is = let some = has_row rows used t id row had in let more : rows_of used row.file ≢ 1 = λ e. true≢false (sym (ap (λ n. nat_eq n 1) e) ∙ is) in IsTally-one_of_several (omega arith)

  -- a row in its place
  pub IsTally-in_place : (new : Row) → new.header.length < 2 ^ 64 → IsTally (insert rows id new) (counted_in (counted_out used row.file row.header.length) new.file new.header.length)
  IsTally-in_place new fits =
      subst (λ m. IsTally m (counted_in (counted_out used row.file row.header.length) new.file new.header.length)) (insert-remove_same rows id new)
      (IsTally-in (remove rows id) _ IsTally-out id new (get-remove_same rows id) fits)

  -- a row that takes as much of the same file
  pub IsTally-alike : (new : Row) → new.file ≡ row.file → new.header ≡ row.header → IsTally (insert rows id new) used
  IsTally-alike new file header = record {
    bytes = λ f.
        let sum = total-insert (bytes_in f) rows id new in
        let was : option_map_or (bytes_in f) (get rows id) 0 ≡ bytes_in f row = ap (λ o. option_map_or (bytes_in f) o 0) had in
        let same : bytes_in f new ≡ bytes_in f row = λ i. if nat_eq (file i) f then (header i).length else 0 in
        let before = t.bytes f in
        omega arith;
    counts = λ f.
        let sum = total-insert (row_in f) rows id new in
        let was : option_map_or (row_in f) (get rows id) 0 ≡ row_in f row = ap (λ o. option_map_or (row_in f) o 0) had in
        let same : row_in f new ≡ row_in f row = λ i. if nat_eq (file i) f then 1 else 0 in
        let before = t.counts f in
        omega arith;
    some = t.some;
    all = t.all ∙ sym (len-insert_old rows id row new had);
    fit = λ j other found.
        elim (cases_eq j id) [
          | inl same ↦
              let first = ap (get (insert rows id new)) same ∙ get-insert_same rows id new in
              let is : new ≡ other = cc in
              subst (λ (r : Row). r.header.length < 2 ^ 64) is (subst (λ h. h.length < 2 ^ 64) (sym header) (t.fit id row had))
          | inr differs ↦ t.fit j other (sym (get-insert_other rows id new j differs) ∙ found)
        ];
  }

-- a row of an id that has one is changed, and its file and header stay
pub ChangesRow-view : (contents : FinMap nat_cmp Row) (keys : List (Option ℕ)) (spare kept id : ℕ) (row : Row) (change : Row → Row) → get contents id ≡ Some row
    → IfSome (get contents id) (λ r. ◌≡◌ {A = Table Row} (record { contents = insert contents id (change row); keys = keys; spare = min spare (kept - len (insert contents id (change row))) })
    (record { contents = insert contents id (change r); keys = keys; spare = min spare (kept - len contents) }))
ChangesRow-view contents keys spare kept id row change had =
    let same = len-insert_old contents id row (change row) had in
    rw had (λ i. record { contents = insert contents id (change row); keys = keys; spare = min spare (kept - same i) })
