-- The reader of the rest of a line is a reader of texts in UTF-8.
use Rattle.std.proofs.Common.{◌≡◌, ℕ, zero, suc, ◌+◌, ◌-◌, ◌<◌, ◌≤◌, Bool, true, false, cond, eqb, List, [], ◌∷◌, ◌++◌, length, take, drop, Ok, Err, refl, sym, ap, subst, ◌∙◌, append_assoc, arith, inl, inr}
use Rattle.std.specs.Prelude.{IsTrue, IsUtf8}
use Rattle.std.specs.Str.{is_utf8}
use Rattle.std.specs.Str.Lossy.{valid_len_up_to, utf8_valid_len}
use Rattle.std.proofs.lemmas.Bool.Decides.{nat_tests, leb_tells}
use Rattle.std.proofs.lemmas.List.{append-nil, take_all, length-append, length-take, length-take-le, length-drop, take-append-drop, take-append-le, take-take, drop-take}
use Rattle.std.proofs.lemmas.Str.{IsUtf8-nil, IsUtf8-from_is_utf8, is_utf8-from_IsUtf8}
use Rattle.type_desc.specs.Prefixes.{Begins, IsLongestBeginning}
use Rattle.type_desc.proofs.Readers.{IsReader, chosen, choose_false, done, ok_is}
use Rattle.websocket.specs.Text as pieces
use Rattle.websocket.proofs.CutCharLemmas.{is_utf8_so_far_iff}
use Rattle.websocket.proofs.TextLemmas.{is_utf8-false, valid_up_to_is}
use Rattle.script_text.specs.Utf8.{is_cut_char, cut_len, left_of, rest_at}
use Rattle.script_text.proofs.RestSteps.{rest_taken, not_utf8, cut_len-le}

-- ---- the longest front that is UTF-8

record IsFront (text : List ℕ) (valid most : ℕ) : Type 0 where
  within : valid ≤ most
  front : IsUtf8 (take valid text)
  longest : (m : ℕ) → valid < m → m ≤ most → ¬ (IsUtf8 (take m text))

one_longer : (text : List ℕ) (valid most : ℕ) (t : Bool) → is_utf8 (take (suc most) text) ≡ t → IsFront text valid most → IsFront text (cond t (suc most) valid) (suc most)
one_longer text valid most true is below =
    record { within = omega arith; front = IsUtf8-from_is_utf8 _ is; longest = λ m past within. absurd (omega arith) }
one_longer text valid most false is below =
    record {
      within = omega (arith, below.within);
      front = below.front;
      longest = λ m past within utf8.
          elim (leb_tells m most) [
            | inl p ↦ below.longest m past p.1 utf8
            | inr p ↦ let last : m ≡ suc most = omega arith in let holds = is_utf8-from_IsUtf8 _ (subst (λ k. IsUtf8 (take k text)) last utf8) in absurd cc
          ];
    }

valid_front : (text : List ℕ) (most : ℕ) → IsFront text (valid_len_up_to text most) most
valid_front text zero = record { within = omega arith; front = IsUtf8-nil; longest = λ m past within. absurd (omega arith) }
valid_front text (suc most) = one_longer text (valid_len_up_to text most) most _ refl (valid_front text most)

whole_front : (text : List ℕ) → IsFront text (utf8_valid_len text) (length text)
unfolding utf8_valid_len
whole_front text = valid_front text (length text)

-- ---- cut characters

same_cut : (bytes : List ℕ) → pieces.is_cut_char bytes ≡ is_cut_char bytes
same_cut [] = refl
same_cut (a ∷ []) = refl
same_cut (a ∷ (b ∷ [])) = refl
same_cut (a ∷ (b ∷ (c ∷ []))) = refl
same_cut (a ∷ (b ∷ (c ∷ (d ∷ more)))) =
    let n = length (a ∷ (b ∷ (c ∷ (d ∷ more)))) in
    let one : eqb n 1 ≡ false = grind (arith, nat_tests) in
    let two : eqb n 2 ≡ false = grind (arith, nat_tests) in
    let three : eqb n 3 ≡ false = grind (arith, nat_tests) in
    rw (one, two, three) refl

long_cut : (bytes : List ℕ) → 4 ≤ length bytes → is_cut_char bytes ≡ false
long_cut [] long = absurd (omega arith)
long_cut (a ∷ []) long = absurd (omega arith)
long_cut (a ∷ (b ∷ [])) long = absurd (omega arith)
long_cut (a ∷ (b ∷ (c ∷ []))) long = absurd (omega arith)
long_cut (a ∷ (b ∷ (c ∷ (d ∷ more)))) long = refl

take_all_taken : (n : ℕ) (text : List ℕ) → take (length (take n text)) text ≡ take n text
take_all_taken zero text = refl
take_all_taken (suc n) [] = refl
take_all_taken (suc n) (b ∷ bs) = ap (λ (t : List ℕ). b ∷ t) (take_all_taken n bs)

abbrev cut_of : List ℕ → Bool → Bool → Bool → ℕ
cut_of text three two one = cond three (length (take 3 text)) (cond two (length (take 2 text)) (cond one (length (take 1 text)) 0))

found_by : (text : List ℕ) (three two one : Bool) → is_cut_char (take 3 text) ≡ three → is_cut_char (take 2 text) ≡ two → is_cut_char (take 1 text) ≡ one
    → 1 ≤ cut_of text three two one → is_cut_char (take (cut_of text three two one) text) ≡ true
found_by text true two one e3 e2 e1 some = ap is_cut_char (take_all_taken 3 text) ∙ e3
found_by text false true one e3 e2 e1 some = ap is_cut_char (take_all_taken 2 text) ∙ e2
found_by text false false true e3 e2 e1 some = ap is_cut_char (take_all_taken 1 text) ∙ e1
found_by text false false false e3 e2 e1 some = absurd (omega arith)

-- what is found is a cut character
cut_found : (text : List ℕ) → 1 ≤ cut_len text → is_cut_char (take (cut_len text) text) ≡ true
unfolding cut_len
cut_found text some = found_by text (is_cut_char (take 3 text)) (is_cut_char (take 2 text)) (is_cut_char (take 1 text)) refl refl refl some

max_by : (text : List ℕ) (three two one : Bool) → is_cut_char (take 3 text) ≡ three → is_cut_char (take 2 text) ≡ two → is_cut_char (take 1 text) ≡ one
    → (j : ℕ) → j ≤ length text → is_cut_char (take j text) ≡ true → j ≤ cut_of text three two one
max_by text three two one e3 e2 e1 zero within is = omega arith
max_by text true two one e3 e2 e1 (suc zero) within is = omega (arith, length-take 3 text)
max_by text false true one e3 e2 e1 (suc zero) within is = omega (arith, length-take 2 text)
max_by text false false true e3 e2 e1 (suc zero) within is = omega (arith, length-take 1 text)
max_by text false false false e3 e2 e1 (suc zero) within is = absurd cc
max_by text true two one e3 e2 e1 (suc (suc zero)) within is = omega (arith, length-take 3 text)
max_by text false true one e3 e2 e1 (suc (suc zero)) within is = omega (arith, length-take 2 text)
max_by text false false one e3 e2 e1 (suc (suc zero)) within is = absurd cc
max_by text true two one e3 e2 e1 (suc (suc (suc zero))) within is = omega (arith, length-take 3 text)
max_by text false two one e3 e2 e1 (suc (suc (suc zero))) within is = absurd cc
max_by text three two one e3 e2 e1 (suc (suc (suc (suc j)))) within is =
    let none = long_cut (take (suc (suc (suc (suc j)))) text) (omega (arith, length-take-le (suc (suc (suc (suc j)))) text within)) in absurd cc

-- and none is longer
cut_longest : (text : List ℕ) (j : ℕ) → j ≤ length text → is_cut_char (take j text) ≡ true → j ≤ cut_len text
unfolding cut_len
cut_longest text j within is = max_by text (is_cut_char (take 3 text)) (is_cut_char (take 2 text)) (is_cut_char (take 1 text)) refl refl refl j within is

-- ---- the longest front that begins a text

-- behind the whole characters, a front begins a text where what is left of it is a cut character
so_far : (text : List ℕ) (valid j : ℕ) → IsFront text valid (length text) → valid + j ≤ length text → 1 ≤ j → pieces.is_utf8_so_far (take (valid + j) text) ≡ is_cut_char (take j (drop valid text))
unfolding pieces.is_utf8_so_far
so_far text valid j front within some =
    let part = take (valid + j) text in
    let len : length part ≡ valid + j = length-take-le (valid + j) text within in
    let whole : pieces.is_utf8 part ≡ false = is_utf8-false part (front.longest (valid + j) (omega arith) within) in
    let start : IsUtf8 (take valid part) = subst IsUtf8 (sym (take-take valid (valid + j) text (omega arith))) front.front in
    let up_to : pieces.valid_up_to part (length part) ≡ valid =
    valid_up_to_is part valid (length part) (omega arith) start
    (λ m past inside utf8. front.longest m past (omega arith) (subst IsUtf8 (take-take m (valid + j) text (omega arith)) utf8)) in
    rw (whole, up_to, drop-take valid j text) (same_cut (take j (drop valid text)))

place : List ℕ → ℕ
place text = utf8_valid_len text + cut_len (drop (utf8_valid_len text) text)

begins_at : (text : List ℕ) (valid c : ℕ) → IsFront text valid (length text) → c ≡ cut_len (drop valid text) → Begins IsUtf8 (take (valid + c) text)
begins_at text valid zero front is =
    let none : valid + 0 ≡ valid = omega arith in
    ([], subst IsUtf8 (sym (append-nil (take (valid + 0) text))) (subst (λ k. IsUtf8 (take k text)) (sym none) front.front))
begins_at text valid (suc c) front is =
    let tail = drop valid text in
    let within : valid + suc c ≤ length text = omega (arith, is, cut_len-le tail, length-drop valid text, front.within) in
    let cut : is_cut_char (take (suc c) tail) ≡ true = ap (λ (k : ℕ). is_cut_char (take k tail)) is ∙ cut_found tail (omega (arith, is)) in
    (is_utf8_so_far_iff (take (valid + suc c) text)).0 (so_far text valid (suc c) front within (omega arith) ∙ cut)

place_is : (text : List ℕ) → IsLongestBeginning IsUtf8 text (place text)
unfolding place
place_is text =
    let valid = utf8_valid_len text in
    let tail = drop valid text in
    let front = whole_front text in
    record {
      within = omega (arith, cut_len-le tail, length-drop valid text, front.within);
      begins = begins_at text valid (cut_len tail) front refl;
      longest = λ m past within begun.
          let j = m - valid in
          let m_is : valid + j ≡ m = omega arith in
          let holds = (is_utf8_so_far_iff (take m text)).1 begun in
          let here : pieces.is_utf8_so_far (take (valid + j) text) ≡ true = ap (λ (k : ℕ). pieces.is_utf8_so_far (take k text)) m_is ∙ holds in
          let cut : is_cut_char (take j tail) ≡ true = sym (so_far text valid j front (omega arith) (omega arith)) ∙ here in
          let most = cut_longest tail j (omega (arith, length-drop valid text)) cut in
          omega arith;
    }

left_is : (text : List ℕ) → left_of text ≡ length text - place text
unfolding place
left_is text = let front = whole_front text in omega (arith, length-drop (utf8_valid_len text) text, front.within)

-- a text has one longest beginning
one_place : (Whole : List ℕ → Type 0) (text : List ℕ) (p q : ℕ) → IsLongestBeginning Whole text p → IsLongestBeginning Whole text q → p ≡ q
one_place Whole text p q one two = elim (leb_tells p q) [
  | inr more ↦ absurd (two.longest p (omega arith) one.within one.begins)
  | inl le ↦ elim (leb_tells q p) [
    | inr more ↦ absurd (one.longest q (omega arith) two.within two.begins)
    | inl ge ↦ omega arith
  ]
]

-- a front of a front begins a text too
begins_before : (text : List ℕ) (n m : ℕ) → n ≤ m → m ≤ length text → Begins IsUtf8 (take m text) → Begins IsUtf8 (take n text)
begins_before text n m le within begun =
    let part = take m text in
    let front : take n part ≡ take n text = take-take n m text le in
    (drop n part ++ begun.0, subst IsUtf8 (ap (λ (t : List ℕ). t ++ begun.0) (sym (take-append-drop n part)) ∙ append_assoc (take n part) (drop n part) begun.0 ∙ ap (λ (t : List ℕ). t ++ (drop n part ++ begun.0)) front) begun.1)

-- ---- the reader

pub empty_rest : IsTrue (is_utf8 [])
empty_rest = is_utf8-from_IsUtf8 [] IsUtf8-nil

pub rest_again : (rest : List ℕ) → IsTrue (is_utf8 rest) → rest_at rest ≡ Ok (rest, [])
rest_again rest is = rest_taken rest rest (IsUtf8-from_is_utf8 rest is) refl

record Refused (text : List ℕ) (left : ℕ) : Type 0 where
  isnt : is_utf8 text ≡ false
  left_of_is : left_of text ≡ left

refused : (text : List ℕ) (left : ℕ) → rest_at text ≡ Err left → Refused text left
unfolding rest_at
refused text left e = elim (chosen (is_utf8 text) (done (text, [])) (Err (left_of text)) (Err left) e) [
  | inl never ↦ absurd (let ok = never.1 in cc)
  | inr is ↦ record { isnt = is.0; left_of_is = (let same = is.1 in cc) }
]

taken_is : (text value rest : List ℕ) → rest_at text ≡ Ok (value, rest) → IsTrue (is_utf8 value) × (text ≡ value) × ([] ≡ rest)
unfolding rest_at
taken_is text value rest e = elim (chosen (is_utf8 text) (done (text, [])) (Err (left_of text)) (Ok (value, rest)) e) [
  | inr never ↦ absurd (let stuck = never.1 in cc)
  | inl is ↦
      let same : (text, []) ≡ (value, rest) = ok_is _ _ is.1 in
      let text_is : text ≡ value = ap (λ (p : List ℕ × List ℕ). p.0) same in
      (subst (λ (t : List ℕ). IsTrue (is_utf8 t)) text_is is.0, text_is, ap (λ (p : List ℕ × List ℕ). p.1) same)
]

-- a text that agrees with a refused one as far as one byte past its place is refused at the same place
refused_again : (front x y : List ℕ) (k left : ℕ) → Refused (front ++ x) left → left ≡ suc k + length x → rest_at (front ++ y) ≡ Err (suc k + length y)
unfolding rest_at
refused_again front x y k left r is =
    let before = front ++ x in
    let after = front ++ y in
    let p = place before in
    let found = place_is before in
    let inside : p + suc k ≡ length front = omega (arith, left_is before, r.left_of_is, length-append front x, found.within) in
    let agree : (n : ℕ) → n ≤ length front → take n after ≡ take n before = λ n le. take-append-le n front y le ∙ sym (take-append-le n front x le) in
    let none : ¬ (Begins IsUtf8 (take (suc p) after)) = λ begun.
    found.longest (suc p) (omega arith) (omega (arith, length-append front x)) (subst (Begins IsUtf8) (agree (suc p) (omega arith)) begun) in
    let same : IsLongestBeginning IsUtf8 after p = record {
      within = omega (arith, length-append front y);
      begins = subst (Begins IsUtf8) (sym (agree p (omega arith))) found.begins;
      longest = λ n past within begun. none (begins_before after (suc p) n (omega arith) within begun);
    } in
    let at : place after ≡ p = one_place IsUtf8 after (place after) p (place_is after) same in
    let isnt : is_utf8 after ≡ false = not_utf8 after (λ utf8.
    none (begins_before after (suc p) (length after) (omega (arith, length-append front y)) (omega arith) ([], subst IsUtf8 (sym (append-nil (take (length after) after) ∙ take_all (length after) after (omega arith))) utf8))) in
    choose_false (is_utf8 after) (done (after, [])) (Err (left_of after)) (Err (suc k + length y)) isnt
    (ap (λ (n : ℕ). Err n) (omega (arith, left_is after, at, length-append front y)))

pub IsReader-rest : IsReader (λ w. w) (λ w. IsTrue (is_utf8 w)) rest_at
IsReader-rest = record {
  taken = λ text value rest e.
      let t = taken_is text value rest e in
      (t.0, t.1 ∙ sym (append-nil value) ∙ ap (λ (r : List ℕ). value ++ r) t.2);
  stuck = λ text left e.
      let r = refused text left e in
      let found = place_is text in
      let p = place text in
      record {
        front = take p text;
        rest = drop p text;
        more = found.begins.0;
        value = take p text ++ found.begins.0;
        parts = sym (take-append-drop p text);
        left_is = omega (arith, length-drop p text, left_is text, r.left_of_is);
        fits = is_utf8-from_IsUtf8 _ found.begins.1;
        spelled = refl;
      };
  takes_again = λ front x y value c rest e. absurd (let none = (taken_is (front ++ x) value (c ∷ (rest ++ x)) e).2 in cc);
  stuck_again = λ front x y k left e is. refused_again front x y k left (refused (front ++ x) left e) is;
}
