-- Readers that go from left to right and judge each byte when they come to it: what they leave
-- standing is the longest prefix that begins a whole text.
use Rattle.std.proofs.Common.{◌≡◌, ℕ, zero, suc, ◌+◌, ◌-◌, ◌<◌, ◌≤◌, List, [], ◌∷◌, ◌++◌, length, take, Bool, true, false, cond, Result, Ok, Err, refl, sym, ap, ◌∙◌, append_assoc, arith, ◌⊎◌, inl, inr}
use Rattle.std.proofs.lemmas.List.{length-append, take_at, append-nil, append_cancel_right}
use Rattle.type_desc.specs.Prefixes.{Begins, IsLongestBeginning, Spells}
use Rattle.type_desc.specs.Reader.{Reading, ◌>>=◌, either}

-- where a reader is stuck: the bytes before begin the spelling of some value
pub record Stops {A : Type 0} (spelling : A → List ℕ) (Fits : A → Type 0) (text : List ℕ) (left : ℕ) : Type 0 where
  pub front : List ℕ
  pub rest : List ℕ
  pub more : List ℕ
  pub value : A
  pub parts : text ≡ front ++ rest
  pub left_is : length rest ≡ left
  pub fits : Fits value
  pub spelled : front ++ more ≡ spelling value

-- a reader of the spellings of values, which looks at no byte behind the first that it leaves
pub record IsReader {A : Type 0} (spelling : A → List ℕ) (Fits : A → Type 0) (read : List ℕ → Reading A) : Type 0 where
  pub taken : (text : List ℕ) (value : A) (rest : List ℕ) → read text ≡ Ok (value, rest) → Fits value × (text ≡ spelling value ++ rest)
  pub stuck : (text : List ℕ) (left : ℕ) → read text ≡ Err left → Stops spelling Fits text left
  pub takes_again : (front x y : List ℕ) (value : A) (c : ℕ) (rest : List ℕ) → read (front ++ x) ≡ Ok (value, c ∷ (rest ++ x)) → read (front ++ y) ≡ Ok (value, c ∷ (rest ++ y))
  pub stuck_again : (front x y : List ℕ) (k left : ℕ) → read (front ++ x) ≡ Err left → left ≡ suc k + length x → read (front ++ y) ≡ Err (suc k + length y)

-- of two ends of one text the longer ends with the shorter
longer_end : (a s b x : List ℕ) → a ++ s ≡ b ++ x → length x < length s → (c : ℕ) × (r : List ℕ) × (s ≡ c ∷ (r ++ x))
longer_end [] s [] x e lt = absurd (omega (arith, ap length e))
longer_end [] s (c ∷ r) x e lt = (c, r, e)
longer_end (a ∷ a') s [] x e lt = absurd (omega (arith, ap length e, length-append a' s))
longer_end (a ∷ a') s (b ∷ b') x e lt = longer_end a' s b' x (cc) lt

-- a front that goes past a place
take_past : (front : List ℕ) (c : ℕ) (r : List ℕ) (k n : ℕ) → n ≡ length front + suc k → take n (front ++ c ∷ r) ≡ front ++ c ∷ take k r
take_past [] c r k n e = let n-is : n ≡ suc k = omega arith in rw n-is refl
take_past (f ∷ fs) c r k zero e = absurd (omega arith)
take_past (f ∷ fs) c r k (suc m) e = ap (λ (t : List ℕ). f ∷ t) (take_past fs c r k m (omega arith))

-- no text that goes on past where a reader is stuck is spelled so
no_longer : {A : Type 0} (spelling : A → List ℕ) (Fits : A → Type 0) (read : List ℕ → Reading A) → IsReader spelling Fits read
    → ((value : A) → Fits value → read (spelling value) ≡ Ok (value, []))
    → (front rest more : List ℕ) (n : ℕ) (value : A) → read (front ++ rest) ≡ Err (length rest) → length front < n → n ≤ length (front ++ rest)
    → Fits value → take n (front ++ rest) ++ more ≡ spelling value → ⊥
no_longer spelling Fits read reader again front [] more n value e past within fits spelled = absurd (omega (arith, length-append front []))
no_longer {A = A} spelling Fits read reader again front (c ∷ r) more n value e past within fits spelled =
    let k = n - suc (length front) in
    let longer : take n (front ++ c ∷ r) ≡ front ++ c ∷ take k r = take_past front c r k n (omega arith) in
    let stuck : read ((front ++ c ∷ []) ++ r) ≡ Err (suc (length r)) = ap read (append_assoc front (c ∷ []) r) ∙ e in
    let again_stuck = reader.stuck_again (front ++ c ∷ []) r (take k r ++ more) 0 (suc (length r)) stuck (omega arith) in
    let same : (front ++ c ∷ []) ++ (take k r ++ more) ≡ spelling value =
    append_assoc front (c ∷ []) (take k r ++ more) ∙ sym (append_assoc front (c ∷ take k r) more) ∙ ap (λ (t : List ℕ). t ++ more) (sym longer) ∙ spelled in
    let taken : read ((front ++ c ∷ []) ++ (take k r ++ more)) ≡ Ok (value, []) = ap read same ∙ again value fits in
    absurd cc

-- A reader that takes what is spelled is stuck at the end of the longest prefix that begins a spelling.
pub longest_beginning : {A : Type 0} (spelling : A → List ℕ) (Fits : A → Type 0) (read : List ℕ → Reading A) → IsReader spelling Fits read
    → ((value : A) → Fits value → read (spelling value) ≡ Ok (value, []))
    → (text : List ℕ) (left : ℕ) → read text ≡ Err left → IsLongestBeginning (Spells spelling Fits) text (length text - left)
longest_beginning {A = A} spelling Fits read reader again text left e =
    let s = reader.stuck text left e in
    let len : length text ≡ length s.front + left = omega (arith, ap length s.parts, length-append s.front s.rest, s.left_is) in
    let at : length s.front ≡ length text - left = omega arith in
    let front_is : take (length text - left) text ≡ s.front = ap (take (length text - left)) s.parts ∙ take_at s.front s.rest (length text - left) at in
    let begun : Begins (Spells spelling Fits) (take (length text - left) text) = (s.more, (s.value, s.fits, ap (λ (t : List ℕ). t ++ s.more) front_is ∙ s.spelled)) in
    let here : read (s.front ++ s.rest) ≡ Err (length s.rest) = ap read (sym s.parts) ∙ e ∙ ap (λ (k : ℕ). Err k) (sym s.left_is) in
    record {
      within = omega arith;
      begins = begun;
      longest = λ n past within b.
          no_longer spelling Fits read reader again s.front s.rest b.0 n b.1.0 here (omega arith) (omega (arith, ap length s.parts)) b.1.1
          (ap (λ (t : List ℕ). take n t ++ b.0) (sym s.parts) ∙ b.1.2);
    }

-- What a reader takes to its end is spelled so.
pub whole_is_spelled : {A : Type 0} (spelling : A → List ℕ) (Fits : A → Type 0) (read : List ℕ → Reading A) → IsReader spelling Fits read
    → (text : List ℕ) (value : A) → read text ≡ Ok (value, []) → Fits value × (text ≡ spelling value)
whole_is_spelled spelling Fits read reader text value e =
    let t = reader.taken text value [] e in
    (t.0, t.1 ∙ append-nil (spelling value))

-- A reader is stuck within its text.
pub stuck_within : {A : Type 0} (spelling : A → List ℕ) (Fits : A → Type 0) (read : List ℕ → Reading A) → IsReader spelling Fits read
    → (text : List ℕ) (left : ℕ) → read text ≡ Err left → left ≤ length text
stuck_within spelling Fits read reader text left e =
    let s = reader.stuck text left e in
    omega (arith, ap length s.parts, length-append s.front s.rest, s.left_is)

-- A text that a reader is stuck in spells nothing.
pub stuck_spells_nothing : {A : Type 0} (spelling : A → List ℕ) (Fits : A → Type 0) (read : List ℕ → Reading A)
    → ((value : A) → Fits value → read (spelling value) ≡ Ok (value, []))
    → (text : List ℕ) (left : ℕ) → read text ≡ Err left → ¬ (Spells spelling Fits text)
stuck_spells_nothing spelling Fits read again text left e whole =
    let taken : read text ≡ Ok (whole.0, []) = ap read whole.2 ∙ again whole.0 whole.1 in
    absurd cc

-- ---- readers made of readers

-- the value of a step that did not stop
pub bind_ok : {A B : Type 0} (r : Result A ℕ) (f : A → Result B ℕ) (y : B) → (r >>= f) ≡ Ok y → (x : A) × (r ≡ Ok x) × (f x ≡ Ok y)
bind_ok (Ok x) f y e = (x, refl, e)
bind_ok (Err left) f y e = absurd cc

-- the step that stopped
pub bind_err : {A B : Type 0} (r : Result A ℕ) (f : A → Result B ℕ) (left : ℕ) → (r >>= f) ≡ Err left → (r ≡ Err left) ⊎ ((x : A) × (r ≡ Ok x) × (f x ≡ Err left))
bind_err (Ok x) f left e = inr (x, refl, e)
bind_err (Err at) f left e = inl (cc)

-- a step from its value
pub bind_at : {A B : Type 0} (r : Result A ℕ) (f : A → Result B ℕ) (x : A) (z : Result B ℕ) → r ≡ Ok x → f x ≡ z → (r >>= f) ≡ z
bind_at r f x z e h = ap (λ q. q >>= f) e ∙ h

pub bind_stops : {A B : Type 0} (r : Result A ℕ) (f : A → Result B ℕ) (left : ℕ) → r ≡ Err left → (r >>= f) ≡ Err left
bind_stops r f left e = ap (λ q. q >>= f) e

abbrev pub done : {A : Type 0} → A → Result A ℕ
done x = Ok x

pub ok_is : {A : Type 0} (x y : A) → done x ≡ done y → x ≡ y
ok_is x y e = cc

-- which way a choice went
pub chosen : {X : Type 0} (t : Bool) (x y z : X) → cond t x y ≡ z → ((t ≡ true) × (x ≡ z)) ⊎ ((t ≡ false) × (y ≡ z))
chosen true x y z e = inl (refl, e)
chosen false x y z e = inr (refl, e)

pub choose_true : {X : Type 0} (t : Bool) (x y z : X) → t ≡ true → x ≡ z → cond t x y ≡ z
choose_true true x y z is e = e
choose_true false x y z is e = absurd cc

pub choose_false : {X : Type 0} (t : Bool) (x y z : X) → t ≡ false → y ≡ z → cond t x y ≡ z
choose_false true x y z is e = absurd cc
choose_false false x y z is e = e

-- two parts of a text, the second in two parts
regroup : (a b rest : List ℕ) (text from : List ℕ) → text ≡ a ++ from → from ≡ b ++ rest → text ≡ (a ++ b) ++ rest
regroup a b rest text from e h = e ∙ ap (λ (t : List ℕ). a ++ t) h ∙ sym (append_assoc a b rest)

-- the reader of a value that takes no byte
pub IsReader-value : {A : Type 0} (value : A) → IsReader (λ (_ : A). []) (λ (x : A). x ≡ value) (λ text. Ok (value, text))
IsReader-value {A = A} value = record {
  taken = λ text x rest e.
      let same : (value, text) ≡ (x, rest) = ok_is _ _ e in
      (sym (ap (λ (p : A × List ℕ). p.0) same), ap (λ (p : A × List ℕ). p.1) same);
  stuck = λ text left e. absurd cc;
  takes_again = λ front x y v c rest e.
      let same : (value, front ++ x) ≡ (v, c ∷ (rest ++ x)) = ok_is _ _ e in
      let front_is : front ≡ c ∷ rest = append_cancel_right front (c ∷ rest) x (ap (λ (p : A × List ℕ). p.1) same) in
      ap (λ (t : List ℕ). done (value, t ++ y)) front_is ∙ ap (λ (w : A). done (w, c ∷ (rest ++ y))) (ap (λ (p : A × List ℕ). p.0) same);
  stuck_again = λ front x y k left e left_is. absurd cc;
}

-- One reader after another: the second gives the whole value, and its text is what the first leaves of it.
pub IsReader-bind : {A C : Type 0} (a_text : A → List ℕ) (AFits : A → Type 0) (first : List ℕ → Reading A)
    (rest_text : A → C → List ℕ) (RestFits : A → C → Type 0) (second : A → List ℕ → Reading C) (text_of : C → List ℕ) (Fits : C → Type 0)
    → IsReader a_text AFits first → ((a : A) → AFits a → IsReader (rest_text a) (RestFits a) (second a)) → ((a : A) → AFits a → (c : C) × RestFits a c)
    → ((a : A) (c : C) → AFits a → RestFits a c → Fits c × (text_of c ≡ a_text a ++ rest_text a c))
    → IsReader text_of Fits (λ text. first text >>= λ x. second x.0 x.1)
IsReader-bind {A = A} {C = C} a_text AFits first rest_text RestFits second text_of Fits one two some made =
    let next : A × List ℕ → Reading C = λ x. second x.0 x.1 in
    record {
      taken = λ text value rest e.
          let a = bind_ok (first text) next (value, rest) e in
          let front = one.taken text a.0.0 a.0.1 a.1 in
          let back = (two a.0.0 front.0).taken a.0.1 value rest a.2 in
          let both = made a.0.0 value front.0 back.0 in
          (both.0, regroup (a_text a.0.0) (rest_text a.0.0 value) rest text a.0.1 front.1 back.1 ∙ ap (λ (t : List ℕ). t ++ rest) (sym both.1));
      stuck = λ text left e.
          elim (bind_err (first text) next left e) [
            | inl e1 ↦
                let s = one.stuck text left e1 in
                let c = some s.value s.fits in
                let both = made s.value c.0 s.fits c.1 in
                record {
                  front = s.front;
                  rest = s.rest;
                  more = s.more ++ rest_text s.value c.0;
                  value = c.0;
                  parts = s.parts;
                  left_is = s.left_is;
                  fits = both.0;
                  spelled = sym (append_assoc s.front s.more (rest_text s.value c.0)) ∙ ap (λ (t : List ℕ). t ++ rest_text s.value c.0) s.spelled ∙ sym both.1;
                }
            | inr a ↦
                let front = one.taken text a.0.0 a.0.1 a.1 in
                let s = (two a.0.0 front.0).stuck a.0.1 left a.2 in
                let both = made a.0.0 s.value front.0 s.fits in
                record {
                  front = a_text a.0.0 ++ s.front;
                  rest = s.rest;
                  more = s.more;
                  value = s.value;
                  parts = regroup (a_text a.0.0) s.front s.rest text a.0.1 front.1 s.parts;
                  left_is = s.left_is;
                  fits = both.0;
                  spelled = append_assoc (a_text a.0.0) s.front s.more ∙ ap (λ (t : List ℕ). a_text a.0.0 ++ t) s.spelled ∙ sym both.1;
                }
          ];
      takes_again = λ front x y value c rest e.
          let a = bind_ok (first (front ++ x)) next (value, c ∷ (rest ++ x)) e in
          let taken = one.taken (front ++ x) a.0.0 a.0.1 a.1 in
          let back = (two a.0.0 taken.0).taken a.0.1 value (c ∷ (rest ++ x)) a.2 in
          let long : length x < length a.0.1 = omega (arith, ap length back.1, length-append (rest_text a.0.0 value) (c ∷ (rest ++ x)), length-append rest x) in
          let end = longer_end (a_text a.0.0) a.0.1 front x (sym taken.1) long in
          let first_is : first (front ++ x) ≡ Ok (a.0.0, end.0 ∷ (end.1 ++ x)) = a.1 ∙ ap (λ (t : List ℕ). Ok (a.0.0, t)) end.2 in
          let second_is : second a.0.0 ((end.0 ∷ end.1) ++ x) ≡ Ok (value, c ∷ (rest ++ x)) = ap (second a.0.0) (sym end.2) ∙ a.2 in
          bind_at (first (front ++ y)) next (a.0.0, end.0 ∷ (end.1 ++ y)) (Ok (value, c ∷ (rest ++ y)))
          (one.takes_again front x y a.0.0 end.0 end.1 first_is)
          ((two a.0.0 taken.0).takes_again (end.0 ∷ end.1) x y value c rest second_is);
      stuck_again = λ front x y k left e left_is.
          elim (bind_err (first (front ++ x)) next left e) [
            | inl e1 ↦ bind_stops (first (front ++ y)) next (suc k + length y) (one.stuck_again front x y k left e1 left_is)
            | inr a ↦
                let taken = one.taken (front ++ x) a.0.0 a.0.1 a.1 in
                let s = (two a.0.0 taken.0).stuck a.0.1 left a.2 in
                let long : length x < length a.0.1 = omega (arith, ap length s.parts, length-append s.front s.rest, s.left_is) in
                let end = longer_end (a_text a.0.0) a.0.1 front x (sym taken.1) long in
                let first_is : first (front ++ x) ≡ Ok (a.0.0, end.0 ∷ (end.1 ++ x)) = a.1 ∙ ap (λ (t : List ℕ). Ok (a.0.0, t)) end.2 in
                let second_is : second a.0.0 ((end.0 ∷ end.1) ++ x) ≡ Err left = ap (second a.0.0) (sym end.2) ∙ a.2 in
                bind_at (first (front ++ y)) next (a.0.0, end.0 ∷ (end.1 ++ y)) (Err (suc k + length y))
                (one.takes_again front x y a.0.0 end.0 end.1 first_is)
                ((two a.0.0 taken.0).stuck_again (end.0 ∷ end.1) x y k left second_is left_is)
          ];
    }

-- a reader whose values meet a weaker fact, and spell the same
pub IsReader-wider : {A : Type 0} (text_of new_text : A → List ℕ) (Fits NewFits : A → Type 0) (read : List ℕ → Reading A)
    → IsReader text_of Fits read → ((a : A) → Fits a → NewFits a × (new_text a ≡ text_of a)) → IsReader new_text NewFits read
IsReader-wider text_of new_text Fits NewFits read reader wider = record {
  taken = λ text value rest e.
      let t = reader.taken text value rest e in
      let w = wider value t.0 in
      (w.0, t.1 ∙ ap (λ (front : List ℕ). front ++ rest) (sym w.1));
  stuck = λ text left e.
      let s = reader.stuck text left e in
      let w = wider s.value s.fits in
      record { front = s.front; rest = s.rest; more = s.more; value = s.value; parts = s.parts; left_is = s.left_is; fits = w.0; spelled = s.spelled ∙ sym w.1 };
  takes_again = reader.takes_again;
  stuck_again = reader.stuck_again;
}

-- ---- a choice by the first byte

one_of : {X : Type 0} (b : Bool) (x y : X) → (cond b x y ≡ x) ⊎ (cond b x y ≡ y)
one_of true x y = inl refl
one_of false x y = inr refl

either_is : {A : Type 0} (test : ℕ → Bool) (matching other : List ℕ → Reading A) (text : List ℕ)
    → (either test matching other text ≡ matching text) ⊎ (either test matching other text ≡ other text)
either_is test matching other [] = inr refl
either_is test matching other (b ∷ bs) = one_of (test b) (matching (b ∷ bs)) (other (b ∷ bs))

either_taken : {A : Type 0} (text_of : A → List ℕ) (Fits : A → Type 0) (test : ℕ → Bool) (matching other : List ℕ → Reading A)
    → IsReader text_of Fits matching → IsReader text_of Fits other
    → (text : List ℕ) (value : A) (rest : List ℕ) → either test matching other text ≡ Ok (value, rest) → Fits value × (text ≡ text_of value ++ rest)
either_taken text_of Fits test matching other one two text value rest e = elim (either_is test matching other text) [
  | inl is ↦ one.taken text value rest (sym is ∙ e)
  | inr is ↦ two.taken text value rest (sym is ∙ e)
]

either_stuck : {A : Type 0} (text_of : A → List ℕ) (Fits : A → Type 0) (test : ℕ → Bool) (matching other : List ℕ → Reading A)
    → IsReader text_of Fits matching → IsReader text_of Fits other
    → (text : List ℕ) (left : ℕ) → either test matching other text ≡ Err left → Stops text_of Fits text left
either_stuck text_of Fits test matching other one two text left e = elim (either_is test matching other text) [
  | inl is ↦ one.stuck text left (sym is ∙ e)
  | inr is ↦ two.stuck text left (sym is ∙ e)
]

taken_by : {A : Type 0} (text_of : A → List ℕ) (Fits : A → Type 0) (matching other : List ℕ → Reading A)
    → IsReader text_of Fits matching → IsReader text_of Fits other
    → (b : Bool) (front x y : List ℕ) (value : A) (c : ℕ) (rest : List ℕ)
    → cond b (matching (front ++ x)) (other (front ++ x)) ≡ Ok (value, c ∷ (rest ++ x)) → cond b (matching (front ++ y)) (other (front ++ y)) ≡ Ok (value, c ∷ (rest ++ y))
taken_by text_of Fits matching other one two true front x y value c rest e = one.takes_again front x y value c rest e
taken_by text_of Fits matching other one two false front x y value c rest e = two.takes_again front x y value c rest e

stuck_by : {A : Type 0} (text_of : A → List ℕ) (Fits : A → Type 0) (matching other : List ℕ → Reading A)
    → IsReader text_of Fits matching → IsReader text_of Fits other
    → (b : Bool) (front x y : List ℕ) (k left : ℕ)
    → cond b (matching (front ++ x)) (other (front ++ x)) ≡ Err left → left ≡ suc k + length x → cond b (matching (front ++ y)) (other (front ++ y)) ≡ Err (suc k + length y)
stuck_by text_of Fits matching other one two true front x y k left e left_is = one.stuck_again front x y k left e left_is
stuck_by text_of Fits matching other one two false front x y k left e left_is = two.stuck_again front x y k left e left_is

either_takes_again : {A : Type 0} (text_of : A → List ℕ) (Fits : A → Type 0) (test : ℕ → Bool) (matching other : List ℕ → Reading A)
    → IsReader text_of Fits matching → IsReader text_of Fits other
    → (front x y : List ℕ) (value : A) (c : ℕ) (rest : List ℕ)
    → either test matching other (front ++ x) ≡ Ok (value, c ∷ (rest ++ x)) → either test matching other (front ++ y) ≡ Ok (value, c ∷ (rest ++ y))
either_takes_again text_of Fits test matching other one two [] x y value c rest e =
    absurd (omega (arith, ap length (either_taken text_of Fits test matching other one two x value (c ∷ (rest ++ x)) e).1, length-append (text_of value) (c ∷ (rest ++ x)), length-append rest x))
either_takes_again text_of Fits test matching other one two (f ∷ fs) x y value c rest e =
    taken_by text_of Fits matching other one two (test f) (f ∷ fs) x y value c rest e

either_stuck_again : {A : Type 0} (text_of : A → List ℕ) (Fits : A → Type 0) (test : ℕ → Bool) (matching other : List ℕ → Reading A)
    → IsReader text_of Fits matching → IsReader text_of Fits other
    → (front x y : List ℕ) (k left : ℕ)
    → either test matching other (front ++ x) ≡ Err left → left ≡ suc k + length x → either test matching other (front ++ y) ≡ Err (suc k + length y)
either_stuck_again text_of Fits test matching other one two [] x y k left e left_is =
    let s = either_stuck text_of Fits test matching other one two x left e in
    absurd (omega (arith, ap length s.parts, length-append s.front s.rest, s.left_is))
either_stuck_again text_of Fits test matching other one two (f ∷ fs) x y k left e left_is =
    stuck_by text_of Fits matching other one two (test f) (f ∷ fs) x y k left e left_is

pub IsReader-either : {A : Type 0} (text_of : A → List ℕ) (Fits : A → Type 0) (test : ℕ → Bool) (matching other : List ℕ → Reading A)
    → IsReader text_of Fits matching → IsReader text_of Fits other → IsReader text_of Fits (either test matching other)
IsReader-either text_of Fits test matching other one two = record {
  taken = either_taken text_of Fits test matching other one two;
  stuck = either_stuck text_of Fits test matching other one two;
  takes_again = either_takes_again text_of Fits test matching other one two;
  stuck_again = either_stuck_again text_of Fits test matching other one two;
}
