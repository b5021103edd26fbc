-- Texts without a line feed: numbers, hexadecimal digits and lines of JSON.
use Rattle.std.proofs.Common.{◌≡◌, ◌≤◌, ◌+◌, ◌/◌, ◌%◌, ◌++◌, ◌==◌, ◌||◌, [], ◌∷◌, ℕ, ℤ, pos, negsuc, zero, suc, Bool, true, false, cond, nat_lt, if◌then◌else◌, List, flat_map, codes, refl, arith, eqb-true, ltb-false, ne_eqb}
use Rattle.std.specs.Char.{digit_char}
use Rattle.std.specs.Fmt.{decimal, digits, digits_onto, digit_glyph, signed_decimal}
use Rattle.json.specs.Print.{escape, escape_byte, escape_letter, quoted}
use Rattle.serde_json.specs.Data.{Data, Num, unsigned, negative, float, null, boolean, number, string, array, object, Items, no_items, item, Members, no_members, member}
use Rattle.serde_json.specs.Written.{comma_if, compact_text, items_text, members_text, number_text}
use Rattle.type_desc.specs.declared.desc.TypeDesc.{TypeDesc}
use Rattle.entity_form.specs.declared.value.Object.{Object}
use Rattle.graph_export.specs.Line.{HasNoFeed, line, line_data}

abbrev pub feedless : List ℕ → Bool
feedless [] = true
feedless (b ∷ bytes) = if b == 10 then false else feedless bytes

feedless_first : (b : ℕ) (bytes : List ℕ) (t : Bool) → (b == 10) ≡ t → (if t then false else feedless bytes) ≡ true → (feedless bytes ≡ true → HasNoFeed bytes) → HasNoFeed (b ∷ bytes)
feedless_first b bytes true here is rest = absurd cc
feedless_first b bytes false here is rest = (here, rest is)

-- a literal is seen to have none
pub feedless_is : (bytes : List ℕ) → feedless bytes ≡ true → HasNoFeed bytes
feedless_is [] is = tt
feedless_is (b ∷ bytes) is = feedless_first b bytes (b == 10) refl is (feedless_is bytes)

pub no_feed-append : (a b : List ℕ) → HasNoFeed a → HasNoFeed b → HasNoFeed (a ++ b)
no_feed-append [] b first second = second
no_feed-append (x ∷ a) b first second = (first.0, no_feed-append a b first.1 second)

no_feed-flat_map : (f : ℕ → List ℕ) → ((x : ℕ) → HasNoFeed (f x)) → (xs : List ℕ) → HasNoFeed (flat_map f xs)
no_feed-flat_map f each [] = tt
no_feed-flat_map f each (x ∷ xs) = no_feed-append (f x) (flat_map f xs) (each x) (no_feed-flat_map f each xs)

either_no_feed : (t : Bool) (a b : List ℕ) → HasNoFeed a → HasNoFeed b → HasNoFeed (if t then a else b)
either_no_feed true a b first second = first
either_no_feed false a b first second = second

other_byte : (t : Bool) (a b : ℕ) → (a == 10) ≡ false → (b == 10) ≡ false → ((cond t a b) == 10) ≡ false
other_byte true a b first second = first
other_byte false a b first second = second

-- ---- numbers

from_48 : (d : ℕ) → ((48 + d) == 10) ≡ false
from_48 d = ne_eqb (48 + d) 10 (λ same. omega (arith, same))

from_87 : (d : ℕ) → ((87 + d) == 10) ≡ false
from_87 d = ne_eqb (87 + d) 10 (λ same. omega (arith, same))

digits_no_feed : (k n : ℕ) (more : List ℕ) → HasNoFeed more → HasNoFeed (digits_onto k 10 false n more)
digits_no_feed zero n more none = none
digits_no_feed (suc k) n more none =
    let glyph = digit_glyph false (n % 10) in
    let here : HasNoFeed (glyph ∷ more) = (other_byte (nat_lt (n % 10) 10) (48 + n % 10) (87 + n % 10) (from_48 (n % 10)) (from_87 (n % 10)), none) in
    either_no_feed (n / 10 == 0) (glyph ∷ more) (digits_onto k 10 false (n / 10) (glyph ∷ more)) here (digits_no_feed k (n / 10) (glyph ∷ more) here)

pub decimal_no_feed : (n : ℕ) → HasNoFeed (decimal n)
unfolding digits
decimal_no_feed n = digits_no_feed 64 n [] tt

signed_no_feed : (z : ℤ) → HasNoFeed (signed_decimal z)
signed_no_feed (pos n) = decimal_no_feed n
signed_no_feed (negsuc n) = (refl, decimal_no_feed (suc n))

number_no_feed : (n : Num) → HasNoFeed (number_text n)
number_no_feed (unsigned n) = decimal_no_feed n
number_no_feed (negative z) = signed_no_feed z
number_no_feed (float x) = tt

-- ---- strings

-- a quote or a backslash stands for itself, and any other letter is one of five
quote_or : (quote slash : Bool) (x letter : ℕ) → (x == 34) ≡ quote → (x == 92) ≡ slash → (letter == 10) ≡ false → ((cond (quote || slash) x letter) == 10) ≡ false
quote_or true slash x letter is either other = let same : x ≡ 34 = eqb-true x 34 is in ne_eqb x 10 (λ feed. omega (arith, same, feed))
quote_or false true x letter unlike is other = let same : x ≡ 92 = eqb-true x 92 is in ne_eqb x 10 (λ feed. omega (arith, same, feed))
quote_or false false x letter unlike never other = other

letter_no_feed : (x : ℕ) → (escape_letter x == 10) ≡ false
letter_no_feed x = quote_or (x == 34) (x == 92) x _ refl refl
    (other_byte (x == 8) 98 _ refl (other_byte (x == 12) 102 _ refl (other_byte (x == 10) 110 _ refl (other_byte (x == 13) 114 _ refl (other_byte (x == 9) 116 0 refl refl)))))

digit_no_feed : (d : ℕ) → (digit_char d == 10) ≡ false
digit_no_feed d = other_byte (nat_lt d 10) (48 + d) (87 + d) (from_48 d) (from_87 d)

-- a byte below 32 is escaped, and a line feed is one
low_no_feed : (low : Bool) (x : ℕ) → nat_lt x 32 ≡ low → HasNoFeed (cond low (92 ∷ 117 ∷ 48 ∷ 48 ∷ digit_char (x / 16) ∷ digit_char (x % 16) ∷ []) (x ∷ []))
low_no_feed true x is = (refl, (refl, (refl, (refl, (digit_no_feed (x / 16), (digit_no_feed (x % 16), tt))))))
low_no_feed false x is = let high : 32 ≤ x = ltb-false x 32 is in (ne_eqb x 10 (λ feed. omega (arith, high, feed)), tt)

escape_no_feed : (x : ℕ) → HasNoFeed (escape_byte x)
unfolding escape_byte
escape_no_feed x = either_no_feed (nat_lt 0 (escape_letter x)) (92 ∷ escape_letter x ∷ []) _ (refl, (letter_no_feed x, tt)) (low_no_feed (nat_lt x 32) x refl)

quoted_no_feed : (text : List ℕ) → HasNoFeed (quoted text)
quoted_no_feed text = (refl, no_feed-append (escape text) (34 ∷ []) (no_feed-flat_map escape_byte escape_no_feed text) (refl, tt))

-- ---- JSON

comma_no_feed : (later : Bool) → HasNoFeed (comma_if later)
comma_no_feed true = (refl, tt)
comma_no_feed false = tt

mutual
  json_no_feed : (d : Data) → HasNoFeed (compact_text d)
  json_no_feed null = feedless_is (codes "null") refl
  json_no_feed (boolean true) = feedless_is (codes "true") refl
  json_no_feed (boolean false) = feedless_is (codes "false") refl
  json_no_feed (number n) = number_no_feed n
  json_no_feed (string s) = quoted_no_feed s
  json_no_feed (array ds) = (refl, items_no_feed false ds)
  json_no_feed (object ms) = (refl, members_no_feed false ms)

  items_no_feed : (later : Bool) (ds : Items) → HasNoFeed (items_text later ds)
  items_no_feed later no_items = (refl, tt)
  items_no_feed later (item d ds) = no_feed-append (comma_if later) (compact_text d ++ items_text true ds) (comma_no_feed later)
      (no_feed-append (compact_text d) (items_text true ds) (json_no_feed d) (items_no_feed true ds))

  members_no_feed : (later : Bool) (ms : Members) → HasNoFeed (members_text later ms)
  members_no_feed later no_members = (refl, tt)
  members_no_feed later (member k d ms) =
      no_feed-append (comma_if later) (quoted k ++ 58 ∷ (compact_text d ++ members_text true ms)) (comma_no_feed later)
      (no_feed-append (quoted k) (58 ∷ (compact_text d ++ members_text true ms)) (quoted_no_feed k)
      (refl, no_feed-append (compact_text d) (members_text true ms) (json_no_feed d) (members_no_feed true ms)))

pub line_no_feed : (id : ℕ) (o : Object) (desc : TypeDesc) → HasNoFeed (line id o desc)
unfolding line
line_no_feed id o desc = json_no_feed (line_data id o desc)
