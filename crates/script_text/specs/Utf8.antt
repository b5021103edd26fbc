-- The rest of a line, which is UTF-8.
use Rattle.std.specs.Prelude.{ℕ, ◌-◌, Bool, false, ◌&&◌, ◌==◌, if◌then◌else◌, List, [], ◌∷◌, length, take, drop, Ok, Err}
use Rattle.std.specs.Int.{is_in_range}
use Rattle.std.specs.Str.{is_utf8}
use Rattle.std.specs.Str.Lossy.{utf8_valid_len}
use Rattle.type_desc.specs.Reader.{Reading}

-- whether the second byte may follow the first, in a character of three or four bytes
abbrev pub may_follow : ℕ → ℕ → Bool
may_follow first second =
    if first == 0xE0 then is_in_range 0xA0 0xBF second
    else (if first == 0xED then is_in_range 0x80 0x9F second
    else (if first == 0xF0 then is_in_range 0x90 0xBF second
    else (if first == 0xF4 then is_in_range 0x80 0x8F second
    else is_in_range 0x80 0xBF second)))

-- the bytes begin a character and do not finish it
abbrev pub is_cut_char : List ℕ → Bool
is_cut_char (a ∷ []) = is_in_range 0xC2 0xF4 a
is_cut_char (a ∷ (b ∷ [])) = is_in_range 0xE0 0xF4 a && may_follow a b
is_cut_char (a ∷ (b ∷ (c ∷ []))) = is_in_range 0xF0 0xF4 a && is_in_range 0x80 0xBF c && may_follow a b
is_cut_char _ = false

-- how many bytes at the front are a cut character: three, two, one or none
unfoldable pub cut_len : List ℕ → ℕ
cut_len text =
    if is_cut_char (take 3 text) then length (take 3 text)
    else (if is_cut_char (take 2 text) then length (take 2 text)
    else (if is_cut_char (take 1 text) then length (take 1 text) else 0))

-- how many bytes are left behind the longest front that begins a text in UTF-8: whole characters,
-- and behind them a cut one
abbrev pub left_of : List ℕ → ℕ
left_of text = let tail = drop (utf8_valid_len text) text in length tail - cut_len tail

-- all of the text
unfoldable pub rest_at : List ℕ → Reading (List ℕ)
rest_at text = if is_utf8 text then Ok (text, []) else Err (left_of text)
