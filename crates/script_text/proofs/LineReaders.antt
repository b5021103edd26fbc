-- The reader of lines reads exactly the lines of the model, and is stuck at their longest beginning.
use Rattle.std.proofs.Common.{◌≡◌, ℕ, ◌-◌, ◌≤◌, List, [], ◌++◌, length, take, Some, Ok, Err, refl, sym, ap, subst, ◌∙◌, inl, inr}
use Rattle.std.proofs.lemmas.List.{append-nil}
use Rattle.type_desc.specs.Prefixes.{Begins, IsLongestBeginning, Spells}
use Rattle.type_desc.specs.Reader.{Reading, ◌>>=◌}
use Rattle.type_desc.proofs.Readers.{IsReader, IsReader-bind, IsReader-value, bind_ok, bind_err, bind_at, bind_stops, longest_beginning, whole_is_spelled, stuck_within, ok_is}
use Rattle.session_model.specs.Commands.{Command, command_of}
use Rattle.script_text.specs.Arguments.{Arguments, IsArguments, words_in, arguments_text, shape_of, arguments_at}
use Rattle.script_text.specs.Faults.{IsLine}
use Rattle.script_text.specs.Keywords.{keyword_text, keyword_at}
use Rattle.script_text.specs.Lines.{command_made, command_at, line_at}
use Rattle.script_text.specs.declared.keywords.Keyword.{Keyword}
use Rattle.script_text.proofs.ArgumentReaders.{IsReader-arguments, some_arguments, arguments_again}
use Rattle.script_text.proofs.KeywordReaders.{IsReader-keyword, keyword_again}
use Rattle.script_text.proofs.LineWords.{line_spelled, line_makes}

-- a keyword and what follows it
abbrev Parts : Type 0
Parts = Keyword × Arguments

abbrev text_of : Parts → List ℕ
text_of parts = keyword_text parts.0 ++ arguments_text parts.1

abbrev Fits : Parts → Type 0
Fits parts = IsArguments (shape_of parts.0) parts.1

abbrev parts_at : List ℕ → Reading Parts
parts_at text = keyword_at text >>= λ k. arguments_at (shape_of k.0) k.1 >>= λ a. Ok ((k.0, a.0), a.1)

-- ---- the reader of both parts

abbrev OfKeyword : Keyword → Parts → Type 0
OfKeyword k parts = (a : Arguments) × IsArguments (shape_of k) a × (parts ≡ (k, a))

abbrev behind_keyword : Parts → List ℕ
behind_keyword parts = arguments_text parts.1

with_keyword : (k : Keyword) → IsReader behind_keyword (OfKeyword k) (λ text. arguments_at (shape_of k) text >>= λ a. Ok ((k, a.0), a.1))
with_keyword k =
    IsReader-bind arguments_text (IsArguments (shape_of k)) (arguments_at (shape_of k)) (λ a parts. []) (λ a parts. parts ≡ (k, a)) (λ a text. Ok ((k, a), text)) behind_keyword (OfKeyword k)
    (IsReader-arguments (shape_of k)) (λ a is. IsReader-value (k, a)) (λ a is. ((k, a), refl))
    (λ a parts is same. ((a, is, same), ap behind_keyword same ∙ sym (append-nil (arguments_text a))))

IsReader-parts : IsReader text_of Fits parts_at
IsReader-parts =
    IsReader-bind keyword_text (λ (k : Keyword). Unit {0}) keyword_at (λ k parts. behind_keyword parts) OfKeyword
    (λ k text. arguments_at (shape_of k) text >>= λ a. Ok ((k, a.0), a.1)) text_of Fits
    IsReader-keyword (λ k fits. with_keyword k) (λ k fits. let some = some_arguments (shape_of k) in ((k, some.0), (some.0, some.1, refl)))
    (λ k parts fits of. subst (λ (x : Parts). Fits x × (text_of x ≡ keyword_text k ++ behind_keyword x)) (sym of.2) (of.1, refl))

parts_again : (parts : Parts) → Fits parts → parts_at (text_of parts) ≡ Ok (parts, [])
parts_again parts fits = rw (keyword_again parts.0 (words_in parts.1), arguments_again (shape_of parts.0) parts.1 fits) refl

-- ---- the reader of commands does as the reader of both parts does

record Read (text : List ℕ) (c : Command) (rest : List ℕ) : Type 0 where
  parts : Parts
  read : parts_at text ≡ Ok (parts, rest)
  made : command_made parts.0 parts.1 ≡ c

read_parts : (text : List ℕ) (c : Command) (rest : List ℕ) → line_at text ≡ Ok (c, rest) → Read text c rest
unfolding line_at command_at
read_parts text c rest e =
    let next : Keyword × List ℕ → Reading Parts = λ k. arguments_at (shape_of k.0) k.1 >>= λ a. Ok ((k.0, a.0), a.1) in
    let k = bind_ok (keyword_at text) (λ k. command_at k.0 k.1) (c, rest) e in
    let made : Arguments × List ℕ → Reading Command = λ a. Ok (command_made k.0.0 a.0, a.1) in
    let both : Arguments × List ℕ → Reading Parts = λ a. Ok ((k.0.0, a.0), a.1) in
    let a = bind_ok (arguments_at (shape_of k.0.0) k.0.1) made (c, rest) k.2 in
    let same : (command_made k.0.0 a.0.0, a.0.1) ≡ (c, rest) = ok_is _ _ a.2 in
    record {
      parts = (k.0.0, a.0.0);
      read =
          bind_at (keyword_at text) next k.0 (Ok ((k.0.0, a.0.0), rest)) k.1
          (bind_at (arguments_at (shape_of k.0.0) k.0.1) both a.0 (Ok ((k.0.0, a.0.0), rest)) a.1 (ap (λ (p : Command × List ℕ). Ok ((k.0.0, a.0.0), p.1)) same));
      made = ap (λ (p : Command × List ℕ). p.0) same;
    }

stuck_parts : (text : List ℕ) (left : ℕ) → line_at text ≡ Err left → parts_at text ≡ Err left
unfolding line_at command_at
stuck_parts text left e =
    let next : Keyword × List ℕ → Reading Parts = λ k. arguments_at (shape_of k.0) k.1 >>= λ a. Ok ((k.0, a.0), a.1) in
    elim (bind_err (keyword_at text) (λ k. command_at k.0 k.1) left e) [
      | inl here ↦ bind_stops (keyword_at text) next left here
      | inr k ↦
          let made : Arguments × List ℕ → Reading Command = λ a. Ok (command_made k.0.0 a.0, a.1) in
          let both : Arguments × List ℕ → Reading Parts = λ a. Ok ((k.0.0, a.0), a.1) in
          elim (bind_err (arguments_at (shape_of k.0.0) k.0.1) made left k.2) [
            | inl there ↦ bind_at (keyword_at text) next k.0 (Err left) k.1 (bind_stops (arguments_at (shape_of k.0.0) k.0.1) both left there)
            | inr never ↦ absurd (let ok = never.2 in cc)
          ]
    ]

read_again : (parts : Parts) → Fits parts → line_at (text_of parts) ≡ Ok (command_made parts.0 parts.1, [])
unfolding line_at command_at
read_again parts fits = rw (keyword_again parts.0 (words_in parts.1), arguments_again (shape_of parts.0) parts.1 fits) refl

-- ---- what is read, and where a reader is stuck

pub read_is_spelled : (text : List ℕ) (c : Command) → line_at text ≡ Ok (c, []) → command_of text ≡ Some c
read_is_spelled text c e =
    let r = read_parts text c [] e in
    let whole = whole_is_spelled text_of Fits parts_at IsReader-parts text r.parts r.read in
    ap command_of whole.1 ∙ line_makes r.parts.0 r.parts.1 whole.0 ∙ ap (λ (x : Command). Some x) r.made

pub spelled_is_read : (text : List ℕ) (c : Command) → command_of text ≡ Some c → line_at text ≡ Ok (c, [])
spelled_is_read text c e =
    let s = line_spelled text c e in
    ap line_at s.3 ∙ read_again (s.0, s.1) s.2 ∙ ap (λ (x : Command). Ok (x, [])) s.4

pub stuck_inside : (text : List ℕ) (left : ℕ) → line_at text ≡ Err left → left ≤ length text
stuck_inside text left e = stuck_within text_of Fits parts_at IsReader-parts text left (stuck_parts text left e)

pub stuck_is_no_line : (text : List ℕ) (left : ℕ) → line_at text ≡ Err left → ¬ (IsLine text)
stuck_is_no_line text left e line = let taken = spelled_is_read text line.0 line.1 in absurd cc

-- a text is a line exactly where it is spelled so
line_from : (text : List ℕ) → Spells text_of Fits text → IsLine text
line_from text whole = (command_made whole.0.0 whole.0.1, ap command_of whole.2 ∙ line_makes whole.0.0 whole.0.1 whole.1)

line_to : (text : List ℕ) → IsLine text → Spells text_of Fits text
line_to text line = let s = line_spelled text line.0 line.1 in ((s.0, s.1), s.2, s.3)

begins_from : (front : List ℕ) → Begins (Spells text_of Fits) front → Begins IsLine front
begins_from front begun = (begun.0, line_from (front ++ begun.0) begun.1)

begins_to : (front : List ℕ) → Begins IsLine front → Begins (Spells text_of Fits) front
begins_to front begun = (begun.0, line_to (front ++ begun.0) begun.1)

pub stuck_at_longest : (text : List ℕ) (left : ℕ) → line_at text ≡ Err left → IsLongestBeginning IsLine text (length text - left)
stuck_at_longest text left e =
    let l = longest_beginning text_of Fits parts_at IsReader-parts parts_again text left (stuck_parts text left e) in
    record { within = l.within; begins = begins_from (take (length text - left) text) l.begins; longest = λ n past within begun. l.longest n past within (begins_to (take n text) begun) }
