-- What `clap` makes of plain words at a command with one argument that takes them all.
use Rattle.std.proofs.Common.{◌≡◌, ℕ, ◌&&◌, ◌==◌, Bool, true, false, not, cond, List, [], ◌∷◌, ◌++◌, length, Some, None, nat_le, refl, sym, ap, ap₂, ◌∙◌, codes, true≢false, option_and_then, append_assoc, append-nil}
use Rattle.std.specs.List.{list_all, fold}
use Rattle.std.proofs.lemmas.Bool.{and_parts}
use Rattle.clap.specs.Lexer.{short_of, short_of_rest}
use Rattle.clap.specs.Walk.{Held, Rule, Text, Walk, idle, positional, value, all_of, finished, nothing_held, rows_after, takes_several, walk, walk_from, walked, word_met}
use Rattle.clap.specs.Simple.{Shape, new_rule, new_shape}
use Rattle.clap.specs.ValueTests.{accepts}
use Rattle.clap.specs.Takes.{default_passes, is_valid, level_passes, settle_passes, turn_passes, walk_passes, word_passes}
use Rattle.clap.specs.declared.builder.action.ArgAction.TheVariants.{Set}
use Rattle.clap.specs.declared.builder.value_parser.ValueParser.TheVariants as parser
use Rattle.store_words.specs.Grammar.{is_plain}

-- ---- one plain word

not_hyphen : (first : ℕ) → not (first == 45) ≡ true → (first == 45) ≡ false
not_hyphen first plain = go (first == 45) plain
  where
    go : (b : Bool) → not b ≡ true → b ≡ false
    go true e = absurd (true≢false (sym e))
    go false e = refl

no_short : (first : ℕ) (rest : Text) → not (first == 45) ≡ true → short_of (first ∷ rest) ≡ None
no_short first rest plain = ap (λ b. option_and_then short_of_rest (cond b (Some rest) None)) (not_hyphen first plain)

-- a plain word is a value, where nothing or a positional waits
plain_idle : (c : List Rule) (position : ℕ) (word : Text) (h : Held) → is_plain word ≡ true → word_met c [] false idle position word h ≡ (h, value)
plain_idle c position [] h plain = absurd (true≢false (sym plain))
plain_idle c position (first ∷ rest) h plain = rw (not_hyphen first plain, no_short first rest plain) refl

plain_positional : (c : List Rule) (position : ℕ) (word : Text) (h : Held) → is_plain word ≡ true → word_met c [] false positional position word h ≡ (h, value)
plain_positional c position [] h plain = absurd (true≢false (sym plain))
plain_positional c position (first ∷ rest) h plain = rw (not_hyphen first plain, no_short first rest plain) refl

-- and passes there
passes_idle : (s : Shape) (word : Text) (h : Held) → is_plain word ≡ true → word_passes s [] false idle word h ≡ true
passes_idle s [] h plain = absurd (true≢false (sym plain))
passes_idle s (first ∷ rest) h plain = rw (not_hyphen first plain, no_short first rest plain) refl

passes_positional : (s : Shape) (word : Text) (h : Held) → is_plain word ≡ true → word_passes s [] false positional word h ≡ true
passes_positional s [] h plain = absurd (true≢false (sym plain))
passes_positional s (first ∷ rest) h plain = rw (not_hyphen first plain, no_short first rest plain) refl

-- ---- a command with one argument that takes all words behind its name

-- the argument, built
abbrev pub taker : ℕ → ℕ → Rule
taker least most = record (new_rule (codes "words")) {
  index = Some 1;
  action = Some Set;
  range = Some (record { start_inclusive = least; end_inclusive = most });
  parser = Some parser.String;
  required = true;
}

-- the command, built
abbrev pub leaf : Text → ℕ → ℕ → Shape
leaf name least most = record (new_shape name) {
  rules = taker least most ∷ [];
  no_binary_name = true;
  disable_help_flag = true;
  disable_help_subcommand = true;
  is_built = true;
}

-- the walk once these words were met
abbrev holding : List Text → Walk
holding words = record {
  held = record { rows = []; pending = Some (codes "words", words); skip = 0 };
  waiting = positional;
  position = 1;
  is_trailing = false;
  stopped = None;
}

-- any text will do as a value
any_text : (values : List Text) → list_all (λ value. accepts false parser.String value) values ≡ true
any_text [] = refl
any_text (text ∷ texts) = any_text texts

module _ (name : Text) (least most : ℕ) (several : takes_several (taker least most) ≡ true) where
  abbrev rules : List Rule
  rules = taker least most ∷ []

  first_word : (word : Text) → is_plain word ≡ true → walked rules [] (walk_from nothing_held) word ≡ holding (word ∷ [])
  unfolding walked
  first_word word plain = rw (plain_idle rules 1 word nothing_held plain, several) refl

  next_word : (words : List Text) (word : Text) → is_plain word ≡ true → walked rules [] (holding words) word ≡ holding (words ++ word ∷ [])
  unfolding walked
  next_word words word plain = rw (plain_positional rules 1 word (holding words).held plain, several) refl

  next_words : (before more : List Text) → list_all is_plain more ≡ true → fold (walked rules []) (holding before) more ≡ holding (before ++ more)
  next_words before [] plain = ap holding (sym (append-nil before))
  next_words before (word ∷ more) plain =
      let parts = and_parts _ _ plain in
      ap (λ w. fold (walked rules []) w more) (next_word before word parts.0) ∙ next_words (before ++ word ∷ []) more parts.1
      ∙ ap holding (append_assoc before (word ∷ []) more)

  all_words : (word : Text) (more : List Text) → list_all is_plain (word ∷ more) ≡ true → walk rules [] nothing_held (word ∷ more) ≡ holding (word ∷ more)
  all_words word more plain =
      let parts = and_parts _ _ plain in
      ap (λ w. fold (walked rules []) w more) (first_word word parts.0) ∙ next_words (word ∷ []) more parts.1

  -- each word passes
  first_passes : (word : Text) → is_plain word ≡ true → turn_passes (leaf name least most) [] (walk_from nothing_held) word ≡ true
  first_passes word plain = rw (passes_idle (leaf name least most) word nothing_held plain, plain_idle rules 1 word nothing_held plain) refl

  next_passes : (words : List Text) (word : Text) → is_plain word ≡ true → turn_passes (leaf name least most) [] (holding words) word ≡ true
  next_passes words word plain =
      rw (passes_positional (leaf name least most) word (holding words).held plain, plain_positional rules 1 word (holding words).held plain, several) refl

  more_pass : (before more : List Text) → list_all is_plain more ≡ true → walk_passes (leaf name least most) [] (holding before) more ≡ true
  unfolding walk_passes
  more_pass before [] plain = refl
  more_pass before (word ∷ more) plain =
      let parts = and_parts _ _ plain in
      ap₂ (λ a w. a && walk_passes (leaf name least most) [] w more) (next_passes before word parts.0) (next_word before word parts.0)
      ∙ more_pass (before ++ word ∷ []) more parts.1

  all_pass : (word : Text) (more : List Text) → list_all is_plain (word ∷ more) ≡ true → walk_passes (leaf name least most) [] (walk_from nothing_held) (word ∷ more) ≡ true
  unfolding walk_passes
  all_pass word more plain =
      let parts = and_parts _ _ plain in
      ap₂ (λ a w. a && walk_passes (leaf name least most) [] w more) (first_passes word parts.0) (first_word word parts.0)
      ∙ more_pass (word ∷ []) more parts.1

  -- what is asked at the end of the words
  abbrev end_passes : Held → Bool
  end_passes end = settle_passes rules false end && (list_all default_passes rules && is_valid (leaf name least most) (finished rules end) false)

  end_of : (word : Text) (more : List Text) → nat_le least (length (word ∷ more)) ≡ true → nat_le (length (word ∷ more)) most ≡ true
      → end_passes (holding (word ∷ more)).held ≡ true
  end_of word more enough few =
      let any = any_text (word ∷ more) in
      rw (enough, few, any) refl

  pub leaf_takes : (word : Text) (more : List Text) → list_all is_plain (word ∷ more) ≡ true
      → nat_le least (length (word ∷ more)) ≡ true → nat_le (length (word ∷ more)) most ≡ true
      → level_passes (leaf name least most) [] nothing_held (word ∷ more) false ≡ true
  leaf_takes word more plain enough few =
      ap₂ (λ a (w : Walk). a && end_passes w.held) (all_pass word more plain) (all_words word more plain) ∙ end_of word more enough few

  -- the words themselves are what is kept
  pub leaf_keeps : (word : Text) (more : List Text) → list_all is_plain (word ∷ more) ≡ true
      → all_of (codes "words") (rows_after rules [] (word ∷ more)) ≡ Some (word ∷ more)
  leaf_keeps word more plain = ap (λ (w : Walk). all_of (codes "words") (finished rules w.held)) (all_words word more plain)
