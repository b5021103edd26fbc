-- What `clap` makes of a command's name and plain words behind it.
use Rattle.std.proofs.Common.{◌≡◌, ◌&&◌, Bool, true, false, List, [], ◌∷◌, ◌++◌, length, Option, Some, None, nat_le, map, refl, sym, ap, ap₂, Bor, ◌∙◌, codes, true≢false, is_some, option_map, append_assoc, append-nil}
use Rattle.std.specs.List.{list_all, fold, find}
use Rattle.std.proofs.lemmas.Bool.{and_parts}
use Rattle.std.specs.Option.{option_map_or}
use Rattle.clap.specs.Walk.{Names, Row, Rule, Text, Walk, all_of, answers_to, finished, nothing_held, rows_of, takes_several, walk, walk_from, walked}
use Rattle.clap.specs.Simple.{App, Shape, built, entered, is_simple, label_of, names_of, rows_at, subcommand_of}
use Rattle.clap.specs.Takes.{default_passes, entered_passes, is_valid, level_passes, settle_passes, takes, turn_passes, walk_passes}
use Rattle.clap.specs.Matches.{matched_of, raw_values}
use Rattle.clap.specs.declared.parser.matches.Found.{Found}
use Rattle.clap.proofs.OnLiterals.{clap_on_literals}
use Rattle.clap.proofs.WalkLemmas.{raw_values-rows}
use Rattle.store_words.specs.ClapCommands.{count_of, fits_count, kept_of, program_app, some_words}
use Rattle.store_words.specs.Grammar.{is_plain}
use Rattle.store_words.specs.Reading.{words_of}
use Rattle.store_words.specs.Verbs.{name_of}
use Rattle.store_words.specs.declared.verb.Verb.{Verb}
use Rattle.store_words.specs.declared.verb.Verb.TheVariants as verb
use Rattle.store_words.proofs.ClapWalks.{leaf, leaf_keeps, leaf_takes, taker}

-- ---- the walk at the program's own level, which ends at a command's name

abbrev stopped_at : Text → List Text → Walk
stopped_at name rest = record (walk_from nothing_held) { stopped = Some (name, rest) }

after_stop : (c : List Rule) (names : Names) (name : Text) (before rest : List Text) → fold (walked c names) (stopped_at name before) rest ≡ stopped_at name (before ++ rest)
unfolding walked
after_stop c names name before [] = ap (stopped_at name) (sym (append-nil before))
after_stop c names name before (word ∷ rest) =
    after_stop c names name (before ++ word ∷ []) rest ∙ ap (stopped_at name) (append_assoc before (word ∷ []) rest)

stop_passes : (s : Shape) (names : Names) (name : Text) (before rest : List Text) → walk_passes s names (stopped_at name before) rest ≡ true
unfolding walk_passes walked
stop_passes s names name before [] = refl
stop_passes s names name before (word ∷ rest) = stop_passes s names name (before ++ word ∷ []) rest

abbrev app : App
app = built program_app

abbrev leaf_of : Verb → Shape
leaf_of v = leaf (name_of v) (count_of v).start_inclusive (count_of v).end_inclusive

several : (v : Verb) → takes_several (taker (count_of v).start_inclusive (count_of v).end_inclusive) ≡ true
several verb.Run = refl
several verb.Work = refl
several verb.Check = refl
several verb.Export = refl
several verb.Generate = refl
several verb.Trial = refl

meets_name : (v : Verb) → walked app.top.rules (names_of app) (walk_from nothing_held) (name_of v) ≡ stopped_at (name_of v) []
unfolding clap_on_literals
meets_name verb.Run = refl
meets_name verb.Work = refl
meets_name verb.Check = refl
meets_name verb.Export = refl
meets_name verb.Generate = refl
meets_name verb.Trial = refl

name_passes : (v : Verb) → turn_passes app.top (names_of app) (walk_from nothing_held) (name_of v) ≡ true
unfolding clap_on_literals
name_passes verb.Run = refl
name_passes verb.Work = refl
name_passes verb.Check = refl
name_passes verb.Export = refl
name_passes verb.Generate = refl
name_passes verb.Trial = refl

finds_leaf : (v : Verb) → find (λ s. answers_to (name_of v) (label_of s)) app.subs ≡ Some (leaf_of v)
unfolding clap_on_literals
finds_leaf verb.Run = refl
finds_leaf verb.Work = refl
finds_leaf verb.Check = refl
finds_leaf verb.Export = refl
finds_leaf verb.Generate = refl
finds_leaf verb.Trial = refl

top_walk : (v : Verb) (rest : List Text) → walk app.top.rules (names_of app) nothing_held (name_of v ∷ rest) ≡ stopped_at (name_of v) rest
top_walk v rest = ap (λ w. fold (walked app.top.rules (names_of app)) w rest) (meets_name v) ∙ after_stop app.top.rules (names_of app) (name_of v) [] rest

top_words_pass : (v : Verb) (rest : List Text) → walk_passes app.top (names_of app) (walk_from nothing_held) (name_of v ∷ rest) ≡ true
unfolding walk_passes
top_words_pass v rest =
    ap₂ (λ a w. a && walk_passes app.top (names_of app) w rest) (name_passes v) (meets_name v) ∙ stop_passes app.top (names_of app) (name_of v) [] rest

-- what is asked at the end of the program's own level
abbrev top_end_passes : Walk → Bool → Bool
top_end_passes w has_command =
    settle_passes app.top.rules false w.held && (list_all default_passes app.top.rules && is_valid app.top (finished app.top.rules w.held) has_command)

-- a parse takes the words where their count is right
command_takes : (v : Verb) (word : Text) (more : List Text) → list_all is_plain (word ∷ more) ≡ true
    → nat_le (count_of v).start_inclusive (length (word ∷ more)) ≡ true → nat_le (length (word ∷ more)) (count_of v).end_inclusive ≡ true
    → takes program_app (name_of v ∷ word ∷ more) ≡ true
command_takes v word more plain enough few =
    let below : entered_passes app (Some (name_of v, word ∷ more)) ≡ true =
    ap (λ o. option_map_or (λ s. level_passes s [] nothing_held (word ∷ more) false) o true) (finds_leaf v)
    ∙ leaf_takes (name_of v) (count_of v).start_inclusive (count_of v).end_inclusive (several v) word more plain enough few in
    let simple : is_simple program_app ≡ true = refl in
    ap (λ (w : Walk). is_simple program_app && (entered_passes app w.stopped
    && (walk_passes app.top (names_of app) (walk_from nothing_held) (name_of v ∷ word ∷ more) && top_end_passes w (is_some (entered app w.stopped)))))
    (top_walk v (word ∷ more))
    ∙ (λ i. simple i && (below i && (top_words_pass v (word ∷ more) i && top_end_passes (stopped_at (name_of v) (word ∷ more)) (is_some (entered app (Some (name_of v, word ∷ more)))))))

command_keeps : (v : Verb) (word : Text) (more : List Text) → list_all is_plain (word ∷ more) ≡ true
    → kept_of (subcommand_of program_app (name_of v ∷ word ∷ more)) ≡ Some (word ∷ more)
command_keeps v word more plain =
    ap (λ (w : Walk). kept_of (entered app w.stopped)) (top_walk v (word ∷ more))
    ∙ ap (λ o. kept_of (option_map (λ s. rows_at s (word ∷ more)) o)) (finds_leaf v)
    ∙ leaf_keeps (name_of v) (count_of v).start_inclusive (count_of v).end_inclusive (several v) word more plain

command_keeps_none : (v : Verb) → kept_of (subcommand_of program_app (name_of v ∷ [])) ≡ None
command_keeps_none v =
    ap (λ (w : Walk). kept_of (entered app w.stopped)) (top_walk v [])
    ∙ ap (λ o. kept_of (option_map (λ s. rows_at s []) o)) (finds_leaf v)

-- the same, whatever the words behind the name
pub keeps_words : (v : Verb) (rest : List Text) → list_all is_plain rest ≡ true → kept_of (subcommand_of program_app (name_of v ∷ rest)) ≡ some_words rest
keeps_words v [] plain = command_keeps_none v
keeps_words v (word ∷ more) plain = command_keeps v word more plain

pub takes_words : (v : Verb) (rest : List Text) → list_all is_plain rest ≡ true → fits_count v rest ≡ true → takes program_app (name_of v ∷ rest) ≡ true
takes_words v [] plain fits = absurd (never_empty v fits)
  where
    never_empty : (w : Verb) → fits_count w [] ≡ true → ⊥
    never_empty verb.Run e = true≢false (sym e)
    never_empty verb.Work e = true≢false (sym e)
    never_empty verb.Check e = true≢false (sym e)
    never_empty verb.Export e = true≢false (sym e)
    never_empty verb.Generate e = true≢false (sym e)
    never_empty verb.Trial e = true≢false (sym e)
takes_words v (word ∷ more) plain fits = let parts = and_parts _ _ fits in command_takes v word more plain parts.0 parts.1

-- the words that a parse kept, read from what it found
pub kept_is : (o : Option (Text × List Row)) (f : Found) (r : Option (Bor (List (Bor Text)))) → Some (rows_of f) ≡ option_map (λ p. p.1) o
    → option_map (λ s. map (λ v. v.now) s.now) r ≡ option_map raw_values (matched_of f (codes "words")) → option_map (λ s. words_of s.now) r ≡ kept_of o
kept_is None f r has read = absurd cc
kept_is (Some p) f r has read =
    let rows : rows_of f ≡ p.1 = cc in
    read ∙ raw_values-rows f (codes "words") ∙ ap (all_of (codes "words")) rows

pub program_simple : is_simple program_app ≡ true
program_simple = refl
