-- The commands as `clap` knows them. No public clause cites this module.
use Rattle.std.specs.Prelude.{ℕ, ◌&&◌, Bool, List, [], ◌∷◌, length, Option, None, Some, nat_le, true, codes, option_and_then}
use Rattle.clap.specs.Words.{App, Row, Rule, Shape, all_of, new_app, new_rule, with_rule, with_subcommand}
use Rattle.clap.specs.declared.builder.range.ValueRange.{ValueRange}
use Rattle.store_words.specs.Verbs.{name_of}
use Rattle.store_words.specs.declared.verb.Verb.{Verb}
use Rattle.store_words.specs.declared.verb.Verb.TheVariants.{Run, Work, Check, Export, Generate, Trial}

-- how many words stand behind a command's name
abbrev pub count_of : Verb → ValueRange
count_of Run = record { start_inclusive = 2; end_inclusive = 5 }
count_of Work = record { start_inclusive = 3; end_inclusive = 6 }
count_of Check = record { start_inclusive = 2; end_inclusive = 2 }
count_of Export = record { start_inclusive = 2; end_inclusive = 2 }
count_of Generate = record { start_inclusive = 2; end_inclusive = 2 }
count_of Trial = record { start_inclusive = 4; end_inclusive = 4 }

-- the words behind a command's name, as one argument
abbrev pub words_rule : Verb → Rule
words_rule verb = record (new_rule (codes "words")) { range = Some (count_of verb); required = true }

abbrev pub command_shape : Verb → Shape
command_shape verb = (with_rule (new_app (name_of verb)) (words_rule verb)).top

abbrev pub bare_app : App
bare_app =
    let app = new_app (codes "store_main") in
    record app { top = record app.top { no_binary_name = true; disable_help_flag = true; disable_help_subcommand = true } }

abbrev pub program_app : App
program_app =
    with_subcommand (with_subcommand (with_subcommand (with_subcommand (with_subcommand (with_subcommand bare_app
    (command_shape Run)) (command_shape Work)) (command_shape Check)) (command_shape Export)) (command_shape Generate)) (command_shape Trial)

-- the words behind the name are as many as the command takes
abbrev pub fits_count : Verb → List (List ℕ) → Bool
fits_count verb rest = nat_le (count_of verb).start_inclusive (length rest) && nat_le (length rest) (count_of verb).end_inclusive

-- the words that a parse keeps of the command that it met
abbrev pub kept_of : Option (List ℕ × List Row) → Option (List (List ℕ))
kept_of found = option_and_then (λ p. all_of (codes "words") p.1) found

-- the words, if there are any
abbrev pub some_words : List (List ℕ) → Option (List (List ℕ))
some_words [] = None
some_words (word ∷ more) = Some (word ∷ more)
