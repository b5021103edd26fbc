-- The names of the commands.
use Rattle.std.specs.Prelude.{ℕ, List, Option, Some, None, codes, if◌then◌else◌}
use Rattle.std.specs.Str.{bytes_eq}
use Rattle.store_words.specs.declared.verb.Verb.{Verb}
use Rattle.store_words.specs.declared.verb.Verb.TheVariants.{Run, Work, Check, Export, Generate, Trial}

abbrev pub name_of : Verb → List ℕ
name_of Run = codes "run"
name_of Work = codes "work"
name_of Check = codes "check"
name_of Export = codes "export"
name_of Generate = codes "generate"
name_of Trial = codes "trial"

abbrev pub verb_named : List ℕ → Option Verb
verb_named word =
    if bytes_eq word (codes "run") then Some Run
    else (if bytes_eq word (codes "work") then Some Work
    else (if bytes_eq word (codes "check") then Some Check
    else (if bytes_eq word (codes "export") then Some Export
    else (if bytes_eq word (codes "generate") then Some Generate
    else (if bytes_eq word (codes "trial") then Some Trial
    else None)))))
