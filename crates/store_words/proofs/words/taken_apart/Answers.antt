use Rattle.std.proofs.Common.{◌∙◌, ap, ap₂}
use Rattle.clap.specs.Simple.{is_simple, subcommand_of}
use Rattle.clap.specs.Takes.{takes}
use Rattle.store_words.specs.ClapCommands.{kept_of}
use Rattle.store_words.proofs.ClapCommands.{keeps_words, program_simple, takes_words}
use Rattle.store_words.proofs.words.taken_apart.Goals as goal

pub returns-in-Ok-clause-kept : goal.returns-in-Ok-clause-kept
returns-in-Ok-clause-kept c = λ verb rest named plain.
    ap kept_of ((c.in-Ok.ensures.matches (ap is_simple c.in_ok-program.ensures ∙ program_simple)).1 ∙ ap₂ subcommand_of c.in_ok-program.ensures named)
    ∙ keeps_words verb rest plain

pub returns-in-Err-clause-fails : goal.returns-in-Err-clause-fails
returns-in-Err-clause-fails c = λ verb rest named plain fits.
    c.fault_of.ensures (c.in-Err.ensures.passes (ap₂ takes c.in_ok-program.ensures named ∙ takes_words verb rest plain fits))
