use Rattle.std.proofs.Common.{rules, ◌≡◌, ◌∙◌, Some, sym, ap, option_map}
use Rattle.clap.specs.Words.{found_of, rows_of, subcommand_rows_of}
use Rattle.store_words.proofs.ClapCommands.{kept_is}
use Rattle.store_words.proofs.words.behind_name.Goals as goal

pub returns : goal.returns
returns c =
    let met : c.subcommand.result ≡ Some (c.in_ok-command.field-0-0, c.in_ok-command.command) = search rules in
    let rows : Some (rows_of (found_of c.in_ok-command.command.now)) ≡ option_map (λ p. p.1) (subcommand_rows_of c.args.found.now) =
    sym (ap (option_map (λ p. rows_of (found_of p.1.now))) met) ∙ c.subcommand.ensures.rows in
    kept_is _ (found_of c.in_ok-command.command.now) _ rows c.get_strs.ensures
