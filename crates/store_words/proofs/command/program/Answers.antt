use Rattle.std.proofs.Common.{◌≡◌, ◌∙◌, ap, ap₂, true}
use Rattle.std.proofs.lemmas.Result.{IfOk-weaker}
use Rattle.clap.specs.Simple.{App, app_of, app_of_fields, on_top, with_subcommand}
use Rattle.store_words.specs.ClapCommands.{bare_app}
use Rattle.store_words.proofs.command.program.Goals as goal

abbrev without_name : App → App
without_name = on_top (λ s. record s { no_binary_name = true })

abbrev without_flag : App → App
without_flag = on_top (λ s. record s { disable_help_flag = true })

abbrev without_help : App → App
without_help = on_top (λ s. record s { disable_help_subcommand = true })

pub returns : goal.returns
returns c =
    let named : app_of c.no_binary_name.result ≡ without_name (app_of c.new.result) = ap app_of_fields c.no_binary_name.ensures in
    let unflagged : app_of c.disable_help_flag.result ≡ without_flag (app_of c.no_binary_name.result) = ap app_of_fields c.disable_help_flag.ensures in
    let unhelped : app_of c.disable_help_subcommand.result ≡ without_help (app_of c.disable_help_flag.result) = ap app_of_fields c.disable_help_subcommand.ensures in
    let bare : app_of c.disable_help_subcommand.result ≡ bare_app =
    unhelped ∙ ap without_help (unflagged ∙ ap without_flag (named ∙ ap without_name c.new.ensures.app)) in
    let one = c.in_ok-subcommand.ensures.shape c.in_ok-command.ensures.local ∙ ap₂ with_subcommand bare c.in_ok-command.ensures.shape in
    let two = c.in_ok-subcommand-2.ensures.shape c.in_ok-command-2.ensures.local ∙ ap₂ with_subcommand one c.in_ok-command-2.ensures.shape in
    let three = c.in_ok-subcommand-3.ensures.shape c.in_ok-command-3.ensures.local ∙ ap₂ with_subcommand two c.in_ok-command-3.ensures.shape in
    let four = c.in_ok-subcommand-4.ensures.shape c.in_ok-command-4.ensures.local ∙ ap₂ with_subcommand three c.in_ok-command-4.ensures.shape in
    let five = c.in_ok-subcommand-5.ensures.shape c.in_ok-command-5.ensures.local ∙ ap₂ with_subcommand four c.in_ok-command-5.ensures.shape in
    IfOk-weaker c.subcommand-6.result _ _
    (λ program adds. adds.shape c.in_ok-command-6.ensures.local ∙ ap₂ with_subcommand five c.in_ok-command-6.ensures.shape)
    c.subcommand-6.ensures
