-- What a command of the crate stands for, as a command of the model.
use Rattle.session_model.specs.Commands as model
use Rattle.script_text.specs.declared.command.Command.{Command}
use Rattle.script_text.specs.declared.command.Command.TheVariants as form
use Rattle.script_text.specs.declared.command.Target.{Target}
use Rattle.script_text.specs.declared.command.Target.TheVariants as target

abbrev pub target_meant : Target → model.Target
target_meant target.Null = model.Null
target_meant (target.Named name) = model.Named name

-- the same line with the same words; an index as the number that its digits say
abbrev pub meant : Command → model.Command
meant (form.DeclareType desc) = model.DeclareType desc
meant (form.Refactor old new) = model.Refactor old new
meant (form.New name type_name) = model.New name type_name
meant (form.SetMember name member rest) = model.SetMember name member rest
meant (form.AddTo name member to) = model.AddTo name member (target_meant to)
meant (form.CutFrom name member index) = model.CutFrom name member index
meant (form.SetRoot name) = model.SetRoot name
meant (form.Store name) = model.Store name
meant (form.StoreAll name) = model.StoreAll name
meant (form.Show name) = model.Show name
meant (form.Home name) = model.Home name
meant (form.Follow name member new) = model.Follow name member new
meant (form.Pick name member index new) = model.Pick name member index new
meant (form.DropName name) = model.DropName name
meant form.Forget = model.Forget
meant form.Collect = model.Collect
meant form.Tidy = model.Tidy
meant form.Export = model.Export
