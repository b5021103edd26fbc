use Rattle.std.proofs.Common.{◌∙◌, sym}
use Rattle.mark_monitor.proofs.Flags.{all_set_from}
use Rattle.mark_monitor.proofs.channel_flags.ChannelFlags.first_clear.Goals as goal

pub returns-in-Some : goal.returns-in-Some
returns-in-Some c = rw (← c.self.view_is) (record { first = sym c.in-Some.is ∙ c.place_of_clear.ensures.place; all = tt })

pub returns-in-None : goal.returns-in-None
returns-in-None c =
    let none = sym c.place_of_clear.ensures.place ∙ c.in-None.is in
    rw (← c.self.view_is) (record { first = sym none; all = all_set_from _ none })
