use Rattle.session.proofs.LoadedStates.{root_loads}
use Rattle.session.proofs.loading.load_root.Goals as goal

pub returns-clause-meets : goal.returns-clause-meets
returns-clause-meets c = λ is_next_type storage state at unbegun rooted.
    c.begin.ensures.meets is_next_type storage state _ at (root_loads state c.args.command at.stands.sound unbegun rooted c.requires.read)
