-- Each clause is a lemma.
use Rattle.session_model.proofs.Starting.{begun_sound, opened_sound}
use Rattle.session_model.proofs.Spelled.{spelled_proper}
use Rattle.session_model.proofs.Turning.{command_sound, turn_sound}
use Rattle.session_model.proofs.laws.states_stay_sound.Goals as goal

pub returns-clause-start : goal.returns-clause-start
returns-clause-start c = opened_sound

pub returns-clause-begun : goal.returns-clause-begun
returns-clause-begun c = begun_sound

pub returns-clause-command : goal.returns-clause-command
returns-clause-command c = command_sound

pub returns-clause-spelled : goal.returns-clause-spelled
returns-clause-spelled c = spelled_proper

pub returns-clause-turn : goal.returns-clause-turn
returns-clause-turn c = turn_sound
