use Rattle.session_model.specs.Answer.{home_turn}
use Rattle.session_model.proofs.Naming.{home_line_sound}
use Rattle.session_lines.proofs.Told.{if_meets_said}
use Rattle.session_lines.proofs.KnownObjects.{on_any}
use Rattle.session_lines.proofs.Shortness.{if_said_short, if_said_steady}
use Rattle.session_lines.proofs.naming.home.Goals as goal

pub returns : goal.returns
returns c = record {
  meets = λ is_next_type storage state stands started.
      if_meets_said is_next_type c.bind_found-said.result c.outcome_of.result c.bind_found-said.new.memory storage (home_turn state c.args.name.now) c.outcome_of.ensures
      (c.bind_found-said.ensures.says storage state (home_turn state c.args.name.now) stands (c.home_id-judged.ensures.judged storage state stands) (home_line_sound state c.args.name.now stands.stands.sound started));
  known = on_any c.outcome_of.result (c.bind_found-said.ensures.known c.requires.known);
  steady = if_said_steady c.bind_found-said.result c.outcome_of.result c.bind_found-said.new.memory c.outcome_of.ensures;
  short = if_said_short c.bind_found-said.result c.outcome_of.result c.outcome_of.ensures;
}
