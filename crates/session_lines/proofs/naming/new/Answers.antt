use Rattle.session_model.specs.Answer.{new_turn}
use Rattle.session_model.proofs.Naming.{new_line_sound}
use Rattle.session_lines.proofs.Told.{if_meets_said}
use Rattle.session_lines.proofs.KnownObjects.{on_any}
use Rattle.session_lines.proofs.Shortness.{if_said_short, if_said_steady}
use Rattle.session_lines.proofs.naming.new.Goals as goal

pub returns : goal.returns
returns c = record {
  meets = λ is_next_type storage state stands started.
      if_meets_said is_next_type c.put_object-said.result c.outcome_of.result c.put_object-said.new.memory storage (new_turn state c.args.name.now c.args.type_name.now) c.outcome_of.ensures
      (c.put_object-said.ensures.says storage state (new_turn state c.args.name.now c.args.type_name.now) stands (c.new_object-judged.ensures.judged storage state stands)
      (new_line_sound state c.args.name.now c.args.type_name.now stands.stands.sound started));
  known = on_any c.outcome_of.result (c.put_object-said.ensures.known c.requires.known);
  steady = if_said_steady c.put_object-said.result c.outcome_of.result c.put_object-said.new.memory c.outcome_of.ensures;
  short = if_said_short c.put_object-said.result c.outcome_of.result c.outcome_of.ensures;
}
