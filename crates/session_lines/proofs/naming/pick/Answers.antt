use Rattle.session_model.specs.Answer.{pick_turn}
use Rattle.session_model.proofs.Naming.{pick_line_sound}
use Rattle.session_lines.proofs.Told.{if_meets_said}
use Rattle.session_lines.proofs.KnownObjects.{on_any}
use Rattle.session_lines.proofs.Shortness.{if_said_short, if_said_steady}
use Rattle.session_lines.proofs.naming.pick.Goals as goal

pub returns : goal.returns
returns c = record {
  meets = λ is_next_type storage state stands started.
      if_meets_said is_next_type c.bind_found-said.result c.outcome_of.result c.bind_found-said.new.memory storage (pick_turn state c.args.name.now c.args.member.now c.args.index.now c.args.new.now) c.outcome_of.ensures
      (c.bind_found-said.ensures.says storage state (pick_turn state c.args.name.now c.args.member.now c.args.index.now c.args.new.now) stands (c.pick_id-judged.ensures.judged storage state stands started)
      (pick_line_sound state c.args.name.now c.args.member.now c.args.index.now c.args.new.now stands.stands.sound started));
  known = on_any c.outcome_of.result (c.bind_found-said.ensures.known c.requires.known);
  steady = if_said_steady c.bind_found-said.result c.outcome_of.result c.bind_found-said.new.memory c.outcome_of.ensures;
  short = if_said_short c.bind_found-said.result c.outcome_of.result c.outcome_of.ensures;
}
