use Rattle.session_model.specs.Answer.{root_turn}
use Rattle.session_model.proofs.Setting.{root_line_sound}
use Rattle.session_lines.proofs.changing.set_root.Goals as goal

pub returns : goal.returns
returns c = record {
  meets = λ is_next_type storage state stands started.
      c.changed.ensures.meets is_next_type storage state (root_turn state c.args.name.now) stands (c.root_change-judged.ensures.judged storage state stands started)
      (root_line_sound state c.args.name.now stands.stands.sound started);
  known = c.changed.ensures.known;
  steady = c.changed.ensures.steady;
  short = c.changed.ensures.short;
}
