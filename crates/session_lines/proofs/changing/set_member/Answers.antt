use Rattle.session_model.specs.Answer.{set_turn}
use Rattle.session_model.proofs.Setting.{set_line_sound}
use Rattle.session_lines.proofs.changing.set_member.Goals as goal

pub returns : goal.returns
returns c = record {
  meets = λ is_next_type storage state stands started proper.
      c.changed.ensures.meets is_next_type storage state (set_turn state c.args.name.now c.args.member.now c.args.rest) stands (c.set_change-judged.ensures.judged storage state stands started)
      (set_line_sound state c.args.name.now c.args.member.now c.args.rest stands.stands.sound started proper);
  known = c.changed.ensures.known;
  steady = c.changed.ensures.steady;
  short = c.changed.ensures.short;
}
