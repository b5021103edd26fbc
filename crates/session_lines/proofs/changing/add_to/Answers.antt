use Rattle.script_text.specs.Meaning.{target_meant}
use Rattle.session_model.specs.Answer.{add_turn}
use Rattle.session_model.proofs.Setting.{add_line_sound}
use Rattle.session_lines.proofs.changing.add_to.Goals as goal

pub returns : goal.returns
returns c = record {
  meets = λ is_next_type storage state stands started.
      c.changed.ensures.meets is_next_type storage state (add_turn state c.args.name.now c.args.member.now (target_meant c.args.target.now)) stands (c.add_change-judged.ensures.judged storage state stands started)
      (add_line_sound state c.args.name.now c.args.member.now (target_meant c.args.target.now) stands.stands.sound started);
  known = c.changed.ensures.known;
  steady = c.changed.ensures.steady;
  short = c.changed.ensures.short;
}
