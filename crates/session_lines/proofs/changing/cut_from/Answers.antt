use Rattle.session_model.specs.Answer.{cut_turn}
use Rattle.session_model.proofs.Setting.{cut_line_sound}
use Rattle.session_lines.proofs.changing.cut_from.Goals as goal

pub returns : goal.returns
returns c = record {
  meets = λ is_next_type storage state stands started.
      c.changed.ensures.meets is_next_type storage state (cut_turn state c.args.name.now c.args.member.now c.args.index.now) stands (c.cut_change-judged.ensures.judged storage state stands started)
      (cut_line_sound state c.args.name.now c.args.member.now c.args.index.now stands.stands.sound started);
  known = c.changed.ensures.known;
  steady = c.changed.ensures.steady;
  short = c.changed.ensures.short;
}
