use Rattle.session_lines.proofs.KnownObjects.{known_gained}
use Rattle.session_lines.proofs.TypeLines.{type_awaits}
use Rattle.session_lines.proofs.declaring.keep_type.Goals as goal

pub returns-in-Ok : goal.returns-in-Ok
returns-in-Ok c = record {
  meets = λ is_next_type desc storage state new admits at.
      type_awaits is_next_type c.args.memory.now c.add_record.new.self storage state desc c.args.id c.args.text c.in_ok-answer.answer admits at new
      (c.in-Ok.ensures.only desc (rw c.as_slice.ensures new.next)) c.in_ok-answer.ensures;
  known = known_gained c.args.memory.now.types c.add_record.new.self c.args.memory.now.registry.instances c.requires.spelled.desc (c.in-Ok.ensures.only c.requires.spelled.desc (rw c.as_slice.ensures c.requires.spelled.next)) c.requires.known;
  steady = (tt, tt);
  short = tt;
}
