use Rattle.session_lines.proofs.Changed.{root_has_ref, root_has_value}
use Rattle.session_lines.proofs.changing.root_change.Goals.{in_default-root_value-via-in-Some-root_value+else-is_ref, in_default-root_value-via-in_default-root_value}
use Rattle.session_lines.proofs.changing.root_change.Goals as goal

pub returns-in_default-root_value-clause-judged : goal.returns-in_default-root_value-clause-judged
returns-in_default-root_value-clause-judged c = λ storage state stands started. absurd (elim c.in_default-root_value.branch [
  | in_default-root_value-via-in-Some-root_value+else-is_ref w ↦
      root_has_ref c.args.memory.now storage state w.in-Some-root_value.value.now w.is_ref.result stands.stands started w.in-Some-root_value.ensures w.is_ref.ensures.1 w.if-is_ref.false
  | in_default-root_value-via-in_default-root_value w ↦ root_has_value c.args.memory.now storage state stands.stands started w.in_default-root_value.ensures
])
