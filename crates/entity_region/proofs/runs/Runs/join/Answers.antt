use Rattle.std.proofs.Common.{arith}
use Rattle.entity_region.proofs.runs.Runs.join.Goals as goal
use Rattle.entity_region.proofs.runs.Runs.join.Goals.{then-self-len, else-self-len, then-others-others_len, else-others-others_len}

pub returns : goal.returns
returns c = record {
  front_within = λ within. elim c.if-self-len.branch [
    | then-self-len w ↦ absurd (omega arith)
    | else-self-len w ↦ w.result-is
  ];
  front_over = λ over. elim c.if-self-len.branch [
    | then-self-len w ↦ w.result-is
    | else-self-len w ↦ absurd (w.if-self-len.false over)
  ];
  back_within = λ within. elim c.if-others-others_len.branch [
    | then-others-others_len w ↦ absurd (omega arith)
    | else-others-others_len w ↦ w.result-is
  ];
  back_over = λ over. elim c.if-others-others_len.branch [
    | then-others-others_len w ↦ w.result-is
    | else-others-others_len w ↦ absurd (w.if-others-others_len.false over)
  ];
  most = omega arith;
}
