use Rattle.std.proofs.Common.{Ok, Err, subst}
use Rattle.type_dictionary.specs.declared.declaration.Declared.{Declared}
use Rattle.session_lines.specs.Declarations.{IsJudgedType}
use Rattle.session_model.specs.Answer.{type_turn}
use Rattle.session_lines.proofs.Told.{if_meets_said, says_refusal}
use Rattle.session_lines.proofs.TypeLines.{type_answers, type_refusal}
use Rattle.session_lines.proofs.KnownObjects.{on_any}
use Rattle.session_lines.proofs.Shortness.{if_said_short, if_said_steady}
use Rattle.session_lines.proofs.declaring.declare_type.Goals as goal

pub returns-in_ok-numbered_line-in-Ok-Known : goal.returns-in_ok-numbered_line-in-Ok-Known
returns-in_ok-numbered_line-in-Ok-Known c = record {
  meets = λ is_next_type storage state admits at.
      type_answers c.args.memory.now storage state c.args.desc.now c.in-Ok-Known.id c.in_ok-numbered_line-in-Ok-Known.field-0 at (subst (λ (d : Declared). IsJudgedType c.args.memory.now.types c.args.desc.now (Ok d)) c.in-Ok-Known.field-0-is c.in-Ok-Known.ensures) c.in_ok-numbered_line-in-Ok-Known.ensures;
  known = c.requires.known;
  steady = tt;
  short = tt;
}

pub returns-in-Ok-New : goal.returns-in-Ok-New
returns-in-Ok-New c = record { meets = λ is_next_type storage state admits at. c.keep_type.ensures.meets is_next_type c.args.desc.now storage state (subst (λ (d : Declared). IsJudgedType c.args.memory.now.types c.args.desc.now (Ok d)) c.in-Ok-New.field-0-is c.in-Ok-New.ensures) admits at; known = c.keep_type.ensures.known; steady = c.keep_type.ensures.steady; short = c.keep_type.ensures.short }

pub returns-in-Err : goal.returns-in-Err
returns-in-Err c = record {
  meets = λ is_next_type storage state admits at.
      if_meets_said is_next_type (Err c.in-Err.stop) c.outcome_of.result c.args.memory.now storage (type_turn state c.args.desc.now) c.outcome_of.ensures
      (says_refusal c.in-Err.stop c.args.memory.now storage state (type_turn state c.args.desc.now) at
      (type_refusal c.args.memory.now storage state c.args.desc.now c.in-Err.stop at c.requires.grammar c.in-Err.ensures));
  known = on_any c.outcome_of.result c.requires.known;
  steady = if_said_steady (Err c.in-Err.stop) c.outcome_of.result c.args.memory.now c.outcome_of.ensures;
  short = if_said_short (Err c.in-Err.stop) c.outcome_of.result c.outcome_of.ensures;
}
