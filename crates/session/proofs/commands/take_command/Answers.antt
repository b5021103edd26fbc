use Rattle.std.proofs.Common.{◌≡◌, ◌&&◌, not, true, false, sym, ◌∙◌, subst, arith}
use Rattle.std.specs.Prelude.{IfOk}
use Rattle.std.proofs.lemmas.Grind.{common_steps}
use Rattle.script_text.specs.Meaning.{meant}
use Rattle.session_model.specs.Answer.{Turn, needs_start}
use Rattle.session_lines.specs.Due.{Meets}
use Rattle.session.proofs.Beginning.{comes_at_once, comes_later, has_begun, has_not_begun, root_is}
use Rattle.session.proofs.commands.take_command.Goals as goal

pub returns-then-not-must_begin : goal.returns-then-not-must_begin
returns-then-not-must_begin c =
    let off : c.must_begin.result ≡ false = grind (arith, common_steps) in
    let now : (needs_start (meant c.args.command) && not c.args.memory.now.started) ≡ false = sym c.must_begin.ensures ∙ off in
    record {
      known = c.carry_out.ensures.known;
      steady = c.carry_out.ensures.steady;
      whole = c.carry_out.ensures.whole;
      meets = λ is_next_type storage state admits at.
          subst (λ (t : Turn). IfOk c.carry_out.result (λ o. Meets is_next_type o c.carry_out.new.memory storage t)) (sym (comes_at_once c.args.memory.now storage state (meant c.args.command) at now))
          (c.carry_out.ensures.meets is_next_type storage state admits at (has_begun c.args.memory.now storage state (meant c.args.command) at now));
    }

pub returns-then-memory : goal.returns-then-memory
returns-then-memory c =
    let on : c.must_begin.result ≡ true = grind (arith, common_steps) in
    let later : (needs_start (meant c.args.command) && not c.args.memory.now.started) ≡ true = sym c.must_begin.ensures ∙ on in
    record {
      known = c.load_root.ensures.known;
      steady = c.load_root.ensures.steady;
      whole = c.load_root.ensures.whole;
      meets = λ is_next_type storage state admits at.
          subst (λ (t : Turn). IfOk c.load_root.result (λ o. Meets is_next_type o c.load_root.new.memory storage t)) (sym (comes_later c.args.memory.now storage state (meant c.args.command) at later))
          (c.load_root.ensures.meets is_next_type storage state at (has_not_begun c.args.memory.now storage state (meant c.args.command) at later)
          (root_is c.args.memory.now storage state (meant c.args.command) true at later c.if-memory.true));
    }

pub returns : goal.returns
returns c =
    let on : c.must_begin.result ≡ true = grind (arith, common_steps) in
    let later : (needs_start (meant c.args.command) && not c.args.memory.now.started) ≡ true = sym c.must_begin.ensures ∙ on in
    record {
      known = c.carry_out-2.ensures.known;
      steady = c.carry_out-2.ensures.steady;
      whole = c.carry_out-2.ensures.whole;
      meets = λ is_next_type storage state admits at.
          let begun = c.in_ok-make_root.ensures.stands storage state at (has_not_begun c.args.memory.now storage state (meant c.args.command) at later)
          (root_is c.args.memory.now storage state (meant c.args.command) false at later c.if-memory.false) in
          subst (λ (t : Turn). IfOk c.carry_out-2.result (λ o. Meets is_next_type o c.carry_out-2.new.memory storage t))
          (sym (comes_later c.args.memory.now storage state (meant c.args.command) at later ∙ begun.3 (meant c.args.command)))
          (c.carry_out-2.ensures.meets is_next_type storage begun.0 admits begun.1 (λ need. begun.2));
    }
