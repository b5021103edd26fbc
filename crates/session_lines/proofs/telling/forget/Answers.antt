use Rattle.session_model.specs.Instances.{kept_instances}
use Rattle.object_registry.specs.Registered.{bound_ids}
use Rattle.session_lines.proofs.Asks.{forget_awaits}
use Rattle.session_lines.proofs.KnownObjects.{known_kept, known_same}
use Rattle.session_lines.proofs.telling.forget.Goals as goal

pub returns : goal.returns
returns c = record {
  meets = λ is_next_type storage state stands started.
      forget_awaits is_next_type c.args.memory.now c.forget.new.self c.in_ok-forgotten.forgotten.count c.in_ok-forgotten.forgotten.released c.in_ok-text.text storage state stands started
      c.in_ok-forgotten.ensures.kept c.forget.ensures.names c.forget.ensures.once c.in_ok-forgotten.ensures.released c.in_ok-text.ensures c.in_ok-forgotten.ensures.count;
  known = known_same c.args.memory.now.types (kept_instances c.args.memory.now.registry.instances (bound_ids c.args.memory.now.registry.names)) c.forget.new.self.instances c.in_ok-forgotten.ensures.kept
      (known_kept c.args.memory.now.types c.args.memory.now.registry.instances (bound_ids c.args.memory.now.registry.names) c.requires.known);
  steady = (tt, tt);
  short = tt;
}
