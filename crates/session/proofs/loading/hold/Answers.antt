use Rattle.std.proofs.Common.{◌∙◌, true, ap, subst, sym}
use Rattle.lazy_refs.specs.Walks.{loaded_ids}
use Rattle.storer.specs.Gathered.{AreKnown}
use Rattle.session_lines.proofs.KnownLoaded.{known_loaded}
use Rattle.session.proofs.LoadAsks.{hold_awaits}
use Rattle.session.proofs.SteadySteps.{purpose_kept}
use Rattle.session.proofs.loading.hold.Goals as goal

pub returns-clause-known : goal.returns-clause-known
returns-clause-known c = subst (AreKnown c.args.memory.now.types) (sym c.in_ok-put_loaded.ensures.ok) (known_loaded c.args.memory.now.types c.args.all c.args.memory.now.registry.instances c.requires.typed c.requires.known)

pub returns-clause-steady : goal.returns-clause-steady
returns-clause-steady c = (tt, purpose_kept c.args.memory.now (record c.args.memory.now { registry = c.put_loaded.new.self; started = true }) c.args.purpose c.put_loaded.ensures.names c.requires.steady)

pub returns-clause-meets : goal.returns-clause-meets
returns-clause-meets c = λ is_next_type storage due takes.
    hold_awaits is_next_type c.args.purpose c.args.all c.in_ok-ids.ids c.args.memory.now c.put_loaded.new.self storage due takes (c.in_ok-ids.ensures ∙ ap loaded_ids c.as_slice.ensures)
    c.put_loaded.ensures.names c.in_ok-put_loaded.ensures.ok
