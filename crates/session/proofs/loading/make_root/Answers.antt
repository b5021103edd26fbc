use Rattle.std.proofs.Common.{subst, sym}
use Rattle.object_registry.specs.Registered.{unsaved}
use Rattle.storer.specs.Gathered.{AreKnown}
use Rattle.storer.proofs.KnownTypes.{known-put}
use Rattle.session.proofs.NewRoot.{begins_without_root}
use Rattle.session.proofs.loading.make_root.Goals as goal

pub returns-clause-known : goal.returns-clause-known
returns-clause-known c = subst (AreKnown c.args.memory.now.types) (sym c.in_ok-put_new.ensures.ok)
    (known-put c.args.memory.now.types c.args.memory.now.registry.instances 1 (unsaved c.in_ok-root.root) c.requires c.in_ok-root.ensures.known)

pub returns-clause-stands : goal.returns-clause-stands
returns-clause-stands c = λ storage state at unbegun absent.
    begins_without_root c.args.memory.now c.put_new.new.self c.in_ok-root.root storage state at unbegun absent c.in_ok-root.ensures.fresh c.put_new.ensures.names c.in_ok-put_new.ensures.ok
