use Rattle.std.proofs.Common.{ap, ◌∙◌, subst, sym}
use Rattle.graph_model.specs.Graph.{ids}
use Rattle.session_model.specs.Answer.{saved_instances}
use Rattle.session_model.specs.Instances.{Instances}
use Rattle.storer.specs.Gathered.{AreKnown}
use Rattle.storer.proofs.KnownTypes.{known-stored}
use Rattle.session.proofs.StoreLines.{store_awaits}
use Rattle.session.proofs.storing.ask_to_store.Goals as goal

pub returns-clause-known : goal.returns-clause-known
returns-clause-known c = λ known.
    subst (λ (hs : Instances). AreKnown c.args.memory.now.types hs) (sym c.stored.ensures.saved) (known-stored c.args.memory.now.types c.args.memory.now.registry.instances _ known)

pub returns-clause-meets : goal.returns-clause-meets
returns-clause-meets c = λ is_next_type storer name storage state gathers at started.
    store_awaits is_next_type storer c.args.memory.now c.stored.new.self c.args.op _ name storage state gathers at started c.stored.ensures.names
    (c.stored.ensures.saved ∙ ap (saved_instances c.args.memory.now.registry.instances) (c.in_ok-all.ensures ∙ ap ids c.as_slice.ensures)) c.len-count.ensures
