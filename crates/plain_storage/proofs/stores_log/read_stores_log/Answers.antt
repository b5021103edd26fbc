-- The log of stores is read, or the file holds no stores.
use Rattle.std.proofs.Common.{◌⊎◌, ◌<◌, [], ℕ, List, length, subst}
use Rattle.graph_model.specs.Graph.{Graph}
use Rattle.gated_log.specs.Log.{IsNoLog}
use Rattle.gated_log.specs.Reading.{rest_of}
use Rattle.plain_storage.specs.Reading.{AreStores}
use Rattle.plain_storage.specs.Stores.{plain_header}
use Rattle.plain_storage.specs.declared.fault.OpenFault.TheVariants as open_
use Rattle.plain_storage.proofs.Opening.{same_fault}
use Rattle.plain_storage.proofs.StoresHeld.{no_stores}
use Rattle.plain_storage.proofs.stores_log.read_stores_log.Goals as goal

abbrev NoStores : List ℕ → List (List ℕ) → List ℕ → Type 0
NoStores header payloads file = ((9 < length file) × IsNoLog header file) ⊎ ((next_id : ℕ) (graph : Graph) → ¬ (AreStores 1 1024 payloads next_id [] graph))

pub returns-in_err-graph-clause-damaged : goal.returns-in_err-graph-clause-damaged
returns-in_err-graph-clause-damaged g c told is =
    let file = g.D.Disk.reads c.args.disk.now 0 in
    let opening = c.in_ok-opening.opening in
    let was = same_fault c.from_residual-in_err-graph.result c.in_err-graph.field-0.0 open_.Damaged c.from_residual-in_err-graph.ensures.1 is in
    let fault = c.in_err-graph.ensures.damaged told (cc) in
    let here = subst (λ r. NoStores opening.header (rest_of opening (r 0)) (r 0)) (c.begin.ensures.reads told) fault in
    let headed = subst (λ h. NoStores h (rest_of opening file) file) c.in_ok-opening.ensures.file.1 here in
    no_stores file (subst (λ ps. NoStores plain_header ps file) (c.in_ok-opening.ensures.rest told) headed)
