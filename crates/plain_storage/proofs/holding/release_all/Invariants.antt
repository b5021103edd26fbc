use Rattle.std.proofs.Common.{◌≡◌, ℕ, ◌&&◌, not, take}
use Rattle.graph_model.specs.Ids.{has}
use Rattle.plain_storage.proofs.holding.release_all.Given as goal

abbrev pub invariant-loop-id : goal.invariant-loop-id
invariant-loop-id l = (x : ℕ) → has x l.held.keys ≡ (has x l.fn.held.keys && not (has x (take l.id-index l.ids)))
