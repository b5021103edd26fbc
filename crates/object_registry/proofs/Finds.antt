-- The walk finds what the model's steps reach.
use Rattle.std.proofs.Common.{◌≡◌, ℕ, List, []}
use Rattle.graph_model.specs.Ids.{has}
use Rattle.graph_model.specs.Graph.{Graph}
use Rattle.graph_model.proofs.Walks.{IsSearch, search_ends}
use Rattle.session_model.specs.Instances.{reached}
use Rattle.session_model.proofs.Reached.{reached-walks, reached-rises, walks-reached}
use Rattle.session_model.proofs.SameIds.{same_answer, same_rising}

pub search_finds : (g : Graph) (starts found : List ℕ) → IsSearch g starts found [] → found ≡ reached g starts
search_finds g starts found s = same_rising found (reached g starts) s.order (reached-rises g starts) (λ x.
    let ends = search_ends g starts found s x in
    same_answer (has x found) (has x (reached g starts)) (λ h. walks-reached g starts x (ends.0 h)) (λ h. ends.1 (reached-walks g starts x h)))
