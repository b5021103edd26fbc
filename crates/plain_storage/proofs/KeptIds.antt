-- The ids of a graph that are reached from the root and the held ids.
use Rattle.std.proofs.Common.{◌≡◌, ℕ, List, ◌∷◌, length, sym, ap, ◌∙◌}
use Rattle.std.specs.List.{filter}
use Rattle.std.proofs.lemmas.Bool.{and_from, and_parts}
use Rattle.graph_model.specs.Graph.{Graph, lists}
use Rattle.graph_model.specs.Ids.{has}
use Rattle.graph_model.proofs.Rising.{rises_filter}
use Rattle.session_model.specs.Instances.{reached}
use Rattle.session_model.proofs.IdLists.{has_filter}
use Rattle.session_model.proofs.Reached.{reached-rises, reached-walks, walks-reached}
use Rattle.plain_storage.specs.Serving.{IsKeptCount}

-- those that are reached, less those that the graph lacks
pub kept_count : (g : Graph) (held found kept : List ℕ) (n : ℕ) → found ≡ reached g (1 ∷ held) → kept ≡ filter (λ (x : ℕ). lists g x) found → n ≡ length kept → IsKeptCount g held n
kept_count g held found kept n found_is kept_is count =
    let all = reached g (1 ∷ held) in
    let test = λ (x : ℕ). lists g x in
    let is : kept ≡ filter test all = kept_is ∙ ap (filter test) found_is in
    record {
      kept = filter test all;
      order = rises_filter test all (reached-rises g (1 ∷ held));
      exact = λ x. (
        λ there. let both = and_parts (lists g x) (has x all) (sym (has_filter test all x) ∙ there) in record { reached = reached-walks g (1 ∷ held) x both.1; listed = both.0 },
        λ k. has_filter test all x ∙ and_from (lists g x) (has x all) k.listed (walks-reached g (1 ∷ held) x k.reached),
      );
      count = count ∙ ap length is;
    }
