use Rattle.std.proofs.Common.{◌≡◌, ℕ, ◌∷◌, ap, ◌∙◌, rules}
use Rattle.std.proofs.lemmas.Fn.{filter_same}
use Rattle.graph_model.specs.Graph.{lists}
use Rattle.session_model.specs.Instances.{reached}
use Rattle.plain_storage.proofs.KeptIds.{kept_count}
use Rattle.plain_storage.proofs.counting.count_kept.Goals as goal

pub returns : goal.returns
returns c =
    let graph = c.args.graph.now in
    let held = c.args.held.now.keys in
    let starts : c.as_slice.result.now ≡ 1 ∷ held = c.as_slice.ensures.value ∙ c.in_ok-starts.ensures in
    let found : c.in_ok-kept.kept.keys ≡ reached graph (1 ∷ held) = c.in_ok-kept.ensures ∙ ap (reached graph) starts in
    let kept = filter_same _ (λ (x : ℕ). lists graph x) _ (λ x b f' t. search rules) _ _ c.retain.ensures.filtered in
    kept_count graph held c.in_ok-kept.kept.keys c.retain.new.self.keys c.len.result found kept c.len.ensures.len
