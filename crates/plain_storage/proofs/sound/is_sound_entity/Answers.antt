-- An entity is sound where it has its form, and its references are there.
use Rattle.std.proofs.Common.{ap, sym, ◌≡◌, ◌∙◌, List, ℕ, true, ◌||◌}
use Rattle.std.specs.Prelude.{nat_eq}
use Rattle.std.specs.List.{list_all}
use Rattle.graph_model.specs.Graph.{lists}
use Rattle.plain_storage.proofs.SoundEntities.{edges_there, refs_there}
use Rattle.plain_storage.proofs.sound.is_sound_entity.Goals as goal

pub returns-clause-yes : goal.returns-clause-yes
returns-clause-yes c there =
    let g = c.args.graph.now in
    let all : list_all (λ x. nat_eq x 0 || lists g x) c.args.entity.now.refs ≡ true =
    ap (λ (refs : List ℕ). list_all (λ x. nat_eq x 0 || lists g x) refs) (sym c.as_slice.ensures) ∙ sym c.are_there.ensures ∙ there in
    record { form = c.in_ok-has_known_form.ensures.yes c.if-not-branch.false; whole = edges_there g c.args.entity.now.refs all }

pub returns-clause-no : goal.returns-clause-no
returns-clause-no c missing sound =
    let g = c.args.graph.now in
    let all : list_all (λ x. nat_eq x 0 || lists g x) c.args.entity.now.refs ≡ true = refs_there g c.args.entity.now.refs sound.whole in
    let there : c.are_there.result ≡ true = c.are_there.ensures ∙ ap (λ (refs : List ℕ). list_all (λ x. nat_eq x 0 || lists g x) refs) c.as_slice.ensures ∙ all in
    absurd cc
