-- The entities are looked at one by one.
use Rattle.std.proofs.Common.{◌≡◌, ◌∷◌, [], Some, ap, subst, sym, ◌∙◌}
use Rattle.std.specs.Prelude.{IsTrue}
use Rattle.std.specs.Map.Iter.{deref_pair}
use Rattle.std.proofs.lemmas.Cmp.{nat_cmp_total}
use Rattle.std.proofs.lemmas.Map.Iter.{btree_map_turn}
use Rattle.graph_model.specs.Graph.{Graph, entity_of, ids}
use Rattle.graph_model.specs.Ids.{rises}
use Rattle.plain_storage.proofs.TreeEntries.{Entries, entity_of-entries, rises-entries}
use Rattle.plain_storage.proofs.SoundEntities.{AllSound, all_sound, sound_entity}
use Rattle.plain_storage.proofs.sound.is_sound.Goals as goal

pub entities-preserved : goal.entities-preserved
entities-preserved c =
    let parts : c.entities.id-iterator ≡ (c.in-Some.id.now, c.in-Some.entity.now) ∷ c.next.new.self = c.in-Some.ensures.steps in
    record {
      next = tt;
      finite = tt;
      sound = λ rest. c.entities.invariant.sound
          (subst (λ (es : Entries). AllSound c.args.types.now c.args.graph.now es) (sym parts) (c.in_ok-is_sound_entity.ensures.yes c.if-not-branch.false, rest));
    }

pub returns-then-not-branch-clause-no : goal.returns-then-not-branch-clause-no
returns-then-not-branch-clause-no c is sound =
    let entries = c.graph.inside.entities in
    let turn = btree_map_turn deref_pair c.entities.yielded c.into_iter-id-iterator.result c.entities.id-iterator c.next.new.self c.next.result (c.in-Some.id, c.in-Some.entity)
    c.entities.yielded_by c.in-Some.is c.next.ensures.steps nat_cmp_total entries c.into_iter-id-iterator.ensures.into_iter_gives.0 c.graph.invariant in
    let found : entity_of c.args.graph.now c.in-Some.id.now ≡ Some c.in-Some.entity.now =
    ap (λ (g : Graph). entity_of g c.in-Some.id.now) (sym c.graph.view_is) ∙ sym (entity_of-entries entries.entries c.in-Some.id.now) ∙ turn.1 in
    c.in_ok-is_sound_entity.ensures.no c.if-not-branch.true (sound_entity c.args.types.now c.args.graph.now c.in-Some.id.now c.in-Some.entity.now found sound)

pub returns-then-not-branch-clause-order : goal.returns-then-not-branch-clause-order
returns-then-not-branch-clause-order c = subst (λ (g : Graph). IsTrue (rises (ids g))) c.graph.view_is (rises-entries c.graph.inside.entities.entries c.graph.invariant)

pub returns-clause-yes : goal.returns-clause-yes
returns-clause-yes c is =
    let ended : c.entities.id-iterator ≡ [] = c.in-None.ensures.steps.0 in
    let all = c.entities.invariant.sound (subst (λ (es : Entries). AllSound c.args.types.now c.args.graph.now es) (sym ended) tt) in
    all_sound c.args.types.now c.args.graph.now c.graph.inside.entities.entries c.graph.view_is
    (subst (λ (es : Entries). AllSound c.args.types.now c.args.graph.now es) c.into_iter-id-iterator.ensures.into_iter_gives.0 all)

pub returns-clause-order : goal.returns-clause-order
returns-clause-order c = subst (λ (g : Graph). IsTrue (rises (ids g))) c.graph.view_is (rises-entries c.graph.inside.entities.entries c.graph.invariant)
