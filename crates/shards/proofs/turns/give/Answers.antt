use Rattle.std.proofs.Common.{arith, ◌≡◌, ℕ, true, [], ◌∷◌, Some, Option, sym, ap, ◌∙◌, subst}
use mathlib.Core.Option.{none}
use Rattle.atomic_table.specs.Table.{Allows, rest, step}
use Rattle.core_steps.specs.declared.event.Event.{Event}
use Rattle.shards.specs.Known.{Known, ShardsState, TurnState, gave, known_in}
use Rattle.shards.specs.Kept.{Kept}
use Rattle.shards.specs.Plays.{Goes, Returns, Steps, left}
use Rattle.shards.proofs.Steps.{after_left, leaves}
use Rattle.shards.proofs.turns.give.Given as given
use Rattle.shards.proofs.turns.give.Goals as goal

pub swap-requires : goal.swap-requires
swap-requires g c = let C : Type 0 = g.row.C.Denot in let turn = c.turn.inside in let inv = c.turn.invariant in let now = c.exchange-old.ensures.3 in let v = ap (λ m. m.0) now in
    let seat = c.exchange-old.new.seat in let slot_count : ℕ = c.shards.inside.table.shared.table_id.slots in
    let size = c.shards.invariant in let there = inv.5 in let place = c.exchange-old.ensures.0 in let same = c.exchange-old.ensures.0 ∙ (ap (λ (t : TurnState C). t.table) c.turn.view_is ∙ (c.requires.table ∙ sym (ap (λ (s : ShardsState). s.table) c.shards.view_is))) in
    let slots : turn.seat.table_id.slots ≡ c.shards.inside.table.shared.table_id.slots = ap (λ z. z.slots) (sym place ∙ same) in let told = g.C.CoreUnit.told in let turns = g.C.BackedUnit.turns in
    let returns : Returns turn.seat.me.0 (told turn.was.value) (told c.args.unit) g.G.Given.hand = subst (λ (t : TurnState C). Returns t.known (told t.was) (told c.args.unit) g.G.Given.hand) (sym c.turn.view_is) c.requires.returns in
    let goes : Goes told turns turn.seat.me.0 turn.shard turn.was.value c.args.unit g.G.Given.hand g.G.Given.moves g.G.Given.asks c.requires.event.0 =
    subst (λ (t : TurnState C). Goes told turns t.known t.shard t.was c.args.unit g.G.Given.hand g.G.Given.moves g.G.Given.asks c.requires.event.0) (sym c.turn.view_is) c.requires.event.1 in (
      same,
      omega arith,
      subst (λ (w : ℕ). Allows (Kept told g.C.BackedUnit.backs) slot_count seat.id seat.me w (λ _. 0) (left told turns g.G.Given.hand g.G.Given.moves g.G.Given.asks (step slot_count w 0 0 none) seat.me)) (sym c.word_of.ensures)
          (leaves told g.C.BackedUnit.backs turns g.met.C.BackedUnit.events_keep g.met.C.BackedUnit.rests_keep slot_count seat.id seat.me turn.shard turn.was.value c.args.unit g.G.Given.hand g.G.Given.moves g.G.Given.asks c.requires.event.0
          (ap (λ (z : Known C). z.live) v ∙ inv.0) (ap (λ (z : Known C). z.taken) v ∙ inv.2) (ap (λ m. m.1) now ∙ ap (λ cs. (turn.shard, Some c.args.unit) ∷ rest cs) inv.1)
          (subst (λ (z : Known C). Returns z (told turn.was.value) (told c.args.unit) g.G.Given.hand) (sym v) returns)
          (subst (λ (z : Known C). Goes told turns z turn.shard turn.was.value c.args.unit g.G.Given.hand g.G.Given.moves g.G.Given.asks c.requires.event.0) (sym v) goes)),
    )

abbrev got : (g : given.Over) (c : goal.After-swap g) → (o : Option Event) × Goes g.C.CoreUnit.told g.C.BackedUnit.turns c.args.turn.known c.args.turn.shard c.args.turn.was c.args.unit g.G.Given.hand g.G.Given.moves g.G.Given.asks o
    × (c.swap.new.seat.me ≡ (gave c.args.turn.known c.args.turn.shard (g.C.CoreUnit.told c.args.turn.was) (g.C.CoreUnit.told c.args.unit) g.G.Given.hand o, []))
    × (c.args.turn.known.tells ≡ true → (e : Event) → o ≡ Some e → Steps c.args.turn.known c.args.turn.shard (g.C.CoreUnit.told c.args.turn.was) (g.C.CoreUnit.told c.args.unit) g.G.Given.hand e)
got g c = let C : Type 0 = g.row.C.Denot in let turn = c.turn.inside in let inv = c.turn.invariant in let now = c.exchange-old.ensures.3 in let told = g.C.CoreUnit.told in let turns = g.C.BackedUnit.turns in
    subst (λ (t : TurnState C). (o : Option Event) × Goes told turns t.known t.shard t.was c.args.unit g.G.Given.hand g.G.Given.moves g.G.Given.asks o
    × (c.swap.new.seat.me ≡ (gave t.known t.shard (told t.was) (told c.args.unit) g.G.Given.hand o, []))
    × (t.known.tells ≡ true → (e : Event) → o ≡ Some e → Steps t.known t.shard (told t.was) (told c.args.unit) g.G.Given.hand e)) c.turn.view_is
    (after_left told g.C.BackedUnit.backs turns g.met.C.BackedUnit.events_keep g.met.C.BackedUnit.rests_keep turn.seat.me.0 c.shards.inside.table.shared.table_id.slots turn.shard c.swap.result turn.was.value c.args.unit
    g.G.Given.hand g.G.Given.moves g.G.Given.asks c.exchange-old.new.seat.me c.swap.new.seat.me (ap (λ m. m.0) now) (ap (λ m. m.1) now ∙ ap (λ cs. (turn.shard, Some c.args.unit) ∷ rest cs) inv.1) inv.2 c.swap.ensures.2)

pub into_badge-requires : goal.into_badge-requires
into_badge-requires g c = ap (λ m. m.1) (got g c).2

abbrev known : (g : given.Over) (c : goal.After-into_badge g) → known_in c.into_badge.result.views ≡ gave c.args.turn.known c.args.turn.shard (g.C.CoreUnit.told c.args.turn.was) (g.C.CoreUnit.told c.args.unit) g.G.Given.hand (got g c.before).0
known g c = ap known_in c.into_badge.ensures.2 ∙ ap (λ m. m.0) (got g c.before).2

pub invariant_of-result : goal.invariant_of-result
invariant_of-result g c = let C : Type 0 = g.row.C.Denot in let inv = c.turn.invariant in let is = known g c in let was = ap (λ (t : TurnState C). t.known) c.turn.view_is in (
  c.into_badge.ensures.2 ∙ ap (λ (z : Known C). z ∷ []) (ap known_in (sym c.into_badge.ensures.2)),
  ap (λ (z : Known C). z.live) is ∙ (ap (λ (z : Known C). z.live) (sym was) ∙ inv.0),
  ap (λ (z : Known C). z.taken) is,
  ap (λ (z : Known C). z.own.hand) is ∙ c.requires.hand,
  ap (λ (z : Known C). z.own.actor) is ∙ (ap (λ (z : Known C). z.own.actor) (sym was) ∙ inv.3),
  λ z. ap (λ (y : Known C). y.desk.made) is ∙ (ap (λ (y : Known C). y.desk.made) (sym was) ∙ inv.4 (ap (λ (y : Known C). y.own.actor) was ∙ (ap (λ (y : Known C). y.own.actor) (sym is) ∙ z))),
)

pub returns-clause-event : goal.returns-clause-event
returns-clause-event g c = let t = got g c.before in (t.0, t.1, known g c, t.3)
