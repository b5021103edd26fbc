-- What passes keep over many turns, and who joined.
use Rattle.std.proofs.Common.{◌≡◌, ◌≢◌, ℕ, ◌+◌, ◌<◌, true, List, [], ◌∷◌, ◌++◌, map, Option, Some, None, refl, sym, ap, ◌∙◌, subst, arith}
use mathlib.Core.Logic.{dite}
use native.Mathlib.Decide.{ℕ_discrete}
use Rattle.core_steps.specs.Core.{Hand}
use Rattle.shards.specs.Closing.{HasAll}
use Rattle.shards.specs.Known.{IsLater, Known, Own, Tries, joined_with, took}
use Rattle.shard_rows.specs.declared.units.MemoryUnit.{MemoryUnit}
use Rattle.shard_rows.specs.Units.{IsAlike, IsPlain, IsSession}

abbrev View : Type 0
View = Known MemoryUnit

pub alike_self : (v : View) → IsAlike v v
alike_self v = (refl, refl, refl, refl, λ _ p. p)

pub alike_then : (a b c : View) → IsAlike a b → IsAlike b c → IsAlike a c
alike_then a b c f g = (g.0 ∙ f.0, g.1 ∙ f.1, g.2 ∙ f.2, g.3 ∙ f.3, λ said plain. g.4 (f.3 ∙ said) (f.4 said plain))

-- taking a turn
alike_took : (b w x : View) (k : ℕ) (u : MemoryUnit) → IsLater b w → x ≡ took w k u → IsAlike b x
alike_took b w x k u later is = subst (λ (z : View). IsAlike b z) (sym is) (subst (λ (z : View). IsAlike b (took z k u)) (sym later.1) (refl, refl, refl, refl, λ _ p. p))

pub alike_turn : (a b w x y : View) (k : ℕ) (u : MemoryUnit) → IsAlike a b → IsLater b w → x ≡ took w k u → IsAlike x y → IsAlike a y
alike_turn a b w x y k u f later is g = alike_then a x y (alike_then a b x f (alike_took b w x k u later is)) g

pub hand_took : (b w x : View) (k : ℕ) (u : MemoryUnit) (h : Hand) → IsLater b w → x ≡ took w k u → h ≡ b.own.hand → x.own.hand ≡ h
hand_took b w x k u h later is same = ap (λ (z : View). z.own.hand) is ∙ (ap (λ (z : View). z.own.hand) later.1 ∙ sym same)

pub actor_took : (a b w x : View) (k : ℕ) (u : MemoryUnit) → IsAlike a b → IsLater b w → x ≡ took w k u → a.own.actor ≡ 0 → x.own.actor ≡ 0
actor_took a b w x k u f later is z = (alike_then a b x f (alike_took b w x k u later is)).0 ∙ z

pub plain_took : (a b w x : View) (k : ℕ) (u : MemoryUnit) → IsAlike a b → IsLater b w → x ≡ took w k u → a.tells ≡ true → IsPlain a.desk.book → IsPlain x.desk.book
plain_took a b w x k u f later is said plain = (alike_then a b x f (alike_took b w x k u later is)).4 said plain

abbrev actors_of : List Own → List ℕ
actors_of os = map (λ (o : Own). o.actor) os

-- the second worker's pass joined the first's
pub two_workers : (a b a' b' r : View) → a.own.actor ≡ 1 → a.joined ≡ [] → b.own.actor ≡ 2 → b.joined ≡ [] → IsAlike a a' → IsAlike b b' → r ≡ joined_with a' b' → actors_of (r.own ∷ r.joined) ≡ 1 ∷ 2 ∷ []
two_workers a b a' b' r one none two none' f g is = ap (λ (z : View). actors_of (z.own ∷ z.joined)) is
    ∙ (λ i. (f.0 ∙ one) i ∷ actors_of (((f.1 ∙ none) i) ++ b'.own ∷ b'.joined))
    ∙ (λ i. 1 ∷ (g.0 ∙ two) i ∷ actors_of ((g.1 ∙ none') i))

pub second_not_first : (b b' : View) → b.own.actor ≡ 2 → IsAlike b b' → b'.own.actor ≢ 0
second_not_first b b' two g z = let t : b'.own.actor ≡ 2 = g.0 ∙ two in absurd (omega arith)

pub worker_not_first : (w : View) → actors_of (w.own ∷ w.joined) ≡ 1 ∷ 2 ∷ [] → w.own.actor ≢ 0
worker_not_first w are z = let t : w.own.actor ≡ 1 = cc in absurd (omega arith)

has_two : (os : List Own) (v : View) → os ≡ v.joined → actors_of os ≡ 1 ∷ 2 ∷ [] → v.desk.made ≡ 3 → HasAll v
has_two [] v is are made = cc
has_two (o ∷ []) v is are made = cc
has_two (o ∷ p ∷ q ∷ os) v is are made = cc
has_two (o ∷ p ∷ []) v is are made = λ a positive below. let one : o.actor ≡ 1 = cc in let two : p.actor ≡ 2 = cc in dite (ℕ_discrete a 1)
    (λ e. (0, o, ap (λ (l : List Own). lib.ListN.get_elem? l 0) (sym is), one ∙ sym e))
    (λ n. (1, p, ap (λ (l : List Own). lib.ListN.get_elem? l 1) (sym is), two ∙ omega arith))

-- and then both joined the session's
pub all_joined : (s s' w r : View) → IsSession 3 s → IsAlike s s' → actors_of (w.own ∷ w.joined) ≡ 1 ∷ 2 ∷ [] → r ≡ joined_with s' w → HasAll r
all_joined s s' w r session f are is = has_two r.joined r refl
    (ap (λ (z : View). actors_of z.joined) is ∙ (λ i. actors_of ((f.1 ∙ session.1) i ++ w.own ∷ w.joined)) ∙ are)
    (ap (λ (z : View). z.desk.made) is ∙ (f.2 ∙ session.2))

-- the one worker's pass joined the session's
pub one_joined : (s w r : View) → s.joined ≡ [] → s.desk.made ≡ 2 → w.own.actor ≡ 1 → r ≡ joined_with s w → HasAll r
one_joined s w r none made one is = λ a positive below.
    let many : r.desk.made ≡ 2 = ap (λ (z : View). z.desk.made) is ∙ made in
    let first : a ≡ 1 = omega (arith, many) in (
      0,
      w.own,
      ap (λ (z : View). lib.ListN.get_elem? z.joined 0) is ∙ (λ i. lib.ListN.get_elem? (none i ++ w.own ∷ w.joined) 0),
      one ∙ sym first,
    )
