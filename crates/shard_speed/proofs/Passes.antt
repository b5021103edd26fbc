-- What passes keep over many turns, and who joined.
use Rattle.std.proofs.Common.{◌≡◌, ◌≢◌, ℕ, ◌<◌, List, [], ◌∷◌, ◌++◌, refl, sym, ap, ◌∙◌, subst, arith, Option}
use lib.ListN.{get_elem?}
use Rattle.core_steps.specs.declared.event.Event.{Event}
use Rattle.core_steps.specs.Core.{Hand}
use Rattle.core_steps.specs.Told.{Told}
use Rattle.shards.specs.Closing.{HasAll}
use Rattle.shards.specs.Known.{IsLater, Known, Own, gave, joined_with, took}
use Rattle.shard_speed.specs.Passes.{IsAlike, IsSession}

module _ {C : Type 0} where
  pub alike_self : (v : Known C) → IsAlike v v
  alike_self v = (refl, refl, refl, refl)

  alike_then : (a b c : Known C) → IsAlike a b → IsAlike b c → IsAlike a c
  alike_then a b c f g = (g.0 ∙ f.0, g.1 ∙ f.1, g.2 ∙ f.2, g.3 ∙ f.3)

  -- a turn that is taken after some tries
  pub alike_took : (b w x : Known C) (k : ℕ) (u : C) → IsLater b w → x ≡ took w k u → IsAlike b x
  alike_took b w x k u later is = subst (λ (z : Known C). IsAlike b z) (sym is) (subst (λ (z : Known C). IsAlike b (took z k u)) (sym later.1) (refl, refl, refl, refl))

  -- and given back
  pub alike_turn : (a b w x y : Known C) (k : ℕ) (u : C) (t t' : Told) (h : Hand) (o : Option Event) → IsAlike a b → IsLater b w → x ≡ took w k u → y ≡ gave x k t t' h o → IsAlike a y
  alike_turn a b w x y k u t t' h o f later is back = alike_then a b y f (alike_then b x y (alike_took b w x k u later is)
      (subst (λ (z : Known C). IsAlike x z) (sym back) (refl, refl, refl, refl)))

  -- the one worker joined the session
  pub all_joined : (s s' w w' r : Known C) → IsSession 2 s → IsAlike s s' → w.own.actor ≡ 1 → IsAlike w w' → r ≡ joined_with s' w' → HasAll r
  all_joined s s' w w' r session f one g is a positive below = (
    0,
    w'.own,
    (λ i. get_elem? ((ap (λ (z : Known C). z.joined) is ∙ (λ j. (f.1 ∙ session.1) j ++ w'.own ∷ w'.joined)) i) 0),
    g.0 ∙ (one ∙ (let made : r.desk.made ≡ 2 = ap (λ (z : Known C). z.desk.made) is ∙ (f.2 ∙ session.2) in omega arith)),
  )
