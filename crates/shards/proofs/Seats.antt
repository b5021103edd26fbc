-- Which live view has which actor.
use Rattle.std.proofs.Common.{◌≡◌, ◌≢◌, ℕ, suc, true, List, [], ◌∷◌, ◌++◌, length, set, sym, refl, ap, ◌∙◌, subst, ⊎_elim, inl, inr}
use mathlib.Core.Logic.{dite}
use mathlib.Core.Option.{some, some-injective}
use native.Mathlib.Decide.{ℕ_discrete}
use lib.ListN.{get_elem?}
use Rattle.atomic_table.proofs.Lists.{set_else, at_longer}
use Rattle.shards.specs.Known.{Known, Own, joined_with, spent}
use Rattle.shards.specs.Kept.{HasActor, HasSeat}
use Rattle.shards.proofs.Parts.{set_there}

module _ {A : Type 0} where
  -- an element of the second list stands in both
  behind : (xs ys : List A) (i : ℕ) (a : A) → get_elem? ys i ≡ some a → (j : ℕ) × (get_elem? (xs ++ ys) j ≡ some a)
  behind [] ys i a e = (i, e)
  behind (x ∷ xs) ys i a e = let r = behind xs ys i a e in (suc r.0, r.1)

  pub last_at : (l : List A) (a : A) → get_elem? (l ++ a ∷ []) (length l) ≡ some a
  last_at [] a = refl
  last_at (x ∷ l) a = last_at l a

module _ {C : Type 0} where
  has_same : (v w : Known C) (a : ℕ) → w.own.actor ≡ v.own.actor → w.joined ≡ v.joined → HasActor v a → HasActor w a
  has_same v w a actor joined h = ⊎_elim (λ (z : v.own.actor ≡ a). inl (actor ∙ z))
      (λ (t : (i : ℕ) × (o : Own) × (get_elem? v.joined i ≡ some o) × (o.actor ≡ a)). inr (t.0, t.1, ap (λ (l : List Own). get_elem? l t.0) joined ∙ t.2, t.3)) h

  -- a seat whose view becomes another one of the same actors
  pub seat_stays : (vs : List (Known C)) (id : ℕ) (v w : Known C) → get_elem? vs id ≡ some v → w.live ≡ true → w.own.actor ≡ v.own.actor → w.joined ≡ v.joined
      → (a : ℕ) → HasSeat vs a → HasSeat (set vs id w) a
  seat_stays vs id v w at live actor joined a h = dite (ℕ_discrete h.seat id)
      (λ e. let is : h.view ≡ v = some-injective h.view v (sym h.there ∙ (ap (get_elem? vs) e ∙ at)) in record {
        seat = id;
        view = w;
        there = set_there vs id v w at;
        live = live;
        has = has_same v w a actor joined (subst (λ (x : Known C). HasActor x a) is h.has);
      })
      (λ n. record { seat = h.seat; view = h.view; there = set_else vs id h.seat w n ∙ h.there; live = h.live; has = h.has })

  -- one more seat
  pub seat_more : (vs : List (Known C)) (w : Known C) (a : ℕ) → HasSeat vs a → HasSeat (vs ++ w ∷ []) a
  seat_more vs w a h = record { seat = h.seat; view = h.view; there = at_longer vs (w ∷ []) h.seat h.view h.there; live = h.live; has = h.has }

  pub seat_new : (vs : List (Known C)) (w : Known C) (a : ℕ) → w.live ≡ true → w.own.actor ≡ a → HasSeat (vs ++ w ∷ []) a
  seat_new vs w a live is = record { seat = length vs; view = w; there = last_at vs w; live = live; has = inl is }

  has_first : (v x : Known C) (a : ℕ) → HasActor v a → HasActor (joined_with v x) a
  has_first v x a h = ⊎_elim (λ (z : v.own.actor ≡ a). inl z)
      (λ (t : (i : ℕ) × (o : Own) × (get_elem? v.joined i ≡ some o) × (o.actor ≡ a)). inr (t.0, t.1, at_longer v.joined (x.own ∷ x.joined) t.0 t.1 t.2, t.3)) h

  has_second : (v x : Known C) (a : ℕ) → HasActor x a → HasActor (joined_with v x) a
  has_second v x a h = ⊎_elim (λ (z : x.own.actor ≡ a). let r = behind v.joined (x.own ∷ x.joined) 0 x.own refl in inr (r.0, x.own, r.1, z))
      (λ (t : (i : ℕ) × (o : Own) × (get_elem? x.joined i ≡ some o) × (o.actor ≡ a)). let r = behind v.joined (x.own ∷ x.joined) (suc t.0) t.1 t.2 in inr (r.0, t.1, r.1, t.3)) h

  -- two seats become one
  pub seat_joined : (vs : List (Known C)) (id other : ℕ) (v x : Known C) → other ≢ id → get_elem? vs id ≡ some v → v.live ≡ true → get_elem? vs other ≡ some x
      → (a : ℕ) → HasSeat vs a → HasSeat (set (set vs id (joined_with v x)) other spent) a
  seat_joined vs id other v x apart at live there a h =
      let w : Known C = joined_with v x in let ws : List (Known C) = set vs id w in
      let here : get_elem? (set ws other spent) id ≡ some w = set_else ws other id spent (λ z. apart (sym z)) ∙ set_there vs id v w at in
      dite (ℕ_discrete h.seat other)
      (λ e. let is : h.view ≡ x = some-injective h.view x (sym h.there ∙ (ap (get_elem? vs) e ∙ there)) in record {
        seat = id;
        view = w;
        there = here;
        live = live;
        has = has_second v x a (subst (λ (y : Known C). HasActor y a) is h.has);
      })
      (λ n. dite (ℕ_discrete h.seat id)
      (λ e. let is : h.view ≡ v = some-injective h.view v (sym h.there ∙ (ap (get_elem? vs) e ∙ at)) in record {
        seat = id;
        view = w;
        there = here;
        live = live;
        has = has_first v x a (subst (λ (y : Known C). HasActor y a) is h.has);
      })
      (λ m. record {
        seat = h.seat;
        view = h.view;
        there = set_else ws other h.seat spent n ∙ (set_else vs id h.seat w m ∙ h.there);
        live = h.live;
        has = h.has;
      }))
