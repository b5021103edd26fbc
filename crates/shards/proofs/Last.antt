-- The table as it is closed.
use Rattle.std.proofs.Common.{◌≡◌, ℕ, zero, suc, Bool, true, List, [], ◌∷◌, map, length, get_or, sym, refl, ap, ◌∙◌, subst, arith, Option, Some, None}
use Rattle.std.specs.Prelude.{slice_get}
use mathlib.Core.Logic.{dite}
use mathlib.Core.Option.{some, some-injective}
use native.Mathlib.Decide.{ℕ_discrete}
use lib.ListN.{get_elem?}
use Rattle.atomic_table.specs.Table.{State, Final, Seen}
use Rattle.core_steps.specs.Core.{Core}
use Rattle.core_steps.specs.Told.{Told}
use Rattle.shards.specs.Closing.{AreClosed, HasAll}
use Rattle.shards.specs.Known.{Ended, Known}
use Rattle.shards.specs.Kept.{DeskFits, IsCausedThere, IsExplained, Kept}
use Rattle.shards.specs.Words.{word_of}

module _ {A : Type 0} where
  -- slots of which each is full with the element of a list of that number
  full_by : (xs : List (Option A)) (us : List A) → length us ≡ length xs → ((k : ℕ) (u : A) → get_elem? us k ≡ some u → get_elem? xs k ≡ some (Some u)) → xs ≡ map (λ (u : A). Some u) us
  full_by [] [] e f = refl
  full_by [] (u ∷ us) e f = absurd (omega arith)
  full_by (x ∷ xs) [] e f = absurd (omega arith)
  full_by (x ∷ xs) (u ∷ us) e f = let h = some-injective x (Some u) (f 0 u refl) in let t = full_by xs us (omega arith) (λ k y g. f (suc k) y g) in λ i. h i ∷ t i

  at_got : (l : List A) (k : ℕ) (a : A) → slice_get l k ≡ Some a → get_elem? l k ≡ some a
  at_got [] k a e = cc
  at_got (x ∷ l) zero a e = let t : x ≡ a = cc in ap (λ (y : A). some y) t
  at_got (x ∷ l) (suc k) a e = at_got l k a e

module _ {C : Type 0} (told : C → Told) (backs : Core → List C → Type 0) where
  -- no shard is out
  none_out : (id : ℕ) (v : Known C) (s : State (Option C) (Known C)) (r : Kept told backs s) → v.live ≡ true → v.taken ≡ None → v.own.actor ≡ 0 → HasAll v → get_elem? s.views id ≡ some v
      → (j k : ℕ) (d : Known C) (u : C) → get_elem? s.views j ≡ some d → d.live ≡ true → d.taken ≡ Some (k, u) → ⊥
  none_out id v s r live free zeroth all at j k d u there alive has = let mine = r.each_seat id v at live in let o = r.each_seat j d there alive in let b : ℕ = d.own.actor in
      let made : v.desk.made ≡ r.actors = (mine.listed zeroth).1 in let inside = o.there in
      dite (ℕ_discrete j id)
      (λ e. let is : v ≡ d = some-injective v d (sym at ∙ (ap (get_elem? s.views) (sym e) ∙ there)) in let bad : None ≡ Some (k, u) = sym free ∙ (ap (λ (z : Known C). z.taken) is ∙ has) in cc)
      (λ n. dite (ℕ_discrete b 0)
      (λ z. let k0 : r.keeper 0 ≡ suc id = ap r.keeper (sym zeroth) ∙ mine.keeps in let k1 : r.keeper 0 ≡ suc j = ap r.keeper (sym z) ∙ o.keeps in n (omega arith))
      (λ z. let g = all b (omega arith) (omega arith) in let k0 : r.keeper b ≡ 0 = ap r.keeper (sym g.3) ∙ (mine.joined g.0 g.1 g.2).0 in let k1 = o.keeps in absurd (omega arith)))

  pub closes : (id : ℕ) (v : Known C) (ws : List ℕ) (xs : List (Option C)) → v.live ≡ true → v.taken ≡ None → v.own.actor ≡ 0 → HasAll v → Final (Seen (Kept told backs) id v) ws xs
      → (us : List C) × (xs ≡ map (λ (u : C). Some u) us) × AreClosed told backs v us
  closes id v ws xs live free zeroth all (s, seen, same_words, same_len, there) = let r = seen.0 in let at = seen.1 in let mine = r.each_seat id v at live in let listed = mine.listed zeroth in let deep = r.deep in
      let causes : (o : Option Ended) → IsCausedThere r.all r.late r.starts (map told r.units) o → IsCausedThere v.tells v.desk.late v.desk.counts (map told r.units) o = λ o c.
      subst (λ (b : Bool). IsCausedThere b v.desk.late v.desk.counts (map told r.units) o) (sym mine.tells)
      (subst (λ (b : Bool). IsCausedThere r.all b v.desk.counts (map told r.units) o) (sym listed.2)
      (subst (λ (l : List ℕ). IsCausedThere r.all r.late l (map told r.units) o) (sym listed.3) c)) in (
        r.units,
        full_by xs r.units (omega arith) (λ k u e. let o = r.each_shard k u e in dite (ℕ_discrete (get_or s.words (word_of k) 0) 0) (λ z. there k (Some u) (o.home z))
            (λ z. let g = (o.out z).1 in absurd (none_out id v s r live free zeroth all at (r.owner k) k g.0 u g.1 g.2 g.3))),
        record {
          count = sym mine.channels;
          explained = λ k u e. subst (λ (b : Bool). IsExplained b v.desk.late (get_or v.desk.counts k 0) (told u)) (sym mine.tells)
              (subst (λ (b : Bool). IsExplained r.all b (get_or v.desk.counts k 0) (told u)) (sym listed.2)
              (subst (λ (l : List ℕ). IsExplained r.all r.late (get_or l k 0) (told u)) (sym listed.3) (r.each_shard k u (at_got r.units k u e)).explained));
          ended = causes v.ended mine.ended;
          endings = λ i e f. causes (Some e) (mine.endings i e f);
          core = λ said. let q = r.assembles (sym mine.tells ∙ said) in let desk = q.desk id v at live zeroth in record {
            core = q.core;
            log = q.log;
            good = q.good;
            hands = q.hands ∙ sym listed.1;
            runs = ap (λ (c : Core). Rattle.core_steps.specs.Steps.run c q.log) desk.start ∙ q.runs;
            parts = λ k u e. q.shards k u (at_got r.units k u e);
            own = q.seats id v at live;
            joined = q.joined id v at live;
            desk = subst (λ (c : Core). DeskFits c q.core v.desk) (sym desk.start) desk;
            backed = q.backed;
          };
        },
      )
