-- Passes that come and go keep the rule.
use Rattle.std.proofs.Common.{◌≡◌, ◌≢◌, ◌⊎◌, ℕ, zero, suc, ◌+◌, ◌<◌, true, false, List, [], ◌∷◌, ◌++◌, map, length, set, sym, refl, ap, ◌∙◌, subst, ⊎_elim, inl, inr, arith, Option, Some, None, length-set, length-append}
use Rattle.std.specs.Prelude.{slice_get}
use mathlib.Core.Logic.{dite}
use mathlib.Core.Option.{some, some-injective, some-ne-none}
use native.Mathlib.Decide.{ℕ_discrete}
use lib.ListN.{get_elem?}
use Rattle.atomic_table.specs.Table.{State, Splits, Joins}
use Rattle.atomic_table.proofs.Lists.{set_else, at_longer}
use Rattle.core_steps.specs.declared.event.Step.{Step}
use Rattle.core_steps.specs.Core.{Core, new_hand}
use Rattle.core_steps.specs.Steps.{with_actor}
use Rattle.core_steps.specs.Told.{Told}
use Rattle.core_steps.proofs.Actors.{good_actor, no_steps, run_more}
use Rattle.core_steps.proofs.Settled.{settled_actor}
use Rattle.shards.specs.Backed.{ActorsKeep}
use Rattle.shards.specs.Known.{Ended, Own, Known, dealt, joined_with, newcomer, own_ending, spent}
use Rattle.shards.specs.Kept.{Assembles, DeskFits, IsCausedThere, IsSeatOf, Kept, Stands}
use Rattle.shards.proofs.Put.{put, put_here, put_else}
use Rattle.shards.proofs.Parts.{out_stays, set_cases}
use Rattle.shards.proofs.Seats.{seat_joined, seat_more, seat_new, seat_stays}

module _ {A : Type 0} where
  at_end : (l : List A) (a b : A) (j : ℕ) → get_elem? (l ++ a ∷ []) j ≡ some b → (get_elem? l j ≡ some b) ⊎ ((j ≡ length l) × (a ≡ b))
  at_end [] a b zero e = inr (refl, some-injective a b e)
  at_end [] a b (suc j) e = absurd (some-ne-none b (sym e))
  at_end (x ∷ xs) a b zero e = inl e
  at_end (x ∷ xs) a b (suc j) e = ⊎_elim inl (λ (t : (j ≡ length xs) × (a ≡ b)). inr (ap suc t.0, t.1)) (at_end xs a b j e)

  -- what holds of the elements of both lists holds of those of one behind the other
  each_of_both : (xs ys : List A) (P : A → Type 0) → ((i : ℕ) (o : A) → get_elem? xs i ≡ some o → P o) → ((i : ℕ) (o : A) → get_elem? ys i ≡ some o → P o)
      → (i : ℕ) (o : A) → get_elem? (xs ++ ys) i ≡ some o → P o
  each_of_both [] ys P left right i o e = right i o e
  each_of_both (x ∷ xs) ys P left right zero o e = left 0 o e
  each_of_both (x ∷ xs) ys P left right (suc i) o e = each_of_both xs ys P (λ k q f. left (suc k) q f) right i o e

  each_with : (y : A) (ys : List A) (P : A → Type 0) → P y → ((i : ℕ) (o : A) → get_elem? ys i ≡ some o → P o) → (i : ℕ) (o : A) → get_elem? (y ∷ ys) i ≡ some o → P o
  each_with y ys P here right zero o e = subst P (some-injective y o e) here
  each_with y ys P here right (suc i) o e = right i o e

  longer : (l m : List A) (k : ℕ) (a : A) → slice_get l k ≡ Some a → slice_get (l ++ m) k ≡ Some a
  longer [] m k a e = cc
  longer (x ∷ l) m zero a e = e
  longer (x ∷ l) m (suc k) a e = longer l m k a e

  last_there : (l : List A) (a : A) (n : ℕ) → n ≡ length l → slice_get (l ++ a ∷ []) n ≡ Some a
  last_there [] a zero e = refl
  last_there [] a (suc n) e = absurd (omega arith)
  last_there (x ∷ l) a zero e = absurd (omega arith)
  last_there (x ∷ l) a (suc n) e = last_there l a n (omega arith)

stands_more : (c : Core) (log : List Step) (o : Own) → Stands c log o → Stands (with_actor c) log o
stands_more c log o was = record { hand = longer c.hands (new_hand ∷ []) o.actor o.hand was.hand; mine = was.mine }

module _ {C : Type 0} (told : C → Told) (backs : Core → List C → Type 0) where
  abbrev Rule : State (Option C) (Known C) → Type 0
  Rule = Kept told backs

  -- ONE MORE ACTOR

  assembles_split : ActorsKeep backs → (units : List C) (actors : ℕ) (views : List (Known C)) (id : ℕ) (v : Known C) → Assembles told backs units actors views → get_elem? views id ≡ some v → v.live ≡ true
      → v.own.actor ≡ 0 → v.desk.made ≡ actors → 0 < actors → ((j : ℕ) (d : Known C) → j ≢ id → get_elem? views j ≡ some d → d.live ≡ true → d.own.actor ≢ 0)
      → Assembles told backs units (actors + 1) (set views id (dealt v) ++ newcomer v.tells v.channels v.desk.made ∷ [])
  assembles_split keep units actors views id v r at live zeroth made some_actor alone = let w : Known C = dealt v in let fresh : Known C = newcomer v.tells v.channels v.desk.made in let c : Core = r.core in let n = r.hands in
      let own : Stands (with_actor c) r.log fresh.own = record { hand = last_there c.hands new_hand v.desk.made (omega arith); mine = no_steps r.start r.log c v.desk.made r.runs (omega arith) } in record {
        core = with_actor c;
        start = with_actor r.start;
        log = r.log;
        good = good_actor c r.good;
        runs = run_more r.start r.log c r.runs;
        count = r.count;
        hands = length-append c.hands (new_hand ∷ []) ∙ ap (λ (m : ℕ). m + 1) n;
        shards = λ k u e. r.shards k u e;
        seats = λ j d e. ⊎_elim (λ (t : get_elem? (set views id w) j ≡ some d). set_cases views id j w d (λ i y. y.live ≡ true → Stands (with_actor c) r.log y.own)
            (λ _. stands_more c r.log v.own (r.seats id v at live)) (λ i y m g l. stands_more c r.log y.own (r.seats i y g l)) t)
            (λ (t : (j ≡ length (set views id w)) × (fresh ≡ d)). λ _. subst (λ (y : Known C). Stands (with_actor c) r.log y.own) t.1 own) (at_end (set views id w) fresh d j e);
        joined = λ j d e. ⊎_elim (λ (t : get_elem? (set views id w) j ≡ some d). set_cases views id j w d (λ i y. y.live ≡ true → (q : ℕ) (o : Own) → get_elem? y.joined q ≡ some o → Stands (with_actor c) r.log o)
            (λ _ q o f. stands_more c r.log o (r.joined id v at live q o f)) (λ i y m g l q o f. stands_more c r.log o (r.joined i y g l q o f)) t)
            (λ (t : (j ≡ length (set views id w)) × (fresh ≡ d)). λ _. subst (λ (y : Known C). (q : ℕ) (o : Own) → get_elem? y.joined q ≡ some o → Stands (with_actor c) r.log o) t.1 (λ q o f. absurd (some-ne-none o (sym f))))
            (at_end (set views id w) fresh d j e);
        desk = λ j d e. ⊎_elim (λ (t : get_elem? (set views id w) j ≡ some d). set_cases views id j w d (λ i y. y.live ≡ true → y.own.actor ≡ 0 → DeskFits (with_actor r.start) (with_actor c) y.desk)
            (λ _ z. let d = r.desk id v at live z in record { start = ap with_actor d.start; book = d.book; pins = d.pins; settled = λ b f. settled_actor b c (d.settled b f); cycles = d.cycles })
            (λ i y m g l z. absurd (alone i y m g l z)) t)
            (λ (t : (j ≡ length (set views id w)) × (fresh ≡ d)). λ _ z. let z1 = ap (λ (y : Known C). y.own.actor) t.1 in absurd (omega arith)) (at_end (set views id w) fresh d j e);
        backed = keep c units r.good r.backed;
      }

  pub splits : ActorsKeep backs → (id : ℕ) (v : Known C) → v.live ≡ true → v.own.actor ≡ 0 → Splits Rule id v (dealt v) (newcomer v.tells v.channels v.desk.made)
  splits keep id v live zeroth s r at = let w : Known C = dealt v in let fresh : Known C = newcomer v.tells v.channels v.desk.made in let mine = r.each_seat id v at live in let n : ℕ = length s.views in
      let m = (mine.listed zeroth).1 in let len : length (set s.views id w) ≡ n = length-set s.views id w in let keeper' : ℕ → ℕ = put r.keeper v.desk.made (suc n) in let there = mine.there in
      let apart : (a : ℕ) → a < r.actors → a ≢ v.desk.made = λ a below y. let z = m in omega arith in
      let zero_keeps : r.keeper 0 ≡ suc id = ap r.keeper (sym zeroth) ∙ mine.keeps in
      let alone : (j : ℕ) (d : Known C) → j ≢ id → get_elem? s.views j ≡ some d → d.live ≡ true → d.own.actor ≢ 0 = λ j d other f l z. let z1 = ap r.keeper z in let z2 = (r.each_seat j d f l).keeps in other (omega arith) in record {
        units = r.units;
        starts = r.starts;
        actors = r.actors + 1;
        all = r.all;
        late = r.late;
        tell = r.tell;
        owner = r.owner;
        keeper = keeper';
        wide = r.wide;
        deep = r.deep;
        each_shard = λ k u e. let o = r.each_shard k u e in record {
          home = o.home;
          out = λ z. let g = o.out z in let f = out_stays s.views id v w (r.owner k) k u at (λ e. (live, e)) g.1 in (g.0, (f.0, at_longer (set s.views id w) (fresh ∷ []) (r.owner k) f.0 f.1, f.2, f.3));
          explained = o.explained;
        };
        each_actor = λ a below. dite (ℕ_discrete a v.desk.made) (λ y. seat_new (set s.views id w) fresh a refl (sym y))
            (λ y. seat_more (set s.views id w) fresh a (seat_stays s.views id v w at live refl refl a (r.each_actor a (omega arith))));
        each_seat = λ j d e. ⊎_elim
            (λ (t : get_elem? (set s.views id w) j ≡ some d). set_cases s.views id j w d (λ i y. y.live ≡ true → IsSeatOf told backs r.units r.starts (r.actors + 1) r.all r.late r.owner keeper' s.words i y)
            (λ _. record {
              keeps = put_else r.keeper v.desk.made (suc n) v.own.actor (apart v.own.actor mine.there) ∙ mine.keeps;
              there = omega arith;
              joined = λ i o f. let g = mine.joined i o f in (put_else r.keeper v.desk.made (suc n) o.actor (apart o.actor g.1) ∙ g.0, let h = g.1 in omega arith);
              taken = mine.taken;
              listed = λ z. let g = mine.listed z in (g.0, ap (λ (q : ℕ). q + 1) g.1, g.2, g.3);
              ended = mine.ended;
              endings = mine.endings;
              stop = mine.stop;
              tells = mine.tells;
              channels = mine.channels;
            })
            (λ i x other f alive. let o = r.each_seat i x f alive in let below = o.there in record {
              keeps = put_else r.keeper v.desk.made (suc n) x.own.actor (apart x.own.actor o.there) ∙ o.keeps;
              there = omega arith;
              joined = λ q y h. let g = o.joined q y h in (put_else r.keeper v.desk.made (suc n) y.actor (apart y.actor g.1) ∙ g.0, let h = g.1 in omega arith);
              taken = o.taken;
              listed = λ z. absurd (alone i x other f alive z);
              ended = o.ended;
              endings = o.endings;
              stop = o.stop;
              tells = o.tells;
              channels = o.channels;
            }) t)
            (λ (t : (j ≡ length (set s.views id w)) × (fresh ≡ d)). λ _. subst (λ (x : ℕ × Known C). IsSeatOf told backs r.units r.starts (r.actors + 1) r.all r.late r.owner keeper' s.words x.0 x.1) (λ i. ((sym len ∙ sym t.0) i, t.1 i)) record {
              keeps = put_here r.keeper v.desk.made (suc n);
              there = omega arith;
              joined = λ i o f. absurd (some-ne-none o (sym f));
              taken = λ k u f. cc;
              listed = λ z. absurd (omega arith);
              ended = tt;
              endings = λ i o f. absurd (some-ne-none o (sym f));
              stop = λ z. ⊎_elim (λ (q : false ≡ true). absurd (let bad = q in cc)) (λ (q : false ≡ true). absurd (let bad = q in cc)) z;
              tells = mine.tells;
              channels = mine.channels;
            })
            (at_end (set s.views id w) fresh d j e);
        assembles = λ all. assembles_split keep r.units r.actors s.views id v (r.assembles all) at live zeroth m (omega arith) alone;
      }

  -- A PASS THAT IS JOINED

  assembles_join : (units : List C) (actors : ℕ) (views : List (Known C)) (id : ℕ) (v : Known C) (other : ℕ) (x : Known C) → Assembles told backs units actors views → get_elem? views id ≡ some v → v.live ≡ true
      → get_elem? views other ≡ some x → x.live ≡ true → Assembles told backs units actors (set (set views id (joined_with v x)) other spent)
  assembles_join units actors views id v other x r at live there live2 = let w : Known C = joined_with v x in let vs : List (Known C) = set views id w in record {
    core = r.core;
    start = r.start;
    log = r.log;
    good = r.good;
    runs = r.runs;
    count = r.count;
    hands = r.hands;
    shards = r.shards;
    seats = λ j d f. set_cases vs other j spent d (λ i y. y.live ≡ true → Stands r.core r.log y.own) (λ (e : false ≡ true). cc)
        (λ j d n f. set_cases views id j w d (λ i y. y.live ≡ true → Stands r.core r.log y.own) (λ _. r.seats id v at live) (λ i y n g l. r.seats i y g l) f) f;
    joined = λ j d f. set_cases vs other j spent d (λ i y. y.live ≡ true → (q : ℕ) (o : Own) → get_elem? y.joined q ≡ some o → Stands r.core r.log o) (λ (e : false ≡ true). cc)
        (λ j d n f. set_cases views id j w d (λ i y. y.live ≡ true → (q : ℕ) (o : Own) → get_elem? y.joined q ≡ some o → Stands r.core r.log o)
        (λ _. each_of_both v.joined (x.own ∷ x.joined) (Stands r.core r.log) (r.joined id v at live) (each_with x.own x.joined (Stands r.core r.log) (r.seats other x there live2) (r.joined other x there live2)))
        (λ i y n g l. r.joined i y g l) f) f;
    desk = λ j d f. set_cases vs other j spent d (λ i y. y.live ≡ true → y.own.actor ≡ 0 → DeskFits r.start r.core y.desk) (λ (e : false ≡ true). cc)
        (λ j d n f. set_cases views id j w d (λ i y. y.live ≡ true → y.own.actor ≡ 0 → DeskFits r.start r.core y.desk) (λ _ z. r.desk id v at live z) (λ i y n g l. r.desk i y g l) f) f;
    backed = r.backed;
  }

  pub joins : (id : ℕ) (v : Known C) (other : ℕ) (x : Known C) → v.live ≡ true → x.live ≡ true → x.taken ≡ None → x.own.actor ≢ 0 → Joins Rule id v other x (joined_with v x) spent
  joins id v other x live live2 free not_first s r at apart there = let w : Known C = joined_with v x in let vs : List (Known C) = set s.views id w in
      let there0 : get_elem? s.views other ≡ some x = sym (set_else s.views id other w apart) ∙ there in
      let mine = r.each_seat id v at live in let theirs = r.each_seat other x there0 live2 in let b : ℕ = x.own.actor in let keeper' : ℕ → ℕ = put r.keeper b 0 in
      let active : (j a : ℕ) → j ≢ other → r.keeper a ≡ suc j → a ≢ b = λ j a n kept y. let z1 = ap r.keeper y in let z2 = theirs.keeps in n (omega arith) in
      let passive : (a : ℕ) → r.keeper a ≡ 0 → a ≢ b = λ a kept y. let z1 = ap r.keeper y in let z2 = theirs.keeps in absurd (omega arith) in
      let still : (a : ℕ) → r.keeper a ≡ 0 → keeper' a ≡ 0 = λ a kept. put_else r.keeper b 0 a (passive a kept) ∙ kept in
      let Caused : Ended → Type 0 = λ e. IsCausedThere r.all r.late r.starts (map told r.units) (Some e) in record {
        units = r.units;
        starts = r.starts;
        actors = r.actors;
        all = r.all;
        late = r.late;
        tell = r.tell;
        owner = r.owner;
        keeper = keeper';
        wide = r.wide;
        deep = r.deep;
        each_shard = λ k u e. let o = r.each_shard k u e in record {
          home = o.home;
          out = λ z. let g = o.out z in (g.0, out_stays vs other x spent (r.owner k) k u there (λ e. let bad : None ≡ Some (k, u) = sym free ∙ e in cc) (out_stays s.views id v w (r.owner k) k u at (λ e. (live, e)) g.1));
          explained = o.explained;
        };
        each_actor = λ a below. seat_joined s.views id other v x apart at live there0 a (r.each_actor a below);
        each_seat = λ j d f. set_cases vs other j spent d (λ i y. y.live ≡ true → IsSeatOf told backs r.units r.starts r.actors r.all r.late r.owner keeper' s.words i y) (λ (e : false ≡ true). cc)
            (λ j d n f. set_cases s.views id j w d (λ i y. i ≢ other → y.live ≡ true → IsSeatOf told backs r.units r.starts r.actors r.all r.late r.owner keeper' s.words i y)
            (λ n _. record {
              keeps = put_else r.keeper b 0 v.own.actor (active id v.own.actor n mine.keeps) ∙ mine.keeps;
              there = mine.there;
              joined = each_of_both v.joined (x.own ∷ x.joined) (λ (o : Own). (keeper' o.actor ≡ 0) × (o.actor < r.actors)) (λ i o y. let g = mine.joined i o y in (still o.actor g.0, g.1))
                  (each_with x.own x.joined (λ (o : Own). (keeper' o.actor ≡ 0) × (o.actor < r.actors)) (put_here r.keeper b 0, theirs.there) (λ i o y. let g = theirs.joined i o y in (still o.actor g.0, g.1)));
              taken = mine.taken;
              listed = mine.listed;
              ended = mine.ended;
              endings = each_of_both v.endings (own_ending x.ended ++ x.endings) Caused mine.endings (each_of_both (own_ending x.ended) x.endings Caused (own x.ended theirs.ended) theirs.endings);
              stop = mine.stop;
              tells = mine.tells;
              channels = mine.channels;
            })
            (λ i y other_seat g n alive. let o = r.each_seat i y g alive in record {
              keeps = put_else r.keeper b 0 y.own.actor (active i y.own.actor n o.keeps) ∙ o.keeps;
              there = o.there;
              joined = λ q z f. let g = o.joined q z f in (still z.actor g.0, g.1);
              taken = o.taken;
              listed = o.listed;
              ended = o.ended;
              endings = o.endings;
              stop = o.stop;
              tells = o.tells;
              channels = o.channels;
            }) f n) f;
        assembles = λ all. assembles_join r.units r.actors s.views id v other x (r.assembles all) at live there0 live2;
      }
    where
      own : (o : Option Ended) → IsCausedThere r.all r.late r.starts (map told r.units) o → (i : ℕ) (e : Ended) → get_elem? (own_ending o) i ≡ some e → IsCausedThere r.all r.late r.starts (map told r.units) (Some e)
      own None was i e f = absurd (some-ne-none e (sym f))
      own (Some y) was zero e f = subst (λ (z : Ended). IsCausedThere r.all r.late r.starts (map told r.units) (Some z)) (some-injective y e f) was
      own (Some y) was (suc i) e f = absurd (some-ne-none e (sym f))
