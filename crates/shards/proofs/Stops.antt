-- Setting the stop and reading it keep the rule.
use Rattle.std.proofs.Common.{◌≡◌, ◌⊎◌, ℕ, ◌<◌, true, List, length, get_or, set, sym, refl, ap, ◌∙◌, subst, arith, Option, length-set, get_or-set_other, get_or-set_same}
use mathlib.Core.Logic.{dite}
use mathlib.Core.Option.{none, some}
use native.Mathlib.Decide.{ℕ_discrete}
use lib.ListN.{get_elem?}
use Rattle.atomic_table.specs.Table.{State, Me, step, keeps, Allows}
use Rattle.core_steps.specs.Core.{Core}
use Rattle.core_steps.specs.Told.{Told}
use Rattle.shards.specs.Known.{Known, Stop, saw_stop, stopping}
use Rattle.shards.specs.Kept.{IsSeatOf, Kept}
use Rattle.shards.specs.Plays.{looked, stopped}
use Rattle.shards.specs.Words.{word_of}
use Rattle.shards.proofs.Parts.{is_below, out_stays, set_cases}
use Rattle.shards.proofs.Seats.{seat_stays}
use Rattle.shards.proofs.Cores.{assembles_view}

module _ {C : Type 0} (told : C → Told) (backs : Core → List C → Type 0) where
  abbrev M : Type 0
  M = Me (Option C) (Known C)

  abbrev Rule : State (Option C) (Known C) → Type 0
  Rule = Kept told backs

  -- a view with other flags, which are right, over words that differ at most in the stop word
  flags : (s : State (Option C) (Known C)) (r : Rule s) (id : ℕ) (v : Known C) (f : Stop) (n : ℕ) → get_elem? s.views id ≡ some v → v.live ≡ true
      → (get_or s.words (word_of (length r.units)) 0 ≡ 1 → n ≡ 1) → ((f.has_set ≡ true) ⊎ (f.has_seen ≡ true) → n ≡ 1)
      → Rule record { words = set s.words (word_of (length s.homes)) n; homes = s.homes; views = set s.views id (record v { stop = f }) }
  flags s r id v f n at live still right = let w : Known C = record v { stop = f } in let mine = r.each_seat id v at live in let d1 = r.deep in let d2 = r.wide in let ws : List ℕ = set s.words (word_of (length s.homes)) n in
      let here : get_or ws (word_of (length r.units)) 0 ≡ n = ap (λ (i : ℕ). get_or ws (word_of i) 0) r.deep ∙ get_or-set_same s.words (word_of (length s.homes)) n 0 (omega arith) in
      let other : (k : ℕ) → k < length r.units → get_or ws (word_of k) 0 ≡ get_or s.words (word_of k) 0 = λ k below. get_or-set_other s.words (word_of (length s.homes)) (word_of k) n 0 (λ e. omega arith) in record {
        units = r.units;
        starts = r.starts;
        actors = r.actors;
        all = r.all;
        late = r.late;
        tell = r.tell;
        owner = r.owner;
        keeper = r.keeper;
        wide = length-set s.words (word_of (length s.homes)) n ∙ r.wide;
        deep = r.deep;
        each_shard = λ k u e. let o = r.each_shard k u e in let same = other k (is_below r.units k u e) in record {
          home = λ z. o.home (sym same ∙ z);
          out = λ z. let g = o.out (λ p. z (same ∙ p)) in (same ∙ g.0, out_stays s.views id v w (r.owner k) k u at (λ e. (live, e)) g.1);
          explained = o.explained;
        };
        each_actor = λ a below. seat_stays s.views id v w at live refl refl a (r.each_actor a below);
        each_seat = λ j d e. set_cases s.views id j w d (λ i y. y.live ≡ true → IsSeatOf told backs r.units r.starts r.actors r.all r.late r.owner r.keeper ws i y)
            (λ _. record {
              keeps = mine.keeps;
              there = mine.there;
              joined = mine.joined;
              taken = λ k u z. let g = mine.taken k u z in (g.0, other k (is_below r.units k u g.2) ∙ g.1, g.2);
              listed = mine.listed;
              ended = mine.ended;
              endings = mine.endings;
              stop = λ z. here ∙ right z;
              tells = mine.tells;
              channels = mine.channels;
            })
            (λ i y m g l. let o = r.each_seat i y g l in record {
              keeps = o.keeps;
              there = o.there;
              joined = o.joined;
              taken = λ k u z. let g = o.taken k u z in (g.0, other k (is_below r.units k u g.2) ∙ g.1, g.2);
              listed = o.listed;
              ended = o.ended;
              endings = o.endings;
              stop = λ z. here ∙ still (o.stop z);
              tells = o.tells;
              channels = o.channels;
            }) e;
        assembles = λ all. assembles_view told backs r.units r.actors s.views id v w (r.assembles all) at live refl refl refl;
      }

  pub stops : (slots id : ℕ) (me : M) → me.0.live ≡ true → Allows Rule slots id me (word_of slots) (λ _. 1) (stopped (step slots (word_of slots) 1 0 none) me)
  stops slots id me live s r deep at _ = (
    stopping me.0,
    keeps,
    tt,
    subst (λ (k : ℕ). Rule record { words = set s.words (word_of k) 1; homes = s.homes; views = set s.views id (stopping me.0) }) deep
        (flags s r id me.0 (record me.0.stop { has_set = true }) 1 at live (λ _. refl) (λ _. refl)),
    refl,
  )

  pub looks : (slots id : ℕ) (me : M) → me.0.live ≡ true → Allows Rule slots id me (word_of slots) (λ n. n) (looked (step slots (word_of slots) 0 0 none) me)
  looks slots id me live s r deep at _ = let n : ℕ = get_or s.words (word_of slots) 0 in let d = r.deep in let same : get_or s.words (word_of (length r.units)) 0 ≡ n = ap (λ (i : ℕ). get_or s.words (word_of i) 0) (r.deep ∙ deep) in
      let mine = r.each_seat id me.0 at live in let known : (me.0.stop.has_set ≡ true) ⊎ (me.0.stop.has_seen ≡ true) → n ≡ 1 = λ z. sym same ∙ mine.stop z in
      dite (ℕ_discrete n 1)
      (λ one. (
        saw_stop me.0,
        keeps,
        tt,
        subst (λ (k : ℕ). Rule record { words = set s.words (word_of k) n; homes = s.homes; views = set s.views id (saw_stop me.0) }) deep
            (flags s r id me.0 (record me.0.stop { has_seen = true }) n at live (λ _. one) (λ _. one)),
        ((λ _. refl), (λ not. absurd (not one)), known),
      ))
      (λ none_set. (
        me.0,
        keeps,
        tt,
        subst (λ (k : ℕ). Rule record { words = set s.words (word_of k) n; homes = s.homes; views = set s.views id me.0 }) deep
            (flags s r id me.0 me.0.stop n at live (λ e. sym same ∙ e) known),
        ((λ one. absurd (none_set one)), (λ _. refl), known),
      ))
