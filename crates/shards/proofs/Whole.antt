-- The table as it is made.
use Rattle.std.proofs.Common.{◌≡◌, ℕ, zero, suc, ◌+◌, ◌-◌, ◌<◌, Bool, true, false, List, [], ◌∷◌, map, length, get_or, sym, refl, ap, ◌∙◌, subst, ⊎_elim, inl, lit≤, arith, Option, Some}
use Rattle.std.specs.Prelude.{slice_get}
use Rattle.std.proofs.lemmas.List.{length-map}
use Rattle.std.proofs.lemmas.List.FromFn.{length-map-range_with_len}
use mathlib.Core.Option.{some, some-injective, some-ne-none}
use lib.ListN.{get_elem?}
use Rattle.atomic_table.specs.Table.{opening}
use Rattle.atomic_table.proofs.Lists.{at_map}
use Rattle.core_steps.specs.Core.{Core}
use Rattle.core_steps.specs.Steps.{start_channel}
use Rattle.core_steps.specs.Told.{Told, Listed, listed}
use Rattle.core_steps.proofs.Starts.{good_start}
use Rattle.shards.specs.Known.{Own, Known, all_tell, graph_in, monitor_in, session_pass, start_in}
use Rattle.shards.specs.Kept.{Assembles, DeskFits, IsCaused, IsExplained, IsSeatOf, Kept, Stands}
use Rattle.shards.specs.Making.{AreStart, IsFresh}
use Rattle.shards.specs.Words.{word_of}
use Rattle.shards.proofs.Parts.{got_at}

count_at : {A : Type 0} (f : A → ℕ) (l : List A) (k : ℕ) (a : A) → get_elem? l k ≡ some a → get_or (map f l) k 0 ≡ f a
count_at f [] k a e = absurd (some-ne-none a (sym e))
count_at f (x ∷ l) zero a e = ap f (some-injective x a e)
count_at f (x ∷ l) (suc k) a e = count_at f l k a e

fresh_explained : (all : Bool) (start : ℕ) (t : Told) → start ≡ t.faults → IsFresh t → IsExplained all false start t
fresh_explained all start t same fresh = record {
  least = omega arith;
  failed = λ e. let bad : true ≡ false = sym e ∙ fresh.failed in cc;
  ended = subst (IsCaused all false start t) (sym fresh.sound) tt;
}

listed_each : {C : Type 0} (told : C → Told) (us : List C) → map listed (map told us) ≡ map (λ (u : C). listed (told u)) us
listed_each told [] = refl
listed_each told (u ∷ us) = ap (λ (l : List Listed). listed (told u) ∷ l) (listed_each told us)

counts_each : {C : Type 0} (told : C → Told) (us : List C) → map (λ (t : Told). t.faults) (map told us) ≡ map (λ (u : C). (told u).faults) us
counts_each told [] = refl
counts_each told (u ∷ us) = ap (λ (l : List ℕ). (told u).faults ∷ l) (counts_each told us)

module _ {C : Type 0} (told : C → Told) (backs : Core → List C → Type 0) (units : List C) (next_id : ℕ) where
  abbrev view : Known C
  view = session_pass (map told units) next_id

  pub assembles_start : 1 < length units → AreStart told backs units next_id → Assembles told backs units 1 (view ∷ [])
  assembles_start many are = let ts : List Told = map told units in let c : Core = start_in ts next_id in let n : length ts ≡ length units = length-map units told in
      let wide : length c.channels ≡ length ts - 1 = length-map-range_with_len (start_channel (graph_in ts) (monitor_in ts).stores_ended (length ts - 1)) 0 (length ts - 1) in record {
        core = c;
        start = c;
        log = [];
        good = good_start (graph_in ts) next_id (monitor_in ts).stores_ended (length ts - 1) 1 (monitor_in ts).format (omega arith) are.graph;
        runs = refl;
        count = omega arith;
        hands = refl;
        shards = λ k u e. are.parts k u (got_at units k u e);
        seats = λ j v e live. seat j v e;
        joined = λ j v e live. joined j v e;
        desk = λ j v e live z. desk j v e;
        backed = are.backed;
      }
    where
      seat : (j : ℕ) (v : Known C) → get_elem? (view ∷ []) j ≡ some v → Stands (start_in (map told units) next_id) [] v.own
      seat zero v e = subst (λ (x : Known C). Stands (start_in (map told units) next_id) [] x.own) (some-injective view v e) record { hand = refl; mine = refl }
      seat (suc j) v e = absurd (some-ne-none v (sym e))

      joined : (j : ℕ) (v : Known C) → get_elem? (view ∷ []) j ≡ some v → (i : ℕ) (o : Own) → get_elem? v.joined i ≡ some o → Stands (start_in (map told units) next_id) [] o
      joined zero v e = subst (λ (x : Known C). (i : ℕ) (o : Own) → get_elem? x.joined i ≡ some o → Stands (start_in (map told units) next_id) [] o) (some-injective view v e) (λ i o f. absurd (some-ne-none o (sym f)))
      joined (suc j) v e = absurd (some-ne-none v (sym e))

      desk : (j : ℕ) (v : Known C) → get_elem? (view ∷ []) j ≡ some v → DeskFits (start_in (map told units) next_id) (start_in (map told units) next_id) v.desk
      desk zero v e = subst (λ (x : Known C). DeskFits (start_in (map told units) next_id) (start_in (map told units) next_id) x.desk) (some-injective view v e)
          record { start = refl; book = refl; pins = refl; settled = λ b f. cc; cycles = lit≤ tt }
      desk (suc j) v e = absurd (some-ne-none v (sym e))

  pub opens : (ws : List ℕ) → 1 < length units → ((k : ℕ) (u : C) → slice_get units k ≡ Some u → IsFresh (told u)) → (all_tell (map told units) ≡ true → AreStart told backs units next_id)
      → length ws ≡ word_of (length units) + 1 → ((k : ℕ) → get_or ws k 0 ≡ 0) → Kept told backs (opening ws (map (λ (u : C). Some u) units) view)
  opens ws many fresh are wide blank = let xs : List (Option C) = map (λ (u : C). Some u) units in
      let n : length (map (λ (x : Option C). some x) xs) ≡ length units = length-map xs (λ (x : Option C). some x) ∙ length-map units (λ (u : C). Some u) in record {
        units = units;
        starts = map (λ (u : C). (told u).faults) units;
        actors = 1;
        all = all_tell (map told units);
        late = false;
        tell = refl;
        owner = λ _. 0;
        keeper = λ _. 1;
        wide = wide ∙ ap (λ (m : ℕ). word_of m + 1) (sym n);
        deep = sym n;
        each_shard = λ k u e. record {
          home = λ _. at_map (λ (x : Option C). some x) xs k (Some u) (at_map (λ (u : C). Some u) units k u e);
          out = λ z. absurd (z (blank (word_of k)));
          explained = fresh_explained (all_tell (map told units)) (get_or (map (λ (u : C). (told u).faults) units) k 0) (told u) (count_at (λ (u : C). (told u).faults) units k u e) (fresh k u (got_at units k u e));
        };
        each_actor = λ a below. record { seat = 0; view = view; there = refl; live = refl; has = inl (omega arith) };
        each_seat = λ j v e live. seat j v e;
        assembles = λ all. assembles_start many (are all);
      }
    where
      starts : List ℕ
      starts = map (λ (u : C). (told u).faults) units

      seat : (j : ℕ) (v : Known C) → get_elem? (view ∷ []) j ≡ some v → IsSeatOf told backs units starts 1 (all_tell (map told units)) false (λ _. 0) (λ _. 1) ws j v
      seat zero v e = subst (IsSeatOf told backs units starts 1 (all_tell (map told units)) false (λ _. 0) (λ _. 1) ws 0) (some-injective view v e) record {
        keeps = refl;
        there = omega arith;
        joined = λ i o f. absurd (some-ne-none o (sym f));
        taken = λ k u f. cc;
        listed = λ _. (listed_each told units, refl, refl, counts_each told units);
        ended = tt;
        endings = λ i o f. absurd (some-ne-none o (sym f));
        stop = λ z. ⊎_elim (λ (q : false ≡ true). absurd (let bad = q in cc)) (λ (q : false ≡ true). absurd (let bad = q in cc)) z;
        tells = refl;
        channels = let l = length-map units told in omega arith;
      }
      seat (suc j) v e = absurd (some-ne-none v (sym e))
