-- The parts of the rule, one by one.
use Rattle.std.proofs.Common.{◌≡◌, ◌≢◌, ℕ, zero, suc, ◌<◌, ◌≤◌, Bool, true, false, cond, ◌&&◌, List, [], ◌∷◌, ◌++◌, map, length, get_or, set, sym, refl, ap, ◌∙◌, subst, ⊎_elim, inl, inr, arith, Option, Some, None}
use Rattle.std.specs.Prelude.{is_some, nat_eq, slice_get}
use mathlib.Core.Logic.{dite}
use mathlib.Core.Option.{some, some-injective, some-ne-none}
use native.Mathlib.Decide.{ℕ_discrete}
use lib.ListN.{get_elem?}
use lib.Seq.{map-set}
use Rattle.atomic_table.proofs.Lists.{at_set, set_else, set_again, at_map}
use Rattle.core_steps.specs.declared.event.Step.{Step}
use Rattle.core_steps.specs.declared.unit.Ending.{Ending}
use Rattle.core_steps.specs.declared.unit.Ending.TheVariants.{Sound, Fault, Full, Broken}
use Rattle.core_steps.specs.Core.{Hand}
use Rattle.core_steps.specs.Steps.{steps_by}
use Rattle.core_steps.specs.Told.{Told, Listed, GoesOn, listed}
use Rattle.call_counts.specs.Counts.{Rose}
use Rattle.shards.specs.Known.{Known, Ended, all_tell, ended_then, is_late}
use Rattle.shards.specs.Kept.{IsCaused, IsCausedThere, IsExplained}
use Rattle.shards.specs.Plays.{IsRightEnding, Returns}

-- LISTS

module _ {A : Type 0} where
  pub set_there : (l : List A) (i : ℕ) (a b : A) → get_elem? l i ≡ some a → get_elem? (set l i b) i ≡ some b
  set_there [] i a b e = absurd (some-ne-none a (sym e))
  set_there (x ∷ xs) zero a b e = refl
  set_there (x ∷ xs) (suc i) a b e = set_there xs i a b e

  -- the changed element is b, and the others are as they were
  pub set_cases : (l : List A) (i j : ℕ) (b c : A) (P : ℕ → A → Type 0) → P i b → ((k : ℕ) (d : A) → k ≢ i → get_elem? l k ≡ some d → P k d)
      → get_elem? (set l i b) j ≡ some c → P j c
  set_cases l i j b c P here others e = ⊎_elim (λ (t : (j ≡ i) × (b ≡ c)). subst (λ (x : ℕ × A). P x.0 x.1) (λ m. (sym t.0 m, t.1 m)) here)
      (λ (t : (j ≢ i) × (get_elem? l j ≡ some c)). others j c t.0 t.1) (at_set l i j b c e)

  pub some_at : (l : List A) (i : ℕ) → i < length l → (a : A) × (get_elem? l i ≡ some a)
  some_at [] i h = absurd (omega arith)
  some_at (x ∷ xs) zero h = (x, refl)
  some_at (x ∷ xs) (suc i) h = some_at xs i (omega arith)

  pub is_below : (l : List A) (i : ℕ) (a : A) → get_elem? l i ≡ some a → i < length l
  is_below [] i a e = absurd (some-ne-none a (sym e))
  is_below (x ∷ xs) zero a e = omega arith
  is_below (x ∷ xs) (suc i) a e = let h = is_below xs i a e in omega arith

  -- the two ways to look up an element agree
  pub got_at : (l : List A) (i : ℕ) (a : A) → get_elem? l i ≡ some a → slice_get l i ≡ Some a
  got_at [] i a e = absurd (some-ne-none a (sym e))
  got_at (x ∷ xs) zero a e = ap (λ (y : A). Some y) (some-injective x a e)
  got_at (x ∷ xs) (suc i) a e = got_at xs i a e

-- SEATS

module _ {C : Type 0} where
  abbrev pub Out : List (Known C) → ℕ → ℕ → C → Type 0
  Out vs j k u = (v : Known C) × (get_elem? vs j ≡ some v) × (v.live ≡ true) × (v.taken ≡ Some (k, u))

  -- a shard that is out stays with its seat
  pub out_stays : (vs : List (Known C)) (id : ℕ) (v w : Known C) (j k : ℕ) (u : C) → get_elem? vs id ≡ some v
      → (v.taken ≡ Some (k, u) → (w.live ≡ true) × (w.taken ≡ Some (k, u))) → Out vs j k u → Out (set vs id w) j k u
  out_stays vs id v w j k u at same (d, there, live, taken) = dite (ℕ_discrete j id)
      (λ e. let is : d ≡ v = some-injective d v (sym there ∙ (ap (get_elem? vs) e ∙ at)) in let t = same (ap (λ (z : Known C). z.taken) (sym is) ∙ taken) in
      (w, ap (get_elem? (set vs id w)) e ∙ set_there vs id v w at, t.0, t.1))
      (λ n. (d, set_else vs id j w n ∙ there, live, taken))

-- COUNTS AND ENDINGS

rose_more : (a b c : ℕ) → a ≤ b → Rose b c → Rose a c
rose_more a b c less rose = omega arith

rose_on : (a b c : ℕ) → Rose a b → b ≤ c → Rose a c
rose_on a b c rose more = omega arith

-- a cause stays one
caused_on : (all late late' : Bool) (start : ℕ) (t t' : Told) (e : Ending) → GoesOn t t' → (late ≡ true → late' ≡ true) → IsCaused all late start t e → IsCaused all late' start t' e
caused_on all late late' start t t' Sound goes more c = tt
caused_on all late late' start t t' Fault goes more c = rose_on start t.faults t'.faults c goes.faults
caused_on all late late' start t t' (Full n) goes more c = ⊎_elim (λ f. inl (goes.full f)) (λ l. inr (more l)) c
caused_on all late late' start t t' (Broken x) goes more c = c

module _ {C : Type 0} where
  pub explained_after : (all late late' : Bool) (start : ℕ) (v : Known C) (t t' : Told) (h : Hand) → Returns v t t' h → v.tells ≡ all → (late ≡ true → late' ≡ true)
      → (v.own.actor ≡ 0 → is_late h ≡ true → late' ≡ true) → IsExplained all late start t → IsExplained all late' start t'
  explained_after all late late' start v t t' h returns tells more now was = record {
    least = let a = was.least in let b = returns.goes_on.faults in omega arith;
    failed = failed;
    ended = ⊎_elim (λ same. subst (IsCaused all late' start t') (sym same) (caused_on all late late' start t t' t.ending returns.goes_on more was.ended)) (right t'.ending) returns.ends;
  }
    where
      failed : t'.failed ≡ true → Rose start t'.faults
      failed e = by t.failed refl
        where
          by : (b : Bool) → t.failed ≡ b → Rose start t'.faults
          by true is = rose_on start t.faults t'.faults (was.failed is) returns.goes_on.faults
          by false is = rose_more start t.faults t'.faults was.least (returns.goes_on.failed e is)

      right : (e : Ending) → IsRightEnding v t' h e → IsCaused all late' start t' e
      right Sound r = absurd r
      right Fault r = failed r
      right (Full n) r = ⊎_elim (λ f. inl f) (λ (z : (v.own.actor ≡ 0) × (is_late h ≡ true)). inr (now z.0 z.1)) r
      right (Broken x) r = sym tells ∙ r

-- a unit that no turn touched
pub explained_on : (all late late' : Bool) (start : ℕ) (t : Told) → (late ≡ true → late' ≡ true) → IsExplained all late start t → IsExplained all late' start t
explained_on all late late' start t more was = record {
  least = was.least;
  failed = was.failed;
  ended = caused_on all late late' start t t t.ending record { faults = omega arith; full = λ e. e; failed = λ e f. let bad : true ≡ false = sym e ∙ f in cc } more was.ended;
}

-- an ending that a view has stays caused
pub ended_stays : (all late late' : Bool) (starts : List ℕ) (ts : List Told) (k : ℕ) (t t' : Told) (o : Option Ended) → get_elem? ts k ≡ some t → GoesOn t t'
    → (late ≡ true → late' ≡ true) → IsCausedThere all late starts ts o → IsCausedThere all late' starts (set ts k t') o
ended_stays all late late' starts ts k t t' None here goes more was = tt
ended_stays all late late' starts ts k t t' (Some e) here goes more was = λ x at.
    set_cases ts k e.shard t' x (λ i y. (e.shard ≡ i) → IsCaused all late' (get_or starts e.shard 0) y e.ending)
    (λ is. caused_on all late late' (get_or starts e.shard 0) t t' e.ending goes more (was t (ap (get_elem? ts) is ∙ here)))
    (λ i y n g is. caused_on all late late' (get_or starts e.shard 0) y y e.ending record { faults = omega arith; full = λ q. q; failed = λ q f. let bad : true ≡ false = sym q ∙ f in cc } more
    (was y (ap (get_elem? ts) is ∙ g))) at refl

-- and so is the one that the turn left behind
pub ended_kept : (all late late' : Bool) (starts : List ℕ) (ts : List Told) (k : ℕ) (t t' : Told) (o : Option Ended) → get_elem? ts k ≡ some t → GoesOn t t'
    → (late ≡ true → late' ≡ true) → IsExplained all late' (get_or starts k 0) t' → IsCausedThere all late starts ts o
    → IsCausedThere all late' starts (set ts k t') (ended_then o k t'.ending)
ended_kept all late late' starts ts k t t' o here goes more why was = by t'.ending refl
  where
    new : (e : Ending) → t'.ending ≡ e → (x : Told) → get_elem? (set ts k t') k ≡ some x → IsCaused all late' (get_or starts k 0) x e
    new e is x at = let same : t' ≡ x = some-injective t' x (sym (set_there ts k t t' here) ∙ at) in subst (λ (y : Told). IsCaused all late' (get_or starts k 0) y e) same
        (subst (IsCaused all late' (get_or starts k 0) t') is why.ended)

    by : (e : Ending) → t'.ending ≡ e → IsCausedThere all late' starts (set ts k t') (ended_then o k e)
    by Sound is = ended_stays all late late' starts ts k t t' o here goes more was
    by Fault is = new Fault is
    by (Full n) is = new (Full n) is
    by (Broken x) is = new (Broken x) is

-- WHAT IS LISTED, AND WHO TELLS

module _ {C : Type 0} (told : C → Told) where
  pub told_at : (units : List C) (k : ℕ) (u : C) → get_elem? units k ≡ some u → get_elem? (map told units) k ≡ some (told u)
  told_at units k u here = at_map told units k u here

  pub lists_mine : (units : List C) (k : ℕ) (u' : C) (ls : List Listed) → ls ≡ map (λ (u : C). listed (told u)) units
      → set ls k (listed (told u')) ≡ map (λ (u : C). listed (told u)) (set units k u')
  lists_mine units k u' ls was = ap (λ (l : List Listed). set l k (listed (told u'))) was ∙ sym (map-set (λ (u : C). listed (told u)) units k u')

  pub lists_others : (units : List C) (k : ℕ) (u u' : C) → get_elem? units k ≡ some u → listed (told u') ≡ listed (told u)
      → map (λ (u : C). listed (told u)) units ≡ map (λ (u : C). listed (told u)) (set units k u')
  lists_others units k u u' here same = let f : C → Listed = λ (u : C). listed (told u) in
      sym (set_again (map f units) k (f u') (at_map f units k u here ∙ ap (λ (x : Listed). some x) (sym same))) ∙ sym (map-set f units k u')

  pub tell_still : (units : List C) (k : ℕ) (u u' : C) → get_elem? units k ≡ some u → is_some (told u').part ≡ is_some (told u).part
      → all_tell (map told (set units k u')) ≡ all_tell (map told units)
  tell_still [] k u u' here same = refl
  tell_still (x ∷ units) zero u u' here same = let is : x ≡ u = some-injective x u here in
      ap (λ (b : Bool). b && all_tell (map told units)) (same ∙ ap (λ (y : C). is_some (told y).part) (sym is))
  tell_still (x ∷ units) (suc k) u u' here same = ap (λ (b : Bool). is_some (told x).part && b) (tell_still units k u u' here same)

-- STEPS OF AN ACTOR

pub last_other : (a : ℕ) (ss : List Step) (s : Step) → nat_eq s.actor a ≡ false → steps_by a (ss ++ s ∷ []) ≡ steps_by a ss
last_other a [] s n = ap (λ (b : Bool). cond b (s ∷ []) []) n
last_other a (x ∷ ss) s n = ap (λ (l : List Step). cond (nat_eq x.actor a) (x ∷ l) l) (last_other a ss s n)

pub last_own : (a : ℕ) (ss : List Step) (s : Step) → nat_eq s.actor a ≡ true → steps_by a (ss ++ s ∷ []) ≡ steps_by a ss ++ s ∷ []
last_own a [] s y = ap (λ (b : Bool). cond b (s ∷ []) []) y
last_own a (x ∷ ss) s y = ap (λ (l : List Step). cond (nat_eq x.actor a) (x ∷ l) l) (last_own a ss s y) ∙ by (nat_eq x.actor a)
  where
    by : (b : Bool) → cond b (x ∷ (steps_by a ss ++ s ∷ [])) (steps_by a ss ++ s ∷ []) ≡ cond b (x ∷ steps_by a ss) (steps_by a ss) ++ s ∷ []
    by true = refl
    by false = refl
