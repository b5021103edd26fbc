-- Each step keeps the rule.
use Rattle.std.proofs.Common.{◌≡◌, ◌≢◌, ℕ, ◌+◌, ◌<◌, Bool, true, false, cond, ◌||◌, eqb, List, [], ◌∷◌, map, length, get_or, set, sym, refl, ap, ◌∙◌, subst, arith, Option, Some, None, length-set, get_or-set_other, get_or-set_same, eq-eqb, ne_eqb}
use Rattle.std.specs.Prelude.{nat_eq}
use mathlib.Core.Logic.{dite}
use mathlib.Core.Option.{none, some, some-injective}
use native.Mathlib.Decide.{ℕ_discrete}
use lib.ListN.{get_elem?}
use lib.Seq.{map-set, set-get_or}
use prog.Atomic.{either}
use Rattle.atomic_table.specs.Table.{State, Me, step, keeps, takes, gives, stepped, put_back, rest, Allows}
use Rattle.atomic_table.proofs.Lists.{set_here, set_else}
use Rattle.core_steps.specs.declared.event.Event.{Event}
use Rattle.core_steps.specs.Core.{Core, Hand}
use Rattle.core_steps.specs.Told.{Told}
use Rattle.shards.specs.Backed.{EventsKeep, RestsKeep}
use Rattle.shards.specs.Known.{Own, Known, gave, is_late, refused, took}
use Rattle.shards.specs.Kept.{Assembles, IsAtHomeOrOut, IsCausedThere, IsSeatOf, Kept}
use Rattle.shards.specs.Plays.{Glimpse, Goes, Makes, Returns, Steps, left, tried}
use Rattle.shards.specs.Words.{word_of}
use Rattle.shards.proofs.Put.{put, put_here, put_else}
use Rattle.shards.proofs.Parts.{Out, ended_kept, ended_stays, explained_after, explained_on, is_below, lists_mine, lists_others, out_stays, set_cases, set_there, some_at, tell_still, told_at}
use Rattle.shards.proofs.Seats.{seat_stays}
use Rattle.shards.proofs.Cores.{assembles_event, assembles_rest, assembles_view, steps}

-- the words of two shards are two
words_apart : (i k : ℕ) → i ≢ k → word_of i ≢ word_of k
words_apart i k n e = n (omega arith)

same_shard : (i k : ℕ) → word_of i ≡ word_of k → i ≡ k
same_shard i k e = omega arith

abbrev get_word : List ℕ → ℕ → ℕ
get_word ws i = get_or ws i 0

-- whether the session had a late store open, once an actor's turn is back with this hand
abbrev late_then : ℕ → Bool → Hand → Bool
late_then actor late h = cond (nat_eq actor 0) (late || is_late h) late

late_more : (actor : ℕ) (late : Bool) (h : Hand) → late ≡ true → late_then actor late h ≡ true
late_more actor late h e = by (nat_eq actor 0)
  where
    by : (b : Bool) → cond b (late || is_late h) late ≡ true
    by true = ap (λ (z : Bool). z || is_late h) e
    by false = e

or_true : (a b : Bool) → b ≡ true → (a || b) ≡ true
or_true true b e = refl
or_true false b e = e

late_now : (actor : ℕ) (late : Bool) (h : Hand) → actor ≡ 0 → is_late h ≡ true → late_then actor late h ≡ true
late_now actor late h z e = ap (λ (b : Bool). cond b (late || is_late h) late) (eq-eqb actor 0 z) ∙ or_true late (is_late h) e

late_other : (actor : ℕ) (late : Bool) (h : Hand) → actor ≢ 0 → late ≡ late_then actor late h
late_other actor late h n = ap (λ (b : Bool). cond b (late || is_late h) late) (sym (ne_eqb actor 0 n))

late_own : (actor : ℕ) (late : Bool) (h : Hand) → actor ≡ 0 → (late || is_late h) ≡ late_then actor late h
late_own actor late h z = ap (λ (b : Bool). cond b (late || is_late h) late) (sym (eq-eqb actor 0 z))

module _ {C : Type 0} (told : C → Told) (backs : Core → List C → Type 0) where
  abbrev M : Type 0
  M = Me (Option C) (Known C)

  abbrev Rule : State (Option C) (Known C) → Type 0
  Rule = Kept told backs

  -- a turn that is given back, but for the core
  shifts : (s : State (Option C) (Known C)) (r : Rule s) (id k : ℕ) (v : Known C) (u u' : C) (h' : Hand) (o : Option Event) → get_elem? s.views id ≡ some v → v.live ≡ true → v.taken ≡ Some (k, u)
      → Returns v (told u) (told u') h' → (r.all ≡ true → Assembles told backs (set r.units k u') r.actors (set s.views id (gave v k (told u) (told u') h' o)))
      → Rule record { words = set s.words (word_of k) 0; homes = set s.homes k (some (Some u')); views = set s.views id (gave v k (told u) (told u') h' o) }
  shifts s r id k v u u' h' o at live has returns assembles =
      let mine = r.each_seat id v at live in let held = mine.taken k u has in let here = held.2 in let w : Known C = gave v k (told u) (told u') h' o in
      let d1 = r.deep in let d2 = r.wide in let under = is_below r.units k u here in let inside : k < length s.homes = omega arith in let in_words : word_of k < length s.words = omega arith in
      let now = get_or-set_same s.words (word_of k) 0 0 in_words in let a : ℕ = v.own.actor in let late' : Bool = late_then a r.late h' in let more : r.late ≡ true → late' ≡ true = late_more a r.late h' in
      let why = explained_after r.all r.late late' (get_or r.starts k 0) v (told u) (told u') h' returns mine.tells more (λ z e. late_now a r.late h' z e) (r.each_shard k u here).explained in
      let told_here = told_at told r.units k u here in let tolds : map told (set r.units k u') ≡ set (map told r.units) k (told u') = map-set told r.units k u' in record {
        units = set r.units k u';
        starts = r.starts;
        actors = r.actors;
        all = r.all;
        late = late';
        tell = tell_still told r.units k u u' here returns.tells ∙ r.tell;
        owner = r.owner;
        keeper = r.keeper;
        wide = length-set s.words (word_of k) 0 ∙ (r.wide ∙ ap (λ (n : ℕ). word_of n + 1) (sym (length-set s.homes k (some (Some u')))));
        deep = length-set r.units k u' ∙ (r.deep ∙ sym (length-set s.homes k (some (Some u'))));
        each_shard = λ j x f. set_cases r.units k j u' x (λ i y. IsAtHomeOrOut told backs r.all late' (get_or r.starts i 0) y (set s.words (word_of k) 0) (set s.homes k (some (Some u'))) (set s.views id w) r.owner i)
            record { home = λ _. set_here s.homes k (some (Some u')) inside; out = λ z. absurd (z now); explained = why }
            (λ i y n g. let q = r.each_shard i y g in let same = get_or-set_other s.words (word_of k) (word_of i) 0 0 (words_apart i k n) in record {
              home = λ z. set_else s.homes k i (some (Some u')) n ∙ q.home (sym same ∙ z);
              out = λ z. let b = q.out (λ p. z (same ∙ p)) in (same ∙ b.0, out_stays s.views id v w (r.owner i) i y at (λ p. let z2 : Some (k, u) ≡ Some (i, y) = sym has ∙ p in let z3 : (k, u) ≡ (i, y) = cc in absurd (n (ap (λ (c : ℕ × C). c.0) (sym z3)))) b.1);
              explained = explained_on r.all r.late late' (get_or r.starts i 0) (told y) more q.explained;
            }) f;
        each_actor = λ a below. seat_stays s.views id v w at live refl refl a (r.each_actor a below);
        each_seat = λ j d f. set_cases s.views id j w d (λ i y. y.live ≡ true → IsSeatOf told backs (set r.units k u') r.starts r.actors r.all late' r.owner r.keeper (set s.words (word_of k) 0) i y)
            (λ _. record {
              keeps = mine.keeps;
              there = mine.there;
              joined = mine.joined;
              taken = λ i x q. cc;
              listed = λ z. let g = mine.listed z in (lists_mine told r.units k u' v.desk.lists g.0, g.1, ap (λ (b : Bool). b || is_late h') g.2 ∙ late_own a r.late h' z, g.3);
              ended = subst (λ (ts : List Told). IsCausedThere r.all late' r.starts ts w.ended) (sym tolds)
                  (ended_kept r.all r.late late' r.starts (map told r.units) k (told u) (told u') v.ended told_here returns.goes_on more why mine.ended);
              endings = λ i e f. subst (λ (ts : List Told). IsCausedThere r.all late' r.starts ts (Some e)) (sym tolds)
                  (ended_stays r.all r.late late' r.starts (map told r.units) k (told u) (told u') (Some e) told_here returns.goes_on more (mine.endings i e f));
              stop = λ z. ap (λ (n : ℕ). get_word (set s.words (word_of k) 0) (word_of n)) (length-set r.units k u') ∙ (get_or-set_other s.words (word_of k) (word_of (length r.units)) 0 0 (λ p. omega arith) ∙ mine.stop z);
              tells = mine.tells;
              channels = mine.channels ∙ sym (length-set r.units k u');
            })
            (λ i y n g l. let q = r.each_seat i y g l in record {
              keeps = q.keeps;
              there = q.there;
              joined = q.joined;
              taken = λ c x b. let p = q.taken c x b in let other : c ≢ k = λ z. n (sym p.0 ∙ (ap r.owner z ∙ held.0)) in (p.0, get_or-set_other s.words (word_of k) (word_of c) 0 0 (words_apart c k other) ∙ p.1, set_else r.units k c u' other ∙ p.2);
              listed = λ z. let b = q.listed z in let ne : a ≢ 0 = λ p. let k0 = ap r.keeper (z ∙ sym p) in let k1 = q.keeps in let k2 = mine.keeps in n (omega arith) in
                  (b.0 ∙ lists_others told r.units k u u' here (returns.others ne), b.1, b.2 ∙ late_other a r.late h' ne, b.3);
              ended = subst (λ (ts : List Told). IsCausedThere r.all late' r.starts ts y.ended) (sym tolds)
                  (ended_stays r.all r.late late' r.starts (map told r.units) k (told u) (told u') y.ended told_here returns.goes_on more q.ended);
              endings = λ p e z. subst (λ (ts : List Told). IsCausedThere r.all late' r.starts ts (Some e)) (sym tolds)
                  (ended_stays r.all r.late late' r.starts (map told r.units) k (told u) (told u') (Some e) told_here returns.goes_on more (q.endings p e z));
              stop = λ z. ap (λ (n : ℕ). get_word (set s.words (word_of k) 0) (word_of n)) (length-set r.units k u') ∙ (get_or-set_other s.words (word_of k) (word_of (length r.units)) 0 0 (λ p. omega arith) ∙ q.stop z);
              tells = q.tells;
              channels = q.channels ∙ sym (length-set r.units k u');
            }) f;
        assembles = assembles;
      }

  -- no other seat, and no hand that is joined, is of the actor of this seat
  alone : (s : State (Option C) (Known C)) (r : Rule s) (id : ℕ) (v : Known C) → get_elem? s.views id ≡ some v → v.live ≡ true → (j : ℕ) (d : Known C) → j ≢ id → get_elem? s.views j ≡ some d → d.live ≡ true
      → d.own.actor ≢ v.own.actor
  alone s r id v at live j d n f l z = let k0 = ap r.keeper z in let k1 = (r.each_seat j d f l).keeps in let k2 = (r.each_seat id v at live).keeps in n (omega arith)

  apart : (s : State (Option C) (Known C)) (r : Rule s) (id : ℕ) (v : Known C) → get_elem? s.views id ≡ some v → v.live ≡ true → (j : ℕ) (d : Known C) → get_elem? s.views j ≡ some d → d.live ≡ true → (i : ℕ) (o : Own)
      → get_elem? d.joined i ≡ some o → o.actor ≢ v.own.actor
  apart s r id v at live j d f l i o g z = let k0 = ap r.keeper z in let k1 = ((r.each_seat j d f l).joined i o g).0 in let k2 = (r.each_seat id v at live).keeps in absurd (omega arith)

  module _ (turns : Option Event → C → C → Type 0) (events_keep : EventsKeep told backs turns) (rests_keep : RestsKeep told backs turns) where
    gives_core : (s : State (Option C) (Known C)) (r : Rule s) (id k : ℕ) (v : Known C) (u u' : C) (h' : Hand) (moves : Bool) (asks : Event → Type 0) (o : Option Event) → get_elem? s.views id ≡ some v → v.live ≡ true → v.taken ≡ Some (k, u)
        → Goes told turns v k u u' h' moves asks o → r.all ≡ true → Assembles told backs (set r.units k u') r.actors (set s.views id (gave v k (told u) (told u') h' o))
    gives_core s r id k v u u' h' true asks o at live has goes all = let mine = r.each_seat id v at live in let here = (mine.taken k u has).2 in let g = goes (mine.tells ∙ all) in
        subst (λ (x : Option Event). Assembles told backs (set r.units k u') r.actors (set s.views id (gave v k (told u) (told u') h' x))) (sym g.1)
        (assembles_event told backs turns events_keep r.units r.actors s.views id k v u u' h' g.0 (r.assembles all) at live mine.channels here g.3 g.4 (alone s r id v at live) (apart s r id v at live))
    gives_core s r id k v u u' h' false asks o at live has goes all = let mine = r.each_seat id v at live in let here = (mine.taken k u has).2 in let g = goes.1 (mine.tells ∙ all) in
        subst (λ (x : Option Event). Assembles told backs (set r.units k u') r.actors (set s.views id (gave v k (told u) (told u') h' x))) (sym goes.0)
        (assembles_rest told backs turns rests_keep r.units r.actors s.views id k v u u' h' (r.assembles all) at live here g.0 g.1)

    steps_so : (s : State (Option C) (Known C)) (r : Rule s) (id k : ℕ) (v : Known C) (u u' : C) (h' : Hand) (moves : Bool) (asks : Event → Type 0) (o : Option Event) → get_elem? s.views id ≡ some v → v.live ≡ true → v.taken ≡ Some (k, u)
        → Goes told turns v k u u' h' moves asks o → v.tells ≡ true → (e : Event) → o ≡ Some e → Steps v k (told u) (told u') h' e
    steps_so s r id k v u u' h' true asks o at live has goes said e is = let mine = r.each_seat id v at live in let here = (mine.taken k u has).2 in let g = goes said in let same : Some g.0 ≡ Some e = sym g.1 ∙ is in let same' : g.0 ≡ e = cc in
        subst (Steps v k (told u) (told u') h') same' (steps told backs turns r.units r.actors s.views id k v u u' h' g.0 (r.assembles (sym mine.tells ∙ said)) at live mine.channels here g.3)
    steps_so s r id k v u u' h' false asks o at live has goes said e is = let bad : None ≡ Some e = sym goes.0 ∙ is in cc

    pub leaves : (slots id : ℕ) (me : M) (k : ℕ) (u u' : C) (h' : Hand) (moves : Bool) (asks : Event → Type 0) (o : Option Event) → me.0.live ≡ true → me.0.taken ≡ Some (k, u) → me.1 ≡ (k, Some u') ∷ [] → Returns me.0 (told u) (told u') h'
        → Goes told turns me.0 k u u' h' moves asks o → Allows Rule slots id me (word_of k) (λ _. 0) (left told turns h' moves asks (step slots (word_of k) 0 0 none) me)
    leaves slots id me k u u' h' moves asks o live has hold returns goes s r deep at _ = let w : Known C = gave me.0 k (told u) (told u') h' o in (
      w,
      gives,
      tt,
      subst (λ (cs : List (ℕ × Option C)). Rule record { words = set s.words (word_of k) 0; homes = put_back s.homes cs; views = set s.views id w }) (sym hold)
          (shifts s r id k me.0 u u' h' o at live has returns (gives_core s r id k me.0 u u' h' moves asks o at live has goes)),
      λ j x y has2 hold2. let z1 : ◌≡◌ {A = List (ℕ × Option C)} ((k, Some u') ∷ []) ((j, Some y) ∷ []) = sym hold ∙ hold2 in let z3 : ◌≡◌ {A = ℕ × Option C} (k, Some u') (j, Some y) = cc in
          let z4 : Some u' ≡ Some y = ap (λ (q : ℕ × Option C). q.1) z3 in let z2 : u' ≡ y = cc in let y1 : Some (k, u) ≡ Some (j, x) = sym has ∙ has2 in let y2 : (k, u) ≡ (j, x) = cc in let y3 : u ≡ x = ap (λ (q : ℕ × C). q.1) y2 in
          let y4 : k ≡ j = ap (λ (q : ℕ × C). q.0) y2 in
          let goes2 : Goes told turns me.0 j x y h' moves asks o = subst (λ (q : ℕ × C × C). Goes told turns me.0 q.0 q.1 q.2 h' moves asks o) (λ i. (y4 i, y3 i, z2 i)) goes in
          (o, goes2, (λ i. (gave me.0 (y4 i) (told (y3 i)) (told (z2 i)) h' o, rest (hold i))), steps_so s r id j me.0 x y h' moves asks o at live has2 goes2),
    )

    pub after_left : (v : Known C) (slots k n : ℕ) (u u' : C) (h' : Hand) (moves : Bool) (asks : Event → Type 0) (me me' : M) → me.0 ≡ v → me.1 ≡ (k, Some u') ∷ [] → v.taken ≡ Some (k, u) → left told turns h' moves asks (step slots (word_of k) 0 0 none) me n me'
        → (o : Option Event) × Goes told turns v k u u' h' moves asks o × (me' ≡ (gave v k (told u) (told u') h' o, [])) × (v.tells ≡ true → (e : Event) → o ≡ Some e → Steps v k (told u) (told u') h' e)
    after_left v slots k n u u' h' moves asks me me' same hold has saw = let got = saw k u u' (ap (λ (z : Known C). z.taken) same ∙ has) hold in (
      got.0,
      subst (λ (z : Known C). Goes told turns z k u u' h' moves asks got.0) same got.1,
      got.2 ∙ (λ i. (gave (same i) k (told u) (told u') h' got.0, [])),
      subst (λ (z : Known C). z.tells ≡ true → (e : Event) → got.0 ≡ Some e → Steps z k (told u) (told u') h' e) same got.3,
    )

  -- the event is picked where every unit tells, and none elsewhere
  chosen : (turns : Option Event → C → C → Type 0) (v : Known C) (k : ℕ) (u u' : C) (h' : Hand) (asks : Event → Type 0) (b : Bool) → v.tells ≡ b
      → (v.tells ≡ true → (e : Event) × asks e × Makes v k (told u) (told u') h' e × turns (Some e) u u') → (o : Option Event) × Goes told turns v k u u' h' true asks o
  chosen turns v k u u' h' asks true is ask = let e = ask is in (Some e.0, λ _. (e.0, refl, e.1, e.2, e.3))
  chosen turns v k u u' h' asks false is ask = (None, λ y. let bad : false ≡ true = sym is ∙ y in cc)

  pub choose : (turns : Option Event → C → C → Type 0) (v : Known C) (k : ℕ) (u u' : C) (h' : Hand) (asks : Event → Type 0)
      → (v.tells ≡ true → (e : Event) × asks e × Makes v k (told u) (told u') h' e × turns (Some e) u u') → (o : Option Event) × Goes told turns v k u u' h' true asks o
  choose turns v k u u' h' asks ask = chosen turns v k u u' h' asks v.tells refl ask

  pub tries : (slots id : ℕ) (me : M) (k : ℕ) → k < slots → me.0.live ≡ true → me.0.taken ≡ None → Allows Rule slots id me (word_of k) (λ n. either (eqb n 0) 1 n) (tried told (step slots (word_of k) 0 1 none) me)
  tries slots id me k near live free s r deep at _ = let x : ℕ = get_or s.words (word_of k) 0 in let d1 = r.deep in let d2 = r.wide in let inside : k < length s.homes = omega arith in let in_words : word_of k < length s.words = omega arith in
      let unit = some_at r.units k (omega arith) in let u : C = unit.0 in let ok = r.each_shard k u unit.1 in let mine = r.each_seat id me.0 at live in
      let v : Known C = me.0 in let same = λ (w : Known C) (own : w.own ≡ v.own) (joined : w.joined ≡ v.joined) (desk : w.desk ≡ v.desk) (all : r.all ≡ true). assembles_view told backs r.units r.actors s.views id v w (r.assembles all) at live own joined desk in
      dite (ℕ_discrete x 0) (λ hit. let w : Known C = took v k u in let now = get_or-set_same s.words (word_of k) 1 0 in_words in (
        w,
        takes k (Some u),
        ok.home hit,
        subst (λ b. Rule (stepped s (word_of k) (either b 1 x) id me.1 w (takes k (Some u)))) (sym (eq-eqb x 0 hit)) record {
          units = r.units;
          starts = r.starts;
          actors = r.actors;
          all = r.all;
          late = r.late;
          tell = r.tell;
          owner = put r.owner k id;
          keeper = r.keeper;
          wide = length-set s.words (word_of k) 1 ∙ (r.wide ∙ ap (λ (n : ℕ). word_of n + 1) (sym (length-set s.homes k none)));
          deep = r.deep ∙ sym (length-set s.homes k none);
          each_shard = λ j y f. let o = r.each_shard j y f in dite (ℕ_discrete j k)
              (λ e. let is : u ≡ y = some-injective u y (sym unit.1 ∙ (ap (get_elem? r.units) (sym e) ∙ f)) in record {
                home = λ z. let z1 : get_or (set s.words (word_of k) 1) (word_of k) 0 ≡ 0 = ap (λ (n : ℕ). get_word (set s.words (word_of k) 1) (word_of n)) (sym e) ∙ z in absurd (omega arith);
                out = λ _. (
                  ap (λ (n : ℕ). get_word (set s.words (word_of k) 1) (word_of n)) e ∙ now,
                  (
                    w,
                    ap (λ (i : ℕ). get_elem? (set s.views id w) (put r.owner k id i)) e ∙ (ap (get_elem? (set s.views id w)) (put_here r.owner k id) ∙ set_there s.views id v w at),
                    live,
                    λ i. Some (sym e i, is i),
                  ),
                );
                explained = o.explained;
              })
              (λ n. let still = get_or-set_other s.words (word_of k) (word_of j) 1 0 (words_apart j k n) in record {
                home = λ z. set_else s.homes k j none n ∙ o.home (sym still ∙ z);
                out = λ z. let g = o.out (λ p. z (still ∙ p)) in (
                  still ∙ g.0,
                  subst (λ (i : ℕ). Out (set s.views id w) i j y) (sym (put_else r.owner k id j n))
                      (out_stays s.views id v w (r.owner j) j y at (λ e. let bad : None ≡ Some (j, y) = sym free ∙ e in cc) g.1),
                );
                explained = o.explained;
              });
          each_actor = λ a below. seat_stays s.views id v w at live refl refl a (r.each_actor a below);
          each_seat = λ j d f. set_cases s.views id j w d (λ i y. y.live ≡ true → IsSeatOf told backs r.units r.starts r.actors r.all r.late (put r.owner k id) r.keeper (set s.words (word_of k) 1) i y)
              (λ _. record {
                keeps = mine.keeps;
                there = mine.there;
                joined = mine.joined;
                taken = λ j y e. let pair : (k, u) ≡ (j, y) = cc in subst (λ (q : ℕ × C). (put r.owner k id q.0 ≡ id) × (get_or (set s.words (word_of k) 1) (word_of q.0) 0 ≡ 1) × (get_elem? r.units q.0 ≡ some q.1)) pair
                    (put_here r.owner k id, now, unit.1);
                listed = mine.listed;
                ended = mine.ended;
                endings = mine.endings;
                stop = λ z. get_or-set_other s.words (word_of k) (word_of (length r.units)) 1 0 (λ p. omega arith) ∙ mine.stop z;
                tells = mine.tells;
                channels = mine.channels;
              })
              (λ i y n g l. let o = r.each_seat i y g l in record {
                keeps = o.keeps;
                there = o.there;
                joined = o.joined;
                taken = λ c p e. let b = o.taken c p e in let other : c ≢ k = λ q. let z : get_or s.words (word_of k) 0 ≡ 1 = ap (λ (n : ℕ). get_word s.words (word_of n)) (sym q) ∙ b.1 in omega arith in
                    (put_else r.owner k id c other ∙ b.0, get_or-set_other s.words (word_of k) (word_of c) 1 0 (words_apart c k other) ∙ b.1, b.2);
                listed = o.listed;
                ended = o.ended;
                endings = o.endings;
                stop = λ z. get_or-set_other s.words (word_of k) (word_of (length r.units)) 1 0 (λ p. omega arith) ∙ o.stop z;
                tells = o.tells;
                channels = o.channels;
              }) f;
          assembles = same w refl refl refl;
        },
        λ j is. subst (λ (i : ℕ). (x ≡ 0 → (y : C) × (◌≡◌ {A = M} (w, (k, Some u) ∷ me.1) (took v i y, (i, Some y) ∷ me.1)) × (v.tells ≡ true → Glimpse v i (told y)))
            × (x ≢ 0 → (x ≡ 1) × (◌≡◌ {A = M} (w, (k, Some u) ∷ me.1) (refused v i, me.1)))) (same_shard k j is) (
              (λ _. (
                u,
                refl,
                λ said. let q = r.assembles (sym mine.tells ∙ said) in record {
                  core = q.core;
                  good = q.good;
                  channels = omega (arith, q.count, mine.channels);
                  shard = q.shards k u unit.1;
                  hand = (q.seats id v at live).hand;
                  desk = λ z. (q.start, q.desk id v at live z);
                },
              )),
              λ not. absurd (not hit),
            ),
      ))
      (λ miss. let w : Known C = refused v k in (
        w,
        keeps,
        tt,
        subst (λ b. Rule (stepped s (word_of k) (either b 1 x) id me.1 w keeps)) (sym (ne_eqb x 0 miss)) (subst (λ (ws : List ℕ). Rule record { words = ws; homes = s.homes; views = set s.views id w }) (sym (set-get_or s.words (word_of k) 0)) record {
          units = r.units;
          starts = r.starts;
          actors = r.actors;
          all = r.all;
          late = r.late;
          tell = r.tell;
          owner = r.owner;
          keeper = r.keeper;
          wide = r.wide;
          deep = r.deep;
          each_shard = λ j y f. let o = r.each_shard j y f in record {
            home = o.home;
            out = λ z. let g = o.out z in (g.0, out_stays s.views id v w (r.owner j) j y at (λ e. (live, e)) g.1);
            explained = o.explained;
          };
          each_actor = λ a below. seat_stays s.views id v w at live refl refl a (r.each_actor a below);
          each_seat = λ j d f. set_cases s.views id j w d (λ i y. y.live ≡ true → IsSeatOf told backs r.units r.starts r.actors r.all r.late r.owner r.keeper s.words i y)
              (λ _. record { keeps = mine.keeps; there = mine.there; joined = mine.joined; taken = mine.taken; listed = mine.listed; ended = mine.ended; endings = mine.endings; stop = mine.stop; tells = mine.tells; channels = mine.channels }) (λ i y n g l. r.each_seat i y g l) f;
          assembles = same w refl refl refl;
        }),
        λ j is. ((λ hit. absurd (miss hit)), λ _. ((ok.out miss).0, λ i. (refused v (same_shard k j is i), me.1))),
      ))
