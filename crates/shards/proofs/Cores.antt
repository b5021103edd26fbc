-- What a turn makes of the core that units and views stand for. Here alone the laws of the core are used.
use Rattle.std.proofs.Common.{◌≡◌, ◌≢◌, ℕ, ◌+◌, ◌≤◌, ◌^◌, Bool, true, false, cond, List, [], ◌∷◌, ◌++◌, length, set, sym, refl, ap, ◌∙◌, subst, arith, Option, Some, None, length-set}
use Rattle.std.proofs.lemmas.Bool.{eq-eqb, ne_eqb}
use mathlib.Core.Logic.{dite}
use mathlib.Core.Option.{some}
use native.Mathlib.Decide.{ℕ_discrete}
use lib.ListN.{get_elem?}
use Rattle.core_steps.specs.declared.state.Book.{Book}
use Rattle.core_steps.specs.declared.event.Event.{Event}
use Rattle.core_steps.specs.declared.event.Event.TheVariants.{Reserve, Return, BeginCycle, BeginMark, MarkSome, Deliver, ReportBegun, CloseCycle, SweepSome, ReportSwept, StoreBegin, StorePart, StoreEnd, Confirm, Pin, Unpin, Tidy}
use Rattle.core_steps.specs.declared.event.Step.{Step}
use Rattle.core_steps.specs.declared.state.CoreMonitor.{CoreMonitor}
use Rattle.graph_model.specs.declared.entity.StoreOp.{StoreOp}
use Rattle.core_steps.specs.Core.{Core, Hand, held, in_any}
use Rattle.core_steps.specs.Events.{is_quiet, is_worker}
use Rattle.core_steps.specs.Good.{IsGood}
use Rattle.core_steps.specs.Settled.{IsSettledFrom}
use Rattle.core_steps.specs.Rows.{Part, Channel, Monitor, SameKind, part_step}
use Rattle.core_steps.specs.Steps.{book_after, changed, part_at, permits, pins_then, place_in, place_of, step}
use Rattle.core_steps.specs.Told.{Told}
use Rattle.core_steps.proofs.Actors.{run_then}
use Rattle.core_steps.proofs.GoodSteps.{good_step}
use Rattle.core_steps.proofs.Quiet.{worker_quiet}
use Rattle.core_steps.proofs.Settled.{settled_own, settled_step}
use Rattle.core_steps.proofs.Shards.{get_set_here, get_set_else, kind_stays, length_channels, part_here, part_else, pins_changed, step_is}
use Rattle.core_steps.proofs.Workers.{book_worker, permits_worker, pins_worker, place_worker}
use Rattle.shards.specs.Backed.{EventsKeep, RestsKeep, next_id_then}
use Rattle.shards.specs.Known.{Own, Known, begins, cycle_in, first_seen, gave, pins_with, since_then}
use Rattle.shards.specs.Kept.{Assembles, DeskFits, Stands}
use Rattle.shards.specs.Plays.{Makes, Rests, Steps}
use Rattle.shards.proofs.Cycles.{bound_moves, bound_rests, bound_stays, cycle_then, early_then}
use Rattle.shards.proofs.Parts.{got_at, last_other, last_own, set_cases}

-- an actor that did not make the step
stands_other : (c : Core) (log : List Step) (a k : ℕ) (p : Part) (h : Hand) (e : Event) (o : Own) → o.actor ≢ a → Stands c log o
    → Stands (changed c a k p h e) (log ++ record { actor = a; shard = k; event = e } ∷ []) o
stands_other c log a k p h e o n was = record {
  hand = get_set_else c.hands a o.actor h n ∙ was.hand;
  mine = last_other o.actor log record { actor = a; shard = k; event = e } (ne_eqb a o.actor (λ y. n (sym y))) ∙ was.mine;
}

-- and the one that made it
stands_own : (c : Core) (log : List Step) (o : Own) (k : ℕ) (p : Part) (h : Hand) (e : Event) → Stands c log o
    → Stands (changed c o.actor k p h e) (log ++ record { actor = o.actor; shard = k; event = e } ∷ [])
    record { actor = o.actor; hand = h; mine = o.mine ++ record { actor = o.actor; shard = k; event = e } ∷ [] }
stands_own c log o k p h e was = let s : Step = record { actor = o.actor; shard = k; event = e } in record {
  hand = get_set_here c.hands o.actor o.hand h was.hand;
  mine = last_own o.actor log s (eq-eqb o.actor o.actor refl) ∙ ap (λ (l : List Step). l ++ s ∷ []) was.mine;
}

next_worker : (b b' : Book) (e : Event) (n : ℕ) → is_worker e ≡ true → next_id_then b (Some e) n ≡ next_id_then b' (Some e) n
next_worker b b' (StoreBegin op) n w = cc
next_worker b b' (Pin x) n w = cc
next_worker b b' (Reserve m) n w = refl
next_worker b b' (Return m) n w = refl
next_worker b b' BeginCycle n w = refl
next_worker b b' BeginMark n w = refl
next_worker b b' (MarkSome xs) n w = refl
next_worker b b' (Deliver xs) n w = refl
next_worker b b' (ReportBegun j) n w = refl
next_worker b b' CloseCycle n w = refl
next_worker b b' (SweepSome xs) n w = refl
next_worker b b' (ReportSwept j) n w = refl
next_worker b b' StorePart n w = cc
next_worker b b' StoreEnd n w = cc
next_worker b b' Confirm n w = cc
next_worker b b' (Unpin x) n w = cc
next_worker b b' Tidy n w = refl

-- what shard q is, where it is the monitor, is the core's
abbrev IsShown : Part → Core → Type 0
IsShown (Monitor m) c = c.monitor ≡ m
IsShown (Channel x) c = Unit {0}

shown : (c : Core) (a k : ℕ) (q : Part) (h : Hand) (e : Event) → IsShown q (changed c a k q h e)
shown c a k (Monitor m) h e = refl
shown c a k (Channel x) h e = tt

-- from what the session sees behind its turn the core is settled
settled_then : (since : Option ℕ) (b : Book) (q : Part) (e : Event) (c c' : Core) (s : Step) → s.event ≡ e → step c s ≡ Some c' → IsGood c → IsGood c' → c'.book ≡ b → IsShown q c'
    → ((n : ℕ) → since ≡ Some n → IsSettledFrom n c) → (n : ℕ) → since_then since b (Some q) (Some e) ≡ Some n → IsSettledFrom n c'
settled_then since b q e c c' s same goes good good' book shows was = by (is_quiet e) refl
  where
    seen : (o : Option StoreOp) → o ≡ b.opened → (q : Part) → IsShown q c' → (n : ℕ) → cycle_in o (Some q) ≡ Some n → IsSettledFrom n c'
    seen None none (Monitor m) shows n is = let t : m.cycle ≡ n = cc in
        subst (λ (z : ℕ). IsSettledFrom z c') (ap (λ (z : CoreMonitor). z.cycle) shows ∙ t) (settled_own c' good' (ap (λ (z : Book). z.opened) book ∙ sym none))
    seen None none (Channel x) shows n is = cc
    seen (Some op) none q shows n is = cc

    first : is_quiet e ≡ true → (o : Option ℕ) → o ≡ since → (n : ℕ) → first_seen o (cycle_in b.opened (Some q)) ≡ Some n → IsSettledFrom n c'
    first quiet (Some m) is n there = settled_step n c s c' (ap is_quiet same ∙ quiet) good (was n (sym is ∙ there)) goes
    first quiet None is n there = seen b.opened refl q shows n there

    by : (t : Bool) → is_quiet e ≡ t → (n : ℕ) → cond t (first_seen since (cycle_in b.opened (Some q))) None ≡ Some n → IsSettledFrom n c'
    by true quiet n there = first quiet since refl n there
    by false quiet n there = cc

module _ {C : Type 0} (told : C → Told) (backs : Core → List C → Type 0) where
  -- the step that a turn makes of the assembled core
  record Moves (units : List C) (actors : ℕ) (views : List (Known C)) (r : Assembles told backs units actors views) (k : ℕ) (v : Known C) (u u' : C) (h' : Hand) (e : Event) : Type 0 where
    pub part : Part
    pub new_part : Part
    pub here : part_at r.core k ≡ Some part
    pub kind : SameKind part new_part
    pub is : (told u').part ≡ Some new_part
    pub goes : step r.core record { actor = v.own.actor; shard = k; event = e } ≡ Some (changed r.core v.own.actor k new_part h' e)
    pub next_id : (told u').next_id ≡ next_id_then r.core.book (Some e) (told u).next_id
    pub who : v.own.actor ≢ 0 → is_worker e ≡ true
    pub cycle : (changed r.core v.own.actor k new_part h' e).monitor.cycle ≡ r.core.monitor.cycle + begins (Some e)
    pub early : v.own.actor ≢ 0 → (n : ℕ) → r.core.monitor.cycle ≤ 2 ^ 63 + n → r.core.monitor.cycle + begins (Some e) ≤ 2 ^ 63 + n

  moves : (units : List C) (actors : ℕ) (views : List (Known C)) (r : Assembles told backs units actors views) (id k : ℕ) (v : Known C) (u u' : C) (h' : Hand) (e : Event)
      → get_elem? views id ≡ some v → v.live ≡ true → v.channels + 1 ≡ length units → get_elem? units k ≡ some u
      → Makes v k (told u) (told u') h' e → Moves units actors views r k v u u' h' e
  moves units actors views r id k v u u' h' e at live many there makes =
      let a : ℕ = v.own.actor in let c : Core = r.core in let mine = r.seats id v at live in
      let here : part_at c k ≡ Some makes.part = sym (r.shards k u there) ∙ makes.was in
      let count = r.count in let n : v.channels ≡ length c.channels = omega arith in
      let by : Dec (a ≡ 0) = ℕ_discrete a 0 in
      let may : permits c.book (held c.channels) a e ≡ true = dite by
      (λ z. let d = r.desk id v at live z in (λ i. permits (sym d.book i) (in_any (sym d.pins i)) a e) ∙ makes.may)
      (λ z. permits_worker c.book v.desk.book (held c.channels) (in_any v.desk.pins) a a e (makes.who z) ∙ makes.may) in
      let place : part_step (place_of c k) makes.part v.own.hand e ≡ part_step (place_in v.channels v.desk.book k) makes.part v.own.hand e = dite by
      (λ z. let d = r.desk id v at live z in λ i. part_step (place_in (sym n i) (sym d.book i) k) makes.part v.own.hand e)
      (λ z. (λ i. part_step (place_in (sym n i) c.book k) makes.part v.own.hand e) ∙ place_worker v.channels k c.book v.desk.book makes.part v.own.hand e (makes.who z)) in
      let made = place ∙ makes.made in record {
        part = makes.part;
        new_part = makes.new_part;
        here = here;
        kind = kind_stays (place_of c k) makes.part makes.new_part v.own.hand h' e made;
        is = makes.is;
        goes = step_is c a k e makes.part makes.new_part v.own.hand h' here mine.hand may made;
        next_id = makes.next_id ∙ dite by (λ z. let d = r.desk id v at live z in ap (λ (b : Book). next_id_then b (Some e) (told u).next_id) d.book)
            (λ z. next_worker v.desk.book c.book e (told u).next_id (makes.who z));
        who = makes.who;
        cycle = cycle_then c a k (place_of c k) makes.part makes.new_part v.own.hand h' e here made;
        early = λ z n le. early_then c k (place_of c k) makes.part makes.new_part v.own.hand h' e n here made (makes.early z) le;
      }

  module _ (turns : Option Event → C → C → Type 0) where
    -- one allowed event
    pub assembles_event : EventsKeep told backs turns → (units : List C) (actors : ℕ) (views : List (Known C)) (id k : ℕ) (v : Known C) (u u' : C) (h' : Hand) (e : Event)
        → Assembles told backs units actors views → get_elem? views id ≡ some v → v.live ≡ true → v.channels + 1 ≡ length units → get_elem? units k ≡ some u
        → Makes v k (told u) (told u') h' e → turns (Some e) u u'
        → ((j : ℕ) (d : Known C) → j ≢ id → get_elem? views j ≡ some d → d.live ≡ true → d.own.actor ≢ v.own.actor)
        → ((j : ℕ) (d : Known C) → get_elem? views j ≡ some d → d.live ≡ true → (i : ℕ) (o : Own) → get_elem? d.joined i ≡ some o → o.actor ≢ v.own.actor)
        → Assembles told backs (set units k u') actors (set views id (gave v k (told u) (told u') h' (Some e)))
    assembles_event keep units actors views id k v u u' h' e r at live many there makes turned alone apart =
        let m = moves units actors views r id k v u u' h' e at live many there makes in let a : ℕ = v.own.actor in let c : Core = r.core in
        let s : Step = record { actor = a; shard = k; event = e } in let q : Part = m.new_part in let c' : Core = changed c a k q h' e in
        let w : Known C = gave v k (told u) (told u') h' (Some e) in let mine = r.seats id v at live in let now : part_at c' k ≡ Some q = part_here c a k e h' m.part q m.here m.kind in
        record {
          core = c';
          start = r.start;
          log = r.log ++ s ∷ [];
          good = good_step c s c' r.good m.goes;
          runs = run_then (Some r.start) r.log s c c' r.runs m.goes;
          count = length-set units k u' ∙ (r.count ∙ ap (λ (n : ℕ). n + 1) (sym (length_channels c a k e h' q)));
          hands = length-set c.hands a h' ∙ r.hands;
          shards = λ j x f. set_cases units k j u' x (λ i y. (told y).part ≡ part_at c' i) (m.is ∙ sym now)
              (λ i y n g. r.shards i y g ∙ sym (part_else c a k e h' m.part q i m.here m.kind n)) f;
          seats = λ j d f. set_cases views id j w d (λ i y. y.live ≡ true → Stands c' (r.log ++ s ∷ []) y.own) (λ _. stands_own c r.log v.own k q h' e mine)
              (λ i y n g l. stands_other c r.log a k q h' e y.own (alone i y n g l) (r.seats i y g l)) f;
          joined = λ j d f. set_cases views id j w d (λ i y. y.live ≡ true → (p : ℕ) (o : Own) → get_elem? y.joined p ≡ some o → Stands c' (r.log ++ s ∷ []) o)
              (λ _ p o g. stands_other c r.log a k q h' e o (apart id v at live p o g) (r.joined id v at live p o g))
              (λ i y n g l p o z. stands_other c r.log a k q h' e o (apart i y g l p o z) (r.joined i y g l p o z)) f;
          desk = λ j d f. set_cases views id j w d (λ i y. y.live ≡ true → y.own.actor ≡ 0 → DeskFits r.start c' y.desk)
              (λ _ z. let d = r.desk id v at live z in record {
                start = d.start;
                book = ap (λ (b : Book). book_after b e) d.book;
                settled = λ n there. settled_then v.desk.since (book_after v.desk.book e) q e c c' s refl m.goes r.good (good_step c s c' r.good m.goes)
                    (ap (λ (b : Book). book_after b e) (sym d.book)) (shown c a k q h' e) d.settled n
                    (ap (λ (p : Option Part). since_then v.desk.since (book_after v.desk.book e) p (Some e)) (sym m.is) ∙ there);
                pins = ap (λ (p : Option Part). pins_with v.desk.pins k p) m.is ∙ (ap (λ (ps : List (List ℕ)). pins_then ps k q) d.pins ∙ sym (pins_changed c a k e h' q));
                cycles = bound_moves c'.monitor.cycle c.monitor.cycle (begins (Some e)) v.desk.begun m.cycle d.cycles;
              })
              (λ i y n g l z. let d = r.desk i y g l z in let w = m.who (λ p. alone i y n g l (z ∙ sym p)) in record {
                start = d.start;
                book = d.book ∙ sym (book_worker c.book e w);
                pins = d.pins ∙ sym (pins_worker c s c' w m.goes);
                settled = λ n there. settled_step n c s c' (worker_quiet e w) r.good (d.settled n there) m.goes;
                cycles = bound_stays c'.monitor.cycle c.monitor.cycle (begins (Some e)) y.desk.begun m.cycle (m.early (λ p. alone i y n g l (z ∙ sym p)) y.desk.begun d.cycles);
              }) f;
          backed = keep c c' s units u u' r.good m.goes r.backed (got_at units k u there) (r.shards k u there) (m.is ∙ sym now) m.next_id turned;
        }

    pub steps : (units : List C) (actors : ℕ) (views : List (Known C)) (id k : ℕ) (v : Known C) (u u' : C) (h' : Hand) (e : Event)
        → Assembles told backs units actors views → get_elem? views id ≡ some v → v.live ≡ true → v.channels + 1 ≡ length units → get_elem? units k ≡ some u
        → Makes v k (told u) (told u') h' e → Steps v k (told u) (told u') h' e
    steps units actors views id k v u u' h' e r at live many there makes =
        let m = moves units actors views r id k v u u' h' e at live many there makes in let a : ℕ = v.own.actor in let c : Core = r.core in
        let s : Step = record { actor = a; shard = k; event = e } in let q : Part = m.new_part in let c' : Core = changed c a k q h' e in let mine = r.seats id v at live in
        record {
          before = c;
          after = c';
          good = r.good;
          still_good = good_step c s c' r.good m.goes;
          step = m.goes;
          shard = r.shards k u there;
          hand = mine.hand;
          new_shard = m.is ∙ sym (part_here c a k e h' m.part q m.here m.kind);
          new_hand = get_set_here c.hands a v.own.hand h' mine.hand;
        }

    -- no event
    pub assembles_rest : RestsKeep told backs turns → (units : List C) (actors : ℕ) (views : List (Known C)) (id k : ℕ) (v : Known C) (u u' : C) (h' : Hand)
        → Assembles told backs units actors views → get_elem? views id ≡ some v → v.live ≡ true → get_elem? units k ≡ some u
        → Rests v k (told u) (told u') h' → turns None u u' → Assembles told backs (set units k u') actors (set views id (gave v k (told u) (told u') h' None))
    assembles_rest keep units actors views id k v u u' h' r at live there rests turned = let w : Known C = gave v k (told u) (told u') h' None in let mine = r.seats id v at live in record {
      core = r.core;
      start = r.start;
      log = r.log;
      good = r.good;
      runs = r.runs;
      count = length-set units k u' ∙ r.count;
      hands = r.hands;
      shards = λ j x f. set_cases units k j u' x (λ i y. (told y).part ≡ part_at r.core i) (rests.part ∙ r.shards k u there) (λ i y n g. r.shards i y g) f;
      seats = λ j d f. set_cases views id j w d (λ i y. y.live ≡ true → Stands r.core r.log y.own)
          (λ _. record { hand = mine.hand ∙ ap (λ (z : Hand). Some z) (sym rests.hand); mine = mine.mine }) (λ i y n g l. r.seats i y g l) f;
      joined = λ j d f. set_cases views id j w d (λ i y. y.live ≡ true → (p : ℕ) (o : Own) → get_elem? y.joined p ≡ some o → Stands r.core r.log o)
          (λ _. r.joined id v at live) (λ i y n g l. r.joined i y g l) f;
      desk = λ j d f. set_cases views id j w d (λ i y. y.live ≡ true → y.own.actor ≡ 0 → DeskFits r.start r.core y.desk)
          (λ _ z. let d = r.desk id v at live z in record { start = d.start; book = d.book; pins = d.pins; settled = d.settled; cycles = bound_rests r.core.monitor.cycle v.desk.begun d.cycles }) (λ i y n g l. r.desk i y g l) f;
      backed = keep r.core units k u u' r.good r.backed (got_at units k u there) (r.shards k u there) rests.part rests.next_id turned;
    }

  -- a view that changes in what is not the core's
  pub assembles_view : (units : List C) (actors : ℕ) (views : List (Known C)) (id : ℕ) (v w : Known C) → Assembles told backs units actors views → get_elem? views id ≡ some v → v.live ≡ true
      → w.own ≡ v.own → w.joined ≡ v.joined → w.desk ≡ v.desk → Assembles told backs units actors (set views id w)
  assembles_view units actors views id v w r at live own joined desk = record {
    core = r.core;
    start = r.start;
    log = r.log;
    good = r.good;
    runs = r.runs;
    count = r.count;
    hands = r.hands;
    shards = r.shards;
    seats = λ j d f. set_cases views id j w d (λ i y. y.live ≡ true → Stands r.core r.log y.own) (λ _. subst (Stands r.core r.log) (sym own) (r.seats id v at live)) (λ i y n g l. r.seats i y g l) f;
    joined = λ j d f. set_cases views id j w d (λ i y. y.live ≡ true → (p : ℕ) (o : Own) → get_elem? y.joined p ≡ some o → Stands r.core r.log o)
        (λ _. subst (λ (os : List Own). (p : ℕ) (o : Own) → get_elem? os p ≡ some o → Stands r.core r.log o) (sym joined) (r.joined id v at live)) (λ i y n g l. r.joined i y g l) f;
    desk = λ j d f. set_cases views id j w d (λ i y. y.live ≡ true → y.own.actor ≡ 0 → DeskFits r.start r.core y.desk)
        (λ _ z. subst (DeskFits r.start r.core) (sym desk) (r.desk id v at live (ap (λ (o : Own). o.actor) (sym own) ∙ z))) (λ i y n g l. r.desk i y g l) f;
    backed = r.backed;
  }
