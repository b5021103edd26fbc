-- A step changes one shard and one hand, and an allowed one can be read off.
use Rattle.std.proofs.Common.{◌≡◌, ◌≢◌, ℕ, zero, suc, Bool, true, false, cond, List, [], ◌∷◌, length, length-set, set, Option, Some, None, refl, sym, ap, ◌∙◌, subst}
use Rattle.std.specs.Prelude.{nat_eq, slice_get}
use Rattle.std.proofs.lemmas.Bool.{eq-eqb, eqb-true}
use Rattle.std.proofs.lemmas.List.{map-set}
use Rattle.core_steps.specs.Core.{Core, CoreChannel, CoreMonitor, Hand, held, pins_of}
use Rattle.core_steps.specs.Events.{Event, Step}
use Rattle.core_steps.specs.Rows.{Channel, Monitor, Part, Place, SameKind, as_channel, as_monitor, channel_step, monitor_step, part_step}
use Rattle.core_steps.specs.Steps.{StepMade, book_after, changed, finish, part_at, part_of, permits, pins_then, place_of, step, step_of}

-- LISTS BY NUMBER

module _ {A : Type 0} where
  pub get_set_here : (l : List A) (k : ℕ) (x y : A) → slice_get l k ≡ Some x → slice_get (set l k y) k ≡ Some y
  get_set_here [] k x y e = cc
  get_set_here (z ∷ l) zero x y e = refl
  get_set_here (z ∷ l) (suc k) x y e = get_set_here l k x y e

  pub get_set_else : (l : List A) (k j : ℕ) (y : A) → j ≢ k → slice_get (set l k y) j ≡ slice_get l j
  get_set_else [] k j y n = refl
  get_set_else (z ∷ l) zero zero y n = absurd (n refl)
  get_set_else (z ∷ l) zero (suc j) y n = refl
  get_set_else (z ∷ l) (suc k) zero y n = refl
  get_set_else (z ∷ l) (suc k) (suc j) y n = get_set_else l k j y (λ e. n (ap suc e))

  pub set_same : (l : List A) (k : ℕ) (x : A) → slice_get l k ≡ Some x → set l k x ≡ l
  set_same [] k x e = cc
  set_same (z ∷ l) zero x e = let t : z ≡ x = cc in ap (λ (w : A). w ∷ l) (sym t)
  set_same (z ∷ l) (suc k) x e = ap (λ (m : List A). z ∷ m) (set_same l k x e)

-- A SHARD KEEPS ITS KIND

pub kind_stays : (p : Place) (q q' : Part) (h h' : Hand) (e : Event) → part_step p q h e ≡ Some (q', h') → SameKind q q'
kind_stays p (Channel x) q' h h' e = by (channel_step p x h e)
  where
    by : (o : Option (CoreChannel × Hand)) → as_channel o ≡ Some (q', h') → SameKind (Channel x) q'
    by None m = cc
    by (Some r) m = let t : (Channel r.0, r.1) ≡ (q', h') = cc in subst (SameKind (Channel x)) (ap (λ (z : Part × Hand). z.0) t) tt
kind_stays p (Monitor x) q' h h' e = by (monitor_step x h e)
  where
    by : (o : Option (CoreMonitor × Hand)) → as_monitor o ≡ Some (q', h') → SameKind (Monitor x) q'
    by None m = cc
    by (Some r) m = let t : (Monitor r.0, r.1) ≡ (q', h') = cc in subst (SameKind (Monitor x)) (ap (λ (z : Part × Hand). z.0) t) tt

-- SHARDS AFTER A CHANGE

-- a shard is a channel that stands there, or the monitor behind the last
pub channel_there : (c : Core) (k : ℕ) (x : CoreChannel) → part_at c k ≡ Some (Channel x) → slice_get c.channels k ≡ Some x
channel_there c k x = by (slice_get c.channels k) (nat_eq k (length c.channels))
  where
    by : (o : Option CoreChannel) (b : Bool) → part_of o b c.monitor ≡ Some (Channel x) → o ≡ Some x
    by (Some y) b e = let t : Channel y ≡ Channel x = cc in let u : y ≡ x = cc in ap (λ (z : CoreChannel). Some z) u
    by None true e = cc
    by None false e = cc

monitor_there : (c : Core) (k : ℕ) (m : CoreMonitor) → part_at c k ≡ Some (Monitor m) → (slice_get c.channels k ≡ None) × (k ≡ length c.channels)
monitor_there c k m = by (slice_get c.channels k) (nat_eq k (length c.channels)) refl
  where
    by : (o : Option CoreChannel) (b : Bool) → nat_eq k (length c.channels) ≡ b → part_of o b c.monitor ≡ Some (Monitor m)
        → (o ≡ None) × (k ≡ length c.channels)
    by (Some y) b is e = cc
    by None true is e = (refl, eqb-true k (length c.channels) is)
    by None false is e = cc

module _ (c : Core) (a k : ℕ) (e : Event) (h' : Hand) where
  pub length_channels : (q' : Part) → length (changed c a k q' h' e).channels ≡ length c.channels
  length_channels (Channel y) = length-set c.channels k y
  length_channels (Monitor y) = refl

  pub part_here : (q q' : Part) → part_at c k ≡ Some q → SameKind q q' → part_at (changed c a k q' h' e) k ≡ Some q'
  part_here (Channel x) (Channel y) here kind = ap (λ (o : Option CoreChannel). part_of o (nat_eq k (length (set c.channels k y))) c.monitor)
      (get_set_here c.channels k x y (channel_there c k x here))
  part_here (Monitor x) (Monitor y) here kind = let t = monitor_there c k x here in
      ap (λ (o : Option CoreChannel). part_of o (nat_eq k (length c.channels)) y) t.0 ∙ ap (λ (b : Bool). part_of None b y) (eq-eqb k (length c.channels) t.1)
  part_here (Channel x) (Monitor y) here kind = absurd kind
  part_here (Monitor x) (Channel y) here kind = absurd kind

  pub part_else : (q q' : Part) (j : ℕ) → part_at c k ≡ Some q → SameKind q q' → j ≢ k → part_at (changed c a k q' h' e) j ≡ part_at c j
  part_else q (Channel y) j here kind n = ap (λ (o : Option CoreChannel). part_of o (nat_eq j (length (set c.channels k y))) c.monitor)
      (get_set_else c.channels k j y n)
      ∙ ap (λ (z : ℕ). part_of (slice_get c.channels j) (nat_eq j z) c.monitor) (length-set c.channels k y)
  part_else (Monitor x) (Monitor y) j here kind n = let t = monitor_there c k x here in by (slice_get c.channels j) (nat_eq j (length c.channels)) refl
    where
      by : (o : Option CoreChannel) (b : Bool) → nat_eq j (length c.channels) ≡ b → part_of o b y ≡ part_of o b c.monitor
      by (Some z) b is = refl
      by None true is = let t = monitor_there c k x here in absurd (n (eqb-true j (length c.channels) is ∙ sym t.1))
      by None false is = refl
  part_else (Channel x) (Monitor y) j here kind n = absurd kind

  pub pins_changed : (q' : Part) → pins_of (changed c a k q' h' e).channels ≡ pins_then (pins_of c.channels) k q'
  pins_changed (Channel y) = map-set (λ (x : CoreChannel). x.pins) c.channels k y
  pins_changed (Monitor y) = refl

-- THE STEP THAT A SHARD AND A HAND MAKE

pub step_is : (c : Core) (a k : ℕ) (e : Event) (q q' : Part) (h h' : Hand) → part_at c k ≡ Some q → slice_get c.hands a ≡ Some h
    → permits c.book (held c.channels) a e ≡ true
    → part_step (place_of c k) q h e ≡ Some (q', h') → step c record { actor = a; shard = k; event = e } ≡ Some (changed c a k q' h' e)
step_is c a k e q q' h h' here mine may made = let s : Step = record { actor = a; shard = k; event = e } in
    ap (λ (o : Option Part). step_of c s o (slice_get c.hands a)) here ∙ (ap (λ (o : Option Hand). step_of c s (Some q) o) mine
    ∙ (ap (λ (b : Bool). cond b (finish c s (part_step (place_of c k) q h e)) None) may ∙ ap (finish c s) made))

pub step_made : (c : Core) (s : Step) (d : Core) → step c s ≡ Some d → StepMade c s d
step_made c s d = by (part_at c s.shard) refl (slice_get c.hands s.actor) refl
  where
    at_end : (o : Option (Part × Hand)) (q : Part) (h : Hand) → part_at c s.shard ≡ Some q → slice_get c.hands s.actor ≡ Some h
        → permits c.book (held c.channels) s.actor s.event ≡ true
        → part_step (place_of c s.shard) q h s.event ≡ o → finish c s o ≡ Some d → StepMade c s d
    at_end None q h here mine may made e = cc
    at_end (Some r) q h here mine may made e = let same : changed c s.actor s.shard r.0 r.1 s.event ≡ d = cc in
        let kind = kind_stays (place_of c s.shard) q r.0 h r.1 s.event made in record {
          part = q;
          hand = h;
          here = here;
          mine = mine;
          may = may;
          part' = r.0;
          hand' = r.1;
          made = made;
          gives = same;
          kind = kind;
          here' = ap (λ (z : Core). part_at z s.shard) (sym same) ∙ part_here c s.actor s.shard s.event r.1 q r.0 here kind;
          mine' = ap (λ (z : Core). slice_get z.hands s.actor) (sym same) ∙ get_set_here c.hands s.actor h r.1 mine;
        }

    allowed : (b : Bool) (q : Part) (h : Hand) → part_at c s.shard ≡ Some q → slice_get c.hands s.actor ≡ Some h
        → permits c.book (held c.channels) s.actor s.event ≡ b
        → cond b (finish c s (part_step (place_of c s.shard) q h s.event)) None ≡ Some d → StepMade c s d
    allowed true q h here mine may e = at_end (part_step (place_of c s.shard) q h s.event) q h here mine may refl e
    allowed false q h here mine may e = cc

    by : (q : Option Part) → part_at c s.shard ≡ q → (h : Option Hand) → slice_get c.hands s.actor ≡ h → step_of c s q h ≡ Some d → StepMade c s d
    by (Some q) here (Some h) mine e = allowed (permits c.book (held c.channels) s.actor s.event) q h here mine refl e
    by (Some q) here None mine e = cc
    by None here h mine e = cc

-- what a step leaves as it was
pub other_shards : (c : Core) (s : Step) (d : Core) → step c s ≡ Some d → (k : ℕ) → k ≢ s.shard → part_at d k ≡ part_at c k
other_shards c s d e k n = let w = step_made c s d e in
    ap (λ (z : Core). part_at z k) (sym w.gives) ∙ part_else c s.actor s.shard s.event w.hand' w.part w.part' k w.here w.kind n

pub other_hands : (c : Core) (s : Step) (d : Core) → step c s ≡ Some d → (a : ℕ) → a ≢ s.actor → slice_get d.hands a ≡ slice_get c.hands a
other_hands c s d e a n = let w = step_made c s d e in ap (λ (z : Core). slice_get z.hands a) (sym w.gives) ∙ get_set_else c.hands s.actor a w.hand' n

pub step_lengths : (c : Core) (s : Step) (d : Core) → step c s ≡ Some d → (length d.channels ≡ length c.channels) × (length d.hands ≡ length c.hands)
step_lengths c s d e = let w = step_made c s d e in (
  ap (λ (z : Core). length z.channels) (sym w.gives) ∙ length_channels c s.actor s.shard s.event w.hand' w.part',
  ap (λ (z : Core). length z.hands) (sym w.gives) ∙ length-set c.hands s.actor w.hand',
)

pub step_book : (c : Core) (s : Step) (d : Core) → step c s ≡ Some d → d.book ≡ book_after c.book s.event
step_book c s d e = ap (λ (z : Core). z.book) (sym (step_made c s d e).gives)

pub step_pins : (c : Core) (s : Step) (d : Core) (e : step c s ≡ Some d)
    → pins_of d.channels ≡ pins_then (pins_of c.channels) s.shard (step_made c s d e).part'
step_pins c s d e = let w = step_made c s d e in ap (λ (z : Core). pins_of z.channels) (sym w.gives) ∙ pins_changed c s.actor s.shard s.event w.hand' w.part'
