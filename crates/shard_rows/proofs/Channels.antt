-- What events make of a channel without an id, and when none is due.
use Rattle.std.proofs.Common.{◌≡◌, ℕ, ◌+◌, ◌-◌, ◌≤◌, ◌<◌, Bool, true, false, cond, not, ◌&&◌, List, [], ◌∷◌, length, Option, Some, None, refl, sym, ap, ◌∙◌, subst, arith}
use Rattle.std.specs.Prelude.{nat_eq, nat_le, nat_lt, is_some}
use Rattle.std.proofs.lemmas.Bool.{eqb-true, eq-eqb, le-leb, lt-ltb}
use Rattle.graph_model.specs.Ids.{add, has}
use Rattle.graph_model.specs.declared.entity.Record.{Record}
use Rattle.core_steps.specs.declared.event.Event.{Event}
use Rattle.core_steps.specs.declared.event.Event.TheVariants.{Reserve, Return, BeginCycle, BeginMark, MarkSome, Deliver, ReportBegun, CloseCycle, SweepSome, ReportSwept, StoreBegin, StorePart, StoreEnd, Confirm, Pin, Unpin, Tidy}
use Rattle.core_steps.specs.declared.state.CoreChannel.{CoreChannel}
use Rattle.core_steps.specs.declared.state.OpenStore.{OpenStore}
use Rattle.core_steps.specs.declared.state.Phase.TheVariants.{Idle, Marking}
use Rattle.core_steps.specs.declared.state.Place.{Place}
use Rattle.core_steps.specs.Core.{Hand, written_of}
use Rattle.core_steps.specs.Rows as core
use Rattle.core_steps.specs.Rows.{Part, as_channel, begin_mark, channel_step, given, if_marking, part_given, part_marked, part_taken, store_part, sweep_some}
use Rattle.core_hands.specs.OpenStores.{channels_of, number_of, with_part}
use Rattle.shards.specs.Due.{IsDue}
use Rattle.shard_rows.specs.declared.units.EmptyChannel.{EmptyChannel}
use Rattle.shard_rows.specs.declared.units.Stage.{Stage}
use Rattle.shard_rows.specs.declared.units.Stage.TheVariants as stage
use Rattle.shard_rows.specs.Units.{core_of, is_idle, is_next, phase_of}

zero_le : (n : ℕ) → nat_le 0 n ≡ true
zero_le n = le-leb 0 n (omega arith)

minus_none : (n : ℕ) → n - 0 ≡ n
minus_none n = omega arith

minus_same : (n m : ℕ) → n - (m - m) ≡ n
minus_same n m = omega arith

-- WHAT IS MADE

pub begins_marking : (n : ℕ) (c : EmptyChannel) (h h' : Hand) → is_next c.stage h ≡ true → h' ≡ record h { begun_reports = add n h.begun_reports }
    → (p : Place) → p.number ≡ n → channel_step p (core_of c) h BeginMark ≡ Some (core_of (record c { stage = stage.Marking h.cycle_seen }), h')
begins_marking n c h h' next is p at = by c.stage next ∙ (λ i. Some (core_of (record c { stage = stage.Marking h.cycle_seen }), record h { begun_reports = add (at i) h.begun_reports }))
    ∙ (λ i. Some (core_of (record c { stage = stage.Marking h.cycle_seen }), sym is i))
  where
    by : (s : Stage) → is_next s h ≡ true → begin_mark p (phase_of s) (core_of c) h ≡ Some (core_of (record c { stage = stage.Marking h.cycle_seen }), record h { begun_reports = add p.number h.begun_reports })
    by (stage.Idle b) e = let seen : b + 1 ≡ h.cycle_seen = sym (eqb-true h.cycle_seen (b + 1) e) in
        λ i. given (e i && zero_le h.credit i) (record (core_of c) { phase = Marking (seen i) }, record h { credit = minus_none h.credit i; begun_reports = add p.number h.begun_reports })
    by (stage.Marking b) e = cc

pub sweeps_none : (n b : ℕ) (c : EmptyChannel) (h h' : Hand) → c.stage ≡ stage.Marking b → h.closed_seen ≡ true → h.cycle_seen ≡ b → h' ≡ record h { swept_reports = add n h.swept_reports }
    → (p : Place) → p.number ≡ n → channel_step p (core_of c) h (SweepSome []) ≡ Some (core_of (record c { stage = stage.Idle b }), h')
sweeps_none n b c h h' marks closed seen is p at = (λ i. sweep_some p (phase_of (marks i)) [] (core_of c) h)
    ∙ (λ i. given (closed i && eq-eqb h.cycle_seen b seen i) (core_of (record c { stage = stage.Idle b }), record h { swept_reports = add (at i) h.swept_reports }))
    ∙ (λ i. Some (core_of (record c { stage = stage.Idle b }), sym is i))

pub marks_none : (b : ℕ) (c : EmptyChannel) (h : Hand) (p : Place) → c.stage ≡ stage.Marking b → channel_step p (core_of c) h (MarkSome []) ≡ Some (core_of c, h)
marks_none b c h p marks = λ i. if_marking (phase_of (marks i)) (Some (core_of c, h))

pub tidies_none : (c : EmptyChannel) (h : Hand) (p : Place) → c.confirmed ≡ c.last_part → channel_step p (core_of c) h Tidy ≡ Some (core_of c, h)
tidies_none c h p same = λ i. given (eq-eqb c.confirmed c.last_part same i) (core_of c, h)

pub confirms_part : (c : EmptyChannel) (h : Hand) (p : Place) → c.last_part ≤ h.ended_seen → channel_step p (core_of c) h Confirm ≡ Some (core_of (record c { confirmed = c.last_part }), h)
confirms_part c h p ended = λ i. given (le-leb c.last_part h.ended_seen ended i) (core_of (record c { confirmed = c.last_part }), h)

-- a part without a record marks nothing
part_none : (s : Stage) (x : CoreChannel) (h : Hand) → part_marked [] (phase_of s) (x, h) ≡ (x, h)
part_none (stage.Idle b) x h = refl
part_none (stage.Marking b) x h = by (h.closed_seen && nat_eq h.cycle_seen b)
  where
    by : (t : Bool) → cond t (core.marked_all [] (x, h)) (core.greyed_all [] (x, h)) ≡ (x, h)
    by true = refl
    by false = λ i. (x, record h { credit = minus_same h.credit (length x.grey) i })

takes_none : (n m : ℕ) (c : EmptyChannel) (h : Hand) (o : OpenStore) → has n o.channels ≡ true → has n o.written ≡ false → c.last_part < o.number → c.confirmed ≡ c.last_part
    → store_part (record { number = n; channels = m; records = [] }) (Some o) (core_of c) h ≡ Some (core_of (record c { last_part = o.number }), record h { opened = with_part n (Some o) })
takes_none n m c h o in_store not_yet older confirmed = let p : Place = record { number = n; channels = m; records = [] } in let lt = lt-ltb c.last_part o.number older in let eq = eq-eqb c.confirmed c.last_part confirmed in
    (λ i. given ((in_store i && not (not_yet i)) && (lt i && (eq i && zero_le h.credit i))) (part_marked [] (phase_of c.stage) (part_taken p o.number (core_of c), part_given p o h)))
    ∙ ap (λ (r : CoreChannel × Hand). Some r) (part_none c.stage (part_taken p o.number (core_of c)) (part_given p o h))

pub takes_plain : (n store : ℕ) (c : EmptyChannel) (h h' : Hand) → number_of h.opened ≡ Some store → has n (channels_of h.opened) ≡ true → has n (written_of h.opened) ≡ false
    → c.last_part < store → c.confirmed ≡ c.last_part → h' ≡ record h { opened = with_part n h.opened }
    → (p : Place) → p.number ≡ n → p.records ≡ [] → channel_step p (core_of c) h StorePart ≡ Some (core_of (record c { last_part = store }), h')
takes_plain n store c h h' is in_store not_yet older confirmed made p at none =
    (λ i. store_part (record { number = at i; channels = p.channels; records = none i }) h.opened (core_of c) h) ∙ by h.opened is in_store not_yet
    ∙ (λ i. Some (core_of (record c { last_part = store }), sym made i))
  where
    by : (x : Option OpenStore) → number_of x ≡ Some store → has n (channels_of x) ≡ true → has n (written_of x) ≡ false
        → store_part (record { number = n; channels = p.channels; records = [] }) x (core_of c) h ≡ Some (core_of (record c { last_part = store }), record h { opened = with_part n x })
    by None i a b = cc
    by (Some o) i a b = let s : o.number ≡ store = cc in takes_none n p.channels c h o a b (subst (λ (z : ℕ). c.last_part < z) (sym s) older) confirmed
        ∙ (λ j. Some (core_of (record c { last_part = s j }), record h { opened = with_part n (Some o) }))

-- WHAT IS NOT DUE

given_none : {A : Type 0} (b : Bool) (x : A) → b ≡ false → given b x ≡ None
given_none b x e = ap (λ (t : Bool). given t x) e

not_some : (o : Option (CoreChannel × Hand)) → o ≡ None → is_some (as_channel o) ≡ true → ⊥
not_some o e t = let bad : false ≡ true = subst (λ (x : Option (CoreChannel × Hand)). is_some (as_channel x) ≡ true) e t in cc

idle_due : (p : Place) (b last confirmed : ℕ) (h : Hand) → nat_eq h.cycle_seen (b + 1) ≡ false → (e : Event)
    → IsDue p (core.Channel (record { table = []; marked = []; grey = []; pins = []; phase = Idle b; last_part = last; confirmed = confirmed })) h e → ⊥
idle_due p b last confirmed h next BeginMark d = not_some _ (given_none (nat_eq h.cycle_seen (b + 1) && nat_le 0 h.credit) _ (ap (λ (t : Bool). t && nat_le 0 h.credit) next)) d.1
idle_due p b last confirmed h next (Deliver xs) d = let bad : false ≡ true = d.1 in cc
idle_due p b last confirmed h next (SweepSome xs) d = let bad : false ≡ true = d.1 in cc
idle_due p b last confirmed h next (MarkSome xs) d = let bad : false ≡ true = d.1 in cc
idle_due p b last confirmed h next (Reserve n) d = d.0
idle_due p b last confirmed h next (Return n) d = d.0
idle_due p b last confirmed h next BeginCycle d = d.0
idle_due p b last confirmed h next (ReportBegun j) d = d.0
idle_due p b last confirmed h next CloseCycle d = d.0
idle_due p b last confirmed h next (ReportSwept j) d = d.0
idle_due p b last confirmed h next (StoreBegin op) d = d.0
idle_due p b last confirmed h next StorePart d = d.0
idle_due p b last confirmed h next StoreEnd d = d.0
idle_due p b last confirmed h next Confirm d = d.0
idle_due p b last confirmed h next (Pin x) d = d.0
idle_due p b last confirmed h next (Unpin x) d = d.0
idle_due p b last confirmed h next Tidy d = d.0

-- nothing is due on an idle channel whose next cycle the hand did not see
pub none_due : (p : Place) (c : EmptyChannel) (h : Hand) → is_next c.stage h ≡ false → is_idle c.stage ≡ true → (q : Part) (e : Event) → Some (core.Channel (core_of c)) ≡ Some q → IsDue p q h e → ⊥
none_due p c h next idle q e is d = let same : core.Channel (core_of c) ≡ q = cc in by c.stage next idle (subst (λ (r : Part). IsDue p r h e) (sym same) d)
  where
    by : (s : Stage) → is_next s h ≡ false → is_idle s ≡ true
        → IsDue p (core.Channel (record { table = []; marked = []; grey = []; pins = []; phase = phase_of s; last_part = c.last_part; confirmed = c.confirmed })) h e → ⊥
    by (stage.Idle b) n i d = idle_due p b c.last_part c.confirmed h n e d
    by (stage.Marking b) n i d = cc
