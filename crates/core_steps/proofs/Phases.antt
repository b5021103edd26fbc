-- Phases, flags and reports stay true, with one flag or report for each channel.
use Rattle.std.proofs.Common.{◌≡◌, ◌⊎◌, ℕ, zero, suc, ◌+◌, ◌≤◌, ◌<◌, Bool, true, false, cond, ◌||◌, ◌&&◌, List, [], ◌∷◌, length, set, length-set, refl, sym, ap, ◌∙◌, subst, arith, ⊎_elim, inl, inr}
use Rattle.std.specs.Prelude.{nat_eq, nat_lt}
use Rattle.std.proofs.lemmas.Bool.{eqb-true, cases_eq, ne_eqb, eq-eqb, and_parts, or_cases, false_from_ne_true}
use Rattle.std.proofs.lemmas.List.{get_or-set_same, get_or-set_other, length-map}
use Rattle.graph_model.specs.Graph.{ids}
use Rattle.graph_model.specs.Ids.{add, has, insert, remove}
use Rattle.graph_model.proofs.IdSets.{had_before, has_add}
use Rattle.core_steps.specs.Core.{Book, Core, CoreChannel, CoreMonitor, Hand, Idle, Marking, Phase, Sweeping, channel_at, cycle_of, hand_at, new_hand, no_channel}
use Rattle.core_steps.specs.Events.{Event}
use Rattle.core_steps.specs.Good.{AllSawRight, PhaseFits, PhasesFit, copies, flag, one_if, report_copies, begun_of, swept_of}
use Rattle.core_steps.specs.Rows.{Channel, Monitor, Place, all_clear, all_set, part_marked, part_taken, swept_to, visit, part_given, marked_all, greyed_all}
use Rattle.core_steps.specs.Steps.{book_after, changed, place_of}
use Rattle.core_steps.proofs.Glue.{ChannelEvent, MonitorEvent}
use Rattle.core_steps.proofs.Lists.{both_set, each_set}
use Rattle.core_steps.proofs.Marked.{deliver_only, mark_only}
use Rattle.core_steps.proofs.Moves.{ChannelMove, MonitorMove, SweepFrom, begins, begins_cycle, begins_store, channel_move, closes, confirms, delivers, ends_store, first, marks, monitor_move, next, pins, pins_white, reports_begun, reports_swept, reserves, returns, sweeps, takes, tidies, unpins}

-- COPIES

copies_none : (j : ℕ) (xs : List ℕ) → has j xs ≡ false → copies j xs ≡ 0
copies_none j [] e = refl
copies_none j (x ∷ xs) e =
    (elim (nat_eq j x) as (λ b. (b || has j xs) ≡ false → cond b (1 + copies j xs) (copies j xs) ≡ 0) [ true ↦ λ e. cc | false ↦ λ e. copies_none j xs e ]) e

copies_some : (j : ℕ) (xs : List ℕ) → has j xs ≡ true → 1 ≤ copies j xs
copies_some j [] e = cc
copies_some j (x ∷ xs) e =
    (elim (nat_eq j x) as (λ b. (b || has j xs) ≡ true → 1 ≤ cond b (1 + copies j xs)
    (copies j xs)) [ true ↦ λ e. omega arith | false ↦ λ e. copies_some j xs e ]) e

copies_insert : (j x : ℕ) (xs : List ℕ) → copies j (insert x xs) ≡ one_if (nat_eq j x) + copies j xs
copies_insert j x [] = elim (nat_eq j x) as (λ b. cond b (1 + 0) 0 ≡ one_if b + 0) [ true ↦ refl | false ↦ refl ]
copies_insert j x (y ∷ ys) = elim (nat_lt y x) as (λ b. copies j (cond b (y ∷ insert x ys) (x ∷ y ∷ ys)) ≡ one_if (nat_eq j x) + cond (nat_eq j y)
    (1 + copies j ys) (copies j ys)) [
      | true ↦ let h = copies_insert j x ys in
          elim (nat_eq j y) as (λ b. cond b (1 + copies j (insert x ys)) (copies j (insert x ys)) ≡ one_if (nat_eq j x) + cond b (1 + copies j ys)
          (copies j ys)) [ true ↦ omega arith | false ↦ omega arith ]
      | false ↦ elim (nat_eq j x) as (λ b. cond b (1 + cond (nat_eq j y) (1 + copies j ys) (copies j ys))
          (cond (nat_eq j y) (1 + copies j ys) (copies j ys)) ≡ one_if b + cond (nat_eq j y) (1 + copies j ys)
          (copies j ys)) [ true ↦ omega arith | false ↦ omega arith ]
    ]

copies_add : (j x : ℕ) (xs : List ℕ) → has x xs ≡ false → copies j (add x xs) ≡ one_if (nat_eq j x) + copies j xs
copies_add j x xs n = ap (λ (b : Bool). copies j (cond b xs (insert x xs))) n ∙ copies_insert j x xs

copies_remove : (j x : ℕ) (xs : List ℕ) → has x xs ≡ true → copies j (remove x xs) + one_if (nat_eq j x) ≡ copies j xs
copies_remove j x [] e = cc
copies_remove j x (y ∷ ys) e =
    (elim (nat_eq x y) as (λ b. nat_eq x y ≡ b → (b || has x ys) ≡ true
    → copies j (cond b ys (y ∷ remove x ys)) + one_if (nat_eq j x) ≡ cond (nat_eq j y) (1 + copies j ys) (copies j ys)) [
      | true ↦ λ s e. let same : x ≡ y = eqb-true x y s in
          subst (λ (z : ℕ). copies j ys + one_if (nat_eq j x) ≡ cond (nat_eq j z) (1 + copies j ys) (copies j ys)) same
          (elim (nat_eq j x) as (λ b. copies j ys + one_if b ≡ cond b (1 + copies j ys) (copies j ys)) [ true ↦ omega arith | false ↦ omega arith ])
      | false ↦ λ s e. let h = copies_remove j x ys e in
          elim (nat_eq j y) as (λ b. cond b (1 + copies j (remove x ys)) (copies j (remove x ys)) + one_if (nat_eq j x) ≡ cond b (1 + copies j ys)
          (copies j ys)) [ true ↦ omega arith | false ↦ omega arith ]
    ]) refl e

module _ (reports : Hand → List ℕ) where
  reports_set : (j : ℕ) (l : List Hand) (a : ℕ) (y : Hand) → a < length l
      → report_copies reports j (set l a y) + copies j (reports (hand_at l a)) ≡ report_copies reports j l + copies j (reports y)
  reports_set j [] a y h = absurd (omega arith)
  reports_set j (z ∷ l) zero y h = omega arith
  reports_set j (z ∷ l) (suc a) y h = let e = reports_set j l a y (omega arith) in omega arith

  reports_within : reports new_hand ≡ [] → (j : ℕ) (l : List Hand) (a : ℕ) → copies j (reports (hand_at l a)) ≤ report_copies reports j l
  reports_within none j [] a = let e = ap (copies j) none in omega arith
  reports_within none j (h ∷ l) zero = omega arith
  reports_within none j (h ∷ l) (suc a) = let e = reports_within none j l a in omega arith

  no_reports : (j : ℕ) (l : List Hand) → ((a : ℕ) → has j (reports (hand_at l a)) ≡ false) → report_copies reports j l ≡ 0
  no_reports j [] n = refl
  no_reports j (h ∷ l) n = let e = copies_none j (reports h) (n 0) in let f = no_reports j l (λ a. n (suc a)) in omega arith

-- FLAGS

flag_set : (fs : List Bool) (j i : ℕ) → one_if (flag (set fs j true) i) ≤ one_if (flag fs i) + one_if (nat_eq i j)
flag_set [] j i = omega arith
flag_set (f ∷ fs) zero zero = elim f as (λ b. 1 ≤ one_if b + 1) [ true ↦ omega arith | false ↦ omega arith ]
flag_set (f ∷ fs) zero (suc i) = omega arith
flag_set (f ∷ fs) (suc j) zero = omega arith
flag_set (f ∷ fs) (suc j) (suc i) = let h = flag_set fs j i in ⊎_elim
    (λ e. let t : nat_eq i j ≡ true = eq-eqb i j e in let u : nat_eq (suc i) (suc j) ≡ true = eq-eqb (suc i) (suc j) (ap suc e) in
    subst (λ (b : Bool). one_if (flag (set fs j true) i) ≤ one_if (flag fs i) + one_if b) (t ∙ sym u) h)
    (λ n. let t : nat_eq i j ≡ false = ne_eqb i j n in let u : nat_eq (suc i) (suc j) ≡ false = ne_eqb (suc i) (suc j) (λ e. n (omega arith)) in
    subst (λ (b : Bool). one_if (flag (set fs j true) i) ≤ one_if (flag fs i) + one_if b) (t ∙ sym u) h)
    (cases_eq i j)

flag_after : (fs : List Bool) (j i : ℕ) → flag (set fs j true) i ≡ true → (i ≡ j) ⊎ (flag fs i ≡ true)
flag_after fs j i e = ⊎_elim (λ s. inl s) (λ n. inr (sym (get_or-set_other fs j i true false n) ∙ e)) (cases_eq i j)

flag_stays : (fs : List Bool) (j i : ℕ) → flag fs i ≡ true → flag (set fs j true) i ≡ true
flag_stays [] j i e = e
flag_stays (f ∷ fs) zero zero e = refl
flag_stays (f ∷ fs) zero (suc i) e = e
flag_stays (f ∷ fs) (suc j) zero e = e
flag_stays (f ∷ fs) (suc j) (suc i) e = flag_stays fs j i e

all_set_at : (fs : List Bool) (j : ℕ) → all_set fs ≡ true → j < length fs → flag fs j ≡ true
all_set_at [] j e l = absurd (omega arith)
all_set_at (f ∷ fs) zero e l = (and_parts f (all_set fs) e).0
all_set_at (f ∷ fs) (suc j) e l = all_set_at fs j (and_parts f (all_set fs) e).1 (omega arith)

cleared : (fs : List Bool) (j : ℕ) → flag (all_clear fs) j ≡ false
cleared [] j = refl
cleared (f ∷ fs) zero = refl
cleared (f ∷ fs) (suc j) = cleared fs j

-- PHASES

-- a phase of the same cycle, Idle where it was
record SamePhase (closed : Bool) (now : ℕ) (ph ph' : Phase) : Type 0 where
  fits : PhaseFits closed now ph → PhaseFits closed now ph'
  cycle : cycle_of ph' ≡ cycle_of ph
  idle : (b : ℕ) → ph ≡ Idle b → ph' ≡ Idle b

same_phase : (t : Bool) (n : ℕ) (ph ph' : Phase) → ph' ≡ ph → SamePhase t n ph ph'
same_phase t n ph ph' e = record { fits = λ f. subst (PhaseFits t n) (sym e) f; cycle = ap cycle_of e; idle = λ b i. e ∙ i }

part_phase : (closed : Bool) (now : ℕ) (xs : List ℕ) (ph : Phase) (r : CoreChannel × Hand) → r.0.phase ≡ ph
    → SamePhase closed now ph (part_marked xs ph r).0.phase × (((part_marked xs ph r).1.begun_reports ≡ r.1.begun_reports)
    × ((part_marked xs ph r).1.swept_reports ≡ r.1.swept_reports))
part_phase closed now xs (Idle b) r e = (same_phase closed now (Idle b) r.0.phase e, (refl, refl))
part_phase closed now xs (Marking b) r e = elim (r.1.closed_seen && nat_eq r.1.cycle_seen b) as
    (λ t. let q : CoreChannel × Hand = cond {A = CoreChannel × Hand} t (marked_all xs r) (greyed_all xs r) in
    SamePhase closed now (Marking b) q.0.phase × ((q.1.begun_reports ≡ r.1.begun_reports) × (q.1.swept_reports ≡ r.1.swept_reports))) [
      | true ↦ (same_phase closed now (Marking b) r.0.phase e, (refl, refl))
      | false ↦ (same_phase closed now (Marking b) r.0.phase e, (refl, refl))
    ]
part_phase closed now xs (Sweeping b left) r e = (record { fits = λ f. f; cycle = refl; idle = λ d i. cc }, (refl, refl))

-- an event that begins and ends no marking and no sweep
phases_stay : (c : Core) (a k : ℕ) (y : CoreChannel) (h : Hand) → a < length c.hands → PhasesFit c
    → SamePhase c.monitor.closed c.monitor.cycle (channel_at c.channels k).phase y.phase → h.begun_reports ≡ (hand_at c.hands a).begun_reports
    → h.swept_reports ≡ (hand_at c.hands a).swept_reports
    → PhasesFit record { channels = set c.channels k y; monitor = c.monitor; hands = set c.hands a h; book = c.book }
phases_stay c a k y h mine fits same begun swept = let ph = both_set
    (λ (j : ℕ) (x z : CoreChannel). SamePhase c.monitor.closed c.monitor.cycle x.phase z.phase) c.channels k y no_channel same
    (λ j. same_phase c.monitor.closed c.monitor.cycle (channel_at c.channels j).phase (channel_at c.channels j).phase refl) in
    let br = both_set (λ (b : ℕ) (x z : Hand). z.begun_reports ≡ x.begun_reports) c.hands a h new_hand begun (λ b. refl) in
    let sr = both_set (λ (b : ℕ) (x z : Hand). z.swept_reports ≡ x.swept_reports) c.hands a h new_hand swept (λ b. refl) in
    let many = length-set c.channels k y in record {
      begun_length = fits.begun_length ∙ sym many;
      swept_length = fits.swept_length ∙ sym many;
      phase = λ j b. (ph j).fits (fits.phase j (subst (λ (n : ℕ). j < n) many b));
      begun_flag = λ j f. (ph j).cycle ∙ fits.begun_flag j f;
      begun_report = λ b j r. let t = fits.begun_report b j (subst (λ (xs : List ℕ). has j xs ≡ true) (br b) r) in
          (subst (λ (n : ℕ). j < n) (sym many) t.0, (ph j).cycle ∙ t.1);
      swept_flag = λ j f. (ph j).idle c.monitor.cycle (fits.swept_flag j f);
      swept_report = λ b j r. let t = fits.swept_report b j (subst (λ (xs : List ℕ). has j xs ≡ true) (sr b) r) in
          (subst (λ (n : ℕ). j < n) (sym many) t.0, (ph j).idle c.monitor.cycle t.1);
      begun_once = λ j. let o = fits.begun_once j in let s = reports_set begun_of j c.hands a h mine in
          let e : copies j h.begun_reports ≡ copies j (hand_at c.hands a).begun_reports = ap (copies j) begun in omega arith;
      swept_once = λ j. let o = fits.swept_once j in let s = reports_set swept_of j c.hands a h mine in
          let e : copies j h.swept_reports ≡ copies j (hand_at c.hands a).swept_reports = ap (copies j) swept in omega arith;
      all_begun = λ t j b. fits.all_begun t j (subst (λ (n : ℕ). j < n) many b);
    }

-- a channel without a flag and without a report
no_begun_yet : (c : Core) (k : ℕ) → PhasesFit c → (cycle_of (channel_at c.channels k).phase ≡ c.monitor.cycle → ⊥)
    → (flag c.monitor.begun k ≡ false) × ((a : ℕ) → has k (hand_at c.hands a).begun_reports ≡ false)
no_begun_yet c k fits n = (
  false_from_ne_true (flag c.monitor.begun k) (λ f. n (fits.begun_flag k f)),
  λ a. false_from_ne_true
      (has k (hand_at c.hands a).begun_reports) (λ r. n (fits.begun_report a k r).1),
)

no_swept_yet : (c : Core) (k : ℕ) → PhasesFit c → ((channel_at c.channels k).phase ≡ Idle c.monitor.cycle → ⊥)
    → (flag c.monitor.swept k ≡ false) × ((a : ℕ) → has k (hand_at c.hands a).swept_reports ≡ false)
no_swept_yet c k fits n = (
  false_from_ne_true (flag c.monitor.swept k) (λ f. n (fits.swept_flag k f)),
  λ a. false_from_ne_true
      (has k (hand_at c.hands a).swept_reports) (λ r. n (fits.swept_report a k r).1),
)

-- once, with one more report of channel k where there was none
once_more : (f before after copies_k : ℕ) (j k : ℕ) → f + before ≤ 1 → (j ≡ k → f + before ≡ 0)
    → after + copies_k ≡ before + (one_if (nat_eq j k) + copies_k) → f + after ≤ 1
once_more f before after copies_k j k o none e = ⊎_elim (λ s. let z = none s in let t : one_if (nat_eq j k) ≡ 1 = ap one_if (eq-eqb j k s) in omega arith)
    (λ n. let t : one_if (nat_eq j k) ≡ 0 = ap one_if (ne_eqb j k n) in omega arith) (cases_eq j k)

begin_phases : (c : Core) (a k : ℕ) (y : CoreChannel) (h : Hand) (b : ℕ) → k < length c.channels → a < length c.hands → AllSawRight c → PhasesFit c
    → (channel_at c.channels k).phase ≡ Idle b → (hand_at c.hands a).cycle_seen ≡ b + 1
    → y.phase ≡ Marking (b + 1) → h.begun_reports ≡ add k (hand_at c.hands a).begun_reports → h.swept_reports ≡ (hand_at c.hands a).swept_reports
    → PhasesFit record {
      channels = set c.channels k y;
      monitor = c.monitor;
      hands = set c.hands a h;
      book = c.book;
    }
begin_phases c a k y h b here mine saw fits was seen now begun swept = let s = (saw a).cycle in
    let before : PhaseFits c.monitor.closed c.monitor.cycle (Idle b) = subst (PhaseFits c.monitor.closed c.monitor.cycle) was (fits.phase k here) in
    let is_open : c.monitor.closed ≡ false = still_open c.monitor.closed before s in
    let cyc : b + 1 ≡ c.monitor.cycle = subst (λ (t : Bool). cond t b (b + 1) ≡ c.monitor.cycle) is_open before in
    let not_begun = no_begun_yet c k fits (λ e. let t : b ≡ c.monitor.cycle = sym (ap cycle_of was) ∙ e in omega arith) in
    let not_swept = no_swept_yet c k fits (λ e. let t : b ≡ c.monitor.cycle = ap cycle_of (sym was ∙ e) in omega arith) in
    let many = length-set c.channels k y in let nowc : cycle_of y.phase ≡ c.monitor.cycle = ap cycle_of now ∙ cyc in
    let br = both_set (λ (i : ℕ) (x z : Hand). (j : ℕ) → has j z.begun_reports ≡ true → (j ≡ k) ⊎ (has j x.begun_reports ≡ true)) c.hands a h new_hand
    (λ j r. ⊎_elim (λ e. inl (eqb-true j k e)) (λ e. inr e) (or_cases (nat_eq j k) (has j (hand_at c.hands a).begun_reports)
    (sym (has_add j k (hand_at c.hands a).begun_reports) ∙ (ap (λ (xs : List ℕ). has j xs) (sym begun) ∙ r)))) (λ i j r. inr r) in
    let sr = both_set (λ (i : ℕ) (x z : Hand). z.swept_reports ≡ x.swept_reports) c.hands a h new_hand swept (λ i. refl) in record {
      begun_length = fits.begun_length ∙ sym many;
      swept_length = fits.swept_length ∙ sym many;
      phase = λ j l. each_set (λ (i : ℕ) (z : CoreChannel). i < length c.channels
          → PhaseFits c.monitor.closed c.monitor.cycle z.phase) c.channels k y no_channel
          (λ _. subst (PhaseFits c.monitor.closed c.monitor.cycle) (sym now) cyc) fits.phase j (subst (λ (n : ℕ). j < n) many l);
      begun_flag = each_set (λ (i : ℕ) (z : CoreChannel). flag c.monitor.begun i ≡ true → cycle_of z.phase ≡ c.monitor.cycle) c.channels k y no_channel
          (λ _. nowc) fits.begun_flag;
      begun_report = λ i j r. ⊎_elim
          (λ e. (
            subst (λ (n : ℕ). n < length (set c.channels k y)) (sym e) (subst (λ (n : ℕ). k < n) (sym many) here),
            subst
                (λ (n : ℕ). cycle_of (channel_at (set c.channels k y) n).phase ≡ c.monitor.cycle) (sym e)
                (ap (λ (z : CoreChannel). cycle_of z.phase) (get_or-set_same c.channels k y no_channel here) ∙ nowc),
          ))
          (λ o. let t = fits.begun_report i j o in (
            subst (λ (n : ℕ). j < n) (sym many) t.0,
            each_set (λ (i' : ℕ) (z : CoreChannel). cycle_of (channel_at c.channels i').phase ≡ c.monitor.cycle
                → cycle_of z.phase ≡ c.monitor.cycle) c.channels k y no_channel (λ _. nowc) (λ i' e. e) j t.1,
          )) (br i j r);
      swept_flag = each_set (λ (i : ℕ) (z : CoreChannel). flag c.monitor.swept i ≡ true → z.phase ≡ Idle c.monitor.cycle) c.channels k y no_channel
          (λ f. let g = not_swept.0 in cc) fits.swept_flag;
      swept_report = λ i j r. let r' : has j (hand_at c.hands i).swept_reports ≡ true = subst (λ (xs : List ℕ). has j xs ≡ true) (sr i) r in
          let t = fits.swept_report i j r' in (
            subst (λ (n : ℕ). j < n) (sym many) t.0,
            each_set (λ (i' : ℕ) (z : CoreChannel). has i' (hand_at c.hands i).swept_reports ≡ true
                → z.phase ≡ Idle c.monitor.cycle) c.channels k y no_channel (λ f. let g = not_swept.1 i in cc) (λ i' f. (fits.swept_report i i' f).1) j r',
          );
      begun_once = λ j. let s = reports_set begun_of j c.hands a h mine in
          let e : copies j h.begun_reports ≡ one_if (nat_eq j k) + copies j (hand_at c.hands a).begun_reports = ap (copies j) begun
          ∙ copies_add j k (hand_at c.hands a).begun_reports (not_begun.1 a) in
          once_more (one_if (flag c.monitor.begun j)) (report_copies begun_of j c.hands) (report_copies begun_of j (set c.hands a h))
          (copies j (hand_at c.hands a).begun_reports) j k (fits.begun_once j)
          (λ e. subst (λ (i : ℕ). one_if (flag c.monitor.begun i) + report_copies begun_of i c.hands ≡ 0) (sym e)
          (let f : one_if (flag c.monitor.begun k) ≡ 0 = ap one_if not_begun.0 in let g = no_reports begun_of k c.hands not_begun.1 in omega arith))
          (omega arith);
      swept_once = λ j. let o = fits.swept_once j in let s = reports_set swept_of j c.hands a h mine in
          let e : copies j h.swept_reports ≡ copies j (hand_at c.hands a).swept_reports = ap (copies j) swept in omega arith;
      all_begun = λ t j l. cc;
    }
  where
    still_open : (t : Bool) → cond t b (b + 1) ≡ c.monitor.cycle → (hand_at c.hands a).cycle_seen ≤ c.monitor.cycle → t ≡ false
    still_open true e s = absurd (omega arith)
    still_open false e s = refl

swept_reports_of : (p : Place) (b : ℕ) (x : CoreChannel) (h : Hand) (left : List ℕ) → (swept_to p b x h left).1.begun_reports ≡ h.begun_reports
swept_reports_of p b x h [] = refl
swept_reports_of p b x h (i ∷ left) = refl

sweep_phase : (x : CoreChannel) (b : ℕ) (left : List ℕ) → SweepFrom x b left → (cycle_of x.phase ≡ b) × ((d : ℕ) → x.phase ≡ Idle d → ⊥)
sweep_phase x b left (first e f) = (ap cycle_of e, λ d i. let t : Marking b ≡ Idle d = sym e ∙ i in cc)
sweep_phase x b left (next e) = (ap cycle_of e, λ d i. let t : Sweeping b left ≡ Idle d = sym e ∙ i in cc)

pub sweep_cycle : (x : CoreChannel) (b cycle : ℕ) (closed : Bool) (left : List ℕ) → SweepFrom x b left → PhaseFits closed cycle x.phase → b ≡ cycle
sweep_cycle x b cycle closed left (first e f) fits = subst (PhaseFits closed cycle) e fits
sweep_cycle x b cycle closed left (next e) fits = (subst (PhaseFits closed cycle) e fits).0

-- a channel that goes on sweeping, or is swept and reports it
sweep_phases : (c : Core) (a k : ℕ) (b : ℕ) (z : CoreChannel) (rest : List ℕ) (left : List ℕ) → k < length c.channels → a < length c.hands → PhasesFit c
    → SweepFrom (channel_at c.channels k) b left → b ≡ c.monitor.cycle → c.monitor.closed ≡ true
    → PhasesFit record {
      channels = set c.channels k (swept_to (place_of c k) b z (hand_at c.hands a) rest).0;
      monitor = c.monitor;
      hands = set c.hands a (swept_to (place_of c k) b z (hand_at c.hands a) rest).1;
      book = c.book;
    }
sweep_phases c a k b z (i ∷ rest) left here mine fits from cyc closed = let s = sweep_phase (channel_at c.channels k) b left from in
    phases_stay c a k (record z { phase = Sweeping b (i ∷ rest) })
    (hand_at c.hands a) mine fits record { fits = λ f. (cyc, closed); cycle = sym s.0; idle = λ d e. absurd (s.1 d e) } refl refl
sweep_phases c a k b z [] left here mine fits from cyc closed = let s = sweep_phase (channel_at c.channels k) b left from in
    let y : CoreChannel = record z { phase = Idle b; marked = []; grey = [] } in
    let h : Hand = record (hand_at c.hands a) { swept_reports = add k (hand_at c.hands a).swept_reports } in
    let not_swept = no_swept_yet c k fits (λ e. s.1 c.monitor.cycle e) in let many = length-set c.channels k y in
    let now : Idle b ≡ Idle c.monitor.cycle = ap (λ (n : ℕ). Idle n) cyc in
    let sr = both_set (λ (i : ℕ) (x z : Hand). (j : ℕ) → has j z.swept_reports ≡ true → (j ≡ k) ⊎ (has j x.swept_reports ≡ true)) c.hands a h new_hand
    (λ j r. ⊎_elim (λ e. inl (eqb-true j k e)) (λ e. inr e) (or_cases (nat_eq j k) (has j (hand_at c.hands a).swept_reports)
    (sym (has_add j k (hand_at c.hands a).swept_reports) ∙ r))) (λ i j r. inr r) in
    let br = both_set (λ (i : ℕ) (x z : Hand). z.begun_reports ≡ x.begun_reports) c.hands a h new_hand refl (λ i. refl) in
    let cy = both_set (λ (i : ℕ) (x z : CoreChannel). cycle_of z.phase ≡ cycle_of x.phase) c.channels k y no_channel (sym s.0) (λ i. refl) in record {
      begun_length = fits.begun_length ∙ sym many;
      swept_length = fits.swept_length ∙ sym many;
      phase = λ j l. each_set (λ (i : ℕ) (z : CoreChannel). i < length c.channels
          → PhaseFits c.monitor.closed c.monitor.cycle z.phase) c.channels k y no_channel
          (λ _. ap (λ (t : Bool). cond t b (b + 1)) closed ∙ cyc) fits.phase j (subst (λ (n : ℕ). j < n) many l);
      begun_flag = λ j f. cy j ∙ fits.begun_flag j f;
      begun_report = λ i j r. let t = fits.begun_report i j (subst (λ (xs : List ℕ). has j xs ≡ true) (br i) r) in
          (subst (λ (n : ℕ). j < n) (sym many) t.0, cy j ∙ t.1);
      swept_flag = each_set (λ (i : ℕ) (z : CoreChannel). flag c.monitor.swept i ≡ true → z.phase ≡ Idle c.monitor.cycle) c.channels k y no_channel
          (λ _. now) fits.swept_flag;
      swept_report = λ i j r. ⊎_elim
          (λ e. (
            subst (λ (n : ℕ). n < length (set c.channels k y)) (sym e) (subst (λ (n : ℕ). k < n) (sym many) here),
            subst
                (λ (n : ℕ). (channel_at (set c.channels k y) n).phase ≡ Idle c.monitor.cycle) (sym e)
                (ap (λ (z : CoreChannel). z.phase) (get_or-set_same c.channels k y no_channel here) ∙ now),
          ))
          (λ o. let t = fits.swept_report i j o in (
            subst (λ (n : ℕ). j < n) (sym many) t.0,
            each_set (λ (i' : ℕ) (z : CoreChannel). (channel_at c.channels i').phase ≡ Idle c.monitor.cycle
                → z.phase ≡ Idle c.monitor.cycle) c.channels k y no_channel (λ _. now) (λ i' e. e) j t.1,
          )) (sr i j r);
      begun_once = λ j. let o = fits.begun_once j in let s = reports_set begun_of j c.hands a h mine in omega arith;
      swept_once = λ j. let s = reports_set swept_of j c.hands a h mine in
          let e : copies j h.swept_reports ≡ one_if (nat_eq j k) + copies j (hand_at c.hands a).swept_reports = copies_add j k
          (hand_at c.hands a).swept_reports (not_swept.1 a) in
          once_more (one_if (flag c.monitor.swept j)) (report_copies swept_of j c.hands) (report_copies swept_of j (set c.hands a h))
          (copies j (hand_at c.hands a).swept_reports) j k (fits.swept_once j)
          (λ e. subst (λ (i : ℕ). one_if (flag c.monitor.swept i) + report_copies swept_of i c.hands ≡ 0) (sym e)
          (let f : one_if (flag c.monitor.swept k) ≡ 0 = ap one_if not_swept.0 in let g = no_reports swept_of k c.hands not_swept.1 in omega arith))
          (omega arith);
      all_begun = λ t j l. fits.all_begun t j (subst (λ (n : ℕ). j < n) many l);
    }

phases_move : (c : Core) (a k : ℕ) (e : Event) (y : CoreChannel) (h : Hand) → AllSawRight c → PhasesFit c → k < length c.channels → a < length c.hands
    → ChannelMove (place_of c k) (channel_at c.channels k) (hand_at c.hands a) e y h → PhasesFit (changed c a k (Channel y) h e)
phases_move c a k e y h saw fits here mine (begins b i s l) = begin_phases c a k y h b here mine saw fits i s refl refl refl
phases_move c a k e y h saw fits here mine (marks b xs z g i m) = let x = channel_at c.channels k in
    let o = mark_only (place_of c k) xs (x, hand_at c.hands a) (z, g) m in
    phases_stay c a k z g mine fits (same_phase c.monitor.closed c.monitor.cycle x.phase z.phase o.phase) o.begun_reports o.swept_reports
phases_move c a k e y h saw fits here mine (delivers b xs z g i m) = let x = channel_at c.channels k in
    let o = deliver_only (place_of c k) xs (x, hand_at c.hands a) (z, g) m in
    phases_stay c a k z g mine fits (same_phase c.monitor.closed c.monitor.cycle x.phase z.phase o.phase) o.begun_reports o.swept_reports
phases_move c a k e y h saw fits here mine (sweeps b left xs f s t) = let x = channel_at c.channels k in
    let cyc = sweep_cycle x b c.monitor.cycle c.monitor.closed left f (fits.phase k here) in
    sweep_phases c a k b (visit xs (x, left)).0 (visit xs (x, left)).1 left here mine fits f cyc ((saw a).closed (t ∙ cyc) s)
phases_move c a k e y h saw fits here mine (takes o i n l d r) = let x = channel_at c.channels k in
    let q = part_phase c.monitor.closed c.monitor.cycle (ids (place_of c k).records) x.phase
    (part_taken (place_of c k) o.number x, part_given (place_of c k) o (hand_at c.hands a)) refl in phases_stay c a k y h mine fits q.0 q.1.0 q.1.1
phases_move c a k e y h saw fits here mine (confirms l) = phases_stay c a k y h mine fits
    (same_phase c.monitor.closed c.monitor.cycle (channel_at c.channels k).phase y.phase refl) refl refl
phases_move c a k e y h saw fits here mine (pins i l p m) = phases_stay c a k y h mine fits
    (same_phase c.monitor.closed c.monitor.cycle (channel_at c.channels k).phase y.phase refl) refl refl
phases_move c a k e y h saw fits here mine (pins_white i l p m) = phases_stay c a k y h mine fits
    (same_phase c.monitor.closed c.monitor.cycle (channel_at c.channels k).phase y.phase refl) refl refl
phases_move c a k e y h saw fits here mine (unpins i) = phases_stay c a k y h mine fits
    (same_phase c.monitor.closed c.monitor.cycle (channel_at c.channels k).phase y.phase refl) refl refl
phases_move c a k e y h saw fits here mine (tidies l) = phases_stay c a k y h mine fits
    (same_phase c.monitor.closed c.monitor.cycle (channel_at c.channels k).phase y.phase refl) refl refl

pub phases_channel : (c : Core) (a k : ℕ) (e : Event) (y : CoreChannel) (h : Hand) → AllSawRight c → PhasesFit c → ChannelEvent c a k e y h
    → PhasesFit (changed c a k (Channel y) h e)
phases_channel c a k e y h saw fits ev = phases_move c a k e y h saw fits ev.here ev.mine
    (channel_move (place_of c k) (channel_at c.channels k) (hand_at c.hands a) e (y, h) ev.made)

-- THE MONITOR

monitor_phases_stay : (c : Core) (a : ℕ) (m : CoreMonitor) (h : Hand) (b : Book) → a < length c.hands → PhasesFit c → m.cycle ≡ c.monitor.cycle
    → m.closed ≡ c.monitor.closed → m.begun ≡ c.monitor.begun → m.swept ≡ c.monitor.swept → h.begun_reports ≡ (hand_at c.hands a).begun_reports
    → h.swept_reports ≡ (hand_at c.hands a).swept_reports
    → PhasesFit record { channels = c.channels; monitor = m; hands = set c.hands a h; book = b }
monitor_phases_stay c a m h b mine fits cyc clo beg swe begun swept = let br = both_set
    (λ (b : ℕ) (x z : Hand). z.begun_reports ≡ x.begun_reports) c.hands a h new_hand begun (λ b. refl) in
    let sr = both_set (λ (b : ℕ) (x z : Hand). z.swept_reports ≡ x.swept_reports) c.hands a h new_hand swept (λ b. refl) in record {
      begun_length = ap (λ (fs : List Bool). length fs) beg ∙ fits.begun_length;
      swept_length = ap (λ (fs : List Bool). length fs) swe ∙ fits.swept_length;
      phase = λ j l. subst (λ (t : Bool). PhaseFits t m.cycle (channel_at c.channels j).phase) (sym clo)
          (subst (λ (n : ℕ). PhaseFits c.monitor.closed n (channel_at c.channels j).phase) (sym cyc) (fits.phase j l));
      begun_flag = λ j f. fits.begun_flag j (sym (ap (λ (fs : List Bool). flag fs j) beg) ∙ f) ∙ sym cyc;
      begun_report = λ i j r. let t = fits.begun_report i j (subst (λ (xs : List ℕ). has j xs ≡ true) (br i) r) in (t.0, t.1 ∙ sym cyc);
      swept_flag = λ j f. fits.swept_flag j (sym (ap (λ (fs : List Bool). flag fs j) swe) ∙ f) ∙ ap (λ (n : ℕ). Idle n) (sym cyc);
      swept_report = λ i j r. let t = fits.swept_report i j (subst (λ (xs : List ℕ). has j xs ≡ true) (sr i) r) in (t.0, t.1 ∙ ap (λ (n : ℕ). Idle n) (sym cyc));
      begun_once = λ j. let o = fits.begun_once j in let s = reports_set begun_of j c.hands a h mine in
          let e : copies j h.begun_reports ≡ copies j (hand_at c.hands a).begun_reports = ap (copies j) begun in
          let f : one_if (flag m.begun j) ≡ one_if (flag c.monitor.begun j) = ap (λ (fs : List Bool). one_if (flag fs j)) beg in omega arith;
      swept_once = λ j. let o = fits.swept_once j in let s = reports_set swept_of j c.hands a h mine in
          let e : copies j h.swept_reports ≡ copies j (hand_at c.hands a).swept_reports = ap (copies j) swept in
          let f : one_if (flag m.swept j) ≡ one_if (flag c.monitor.swept j) = ap (λ (fs : List Bool). one_if (flag fs j)) swe in omega arith;
      all_begun = λ t j l. ap (λ (fs : List Bool). flag fs j) beg ∙ fits.all_begun (sym clo ∙ t) j l;
    }

report_begun_phases : (c : Core) (a j : ℕ) (m : CoreMonitor) (h : Hand) → a < length c.hands → PhasesFit c → has j (hand_at c.hands a).begun_reports ≡ true
    → m ≡ record c.monitor { begun = set c.monitor.begun j true } → h.begun_reports ≡ remove j (hand_at c.hands a).begun_reports
    → h.swept_reports ≡ (hand_at c.hands a).swept_reports
    → PhasesFit record { channels = c.channels; monitor = record c.monitor { begun = set c.monitor.begun j true }; hands = set c.hands a h; book = c.book }
report_begun_phases c a j m h mine fits had is begun swept =
    let br = both_set (λ (b : ℕ) (x z : Hand). (i : ℕ) → has i z.begun_reports ≡ true → has i x.begun_reports ≡ true) c.hands a h new_hand
    (λ i r. had_before i j (hand_at c.hands a).begun_reports (ap (has i) (sym begun) ∙ r)) (λ b i r. r) in
    let sr = both_set (λ (b : ℕ) (x z : Hand). z.swept_reports ≡ x.swept_reports) c.hands a h new_hand swept (λ b. refl) in record {
      begun_length = length-set c.monitor.begun j true ∙ fits.begun_length;
      swept_length = fits.swept_length;
      phase = fits.phase;
      begun_flag = λ i f. ⊎_elim (λ e. subst (λ (n : ℕ). cycle_of (channel_at c.channels n).phase ≡ c.monitor.cycle) (sym e) (fits.begun_report a j had).1)
          (λ o. fits.begun_flag i o) (flag_after c.monitor.begun j i f);
      begun_report = λ b i r. fits.begun_report b i (br b i r);
      swept_flag = fits.swept_flag;
      swept_report = λ b i r. fits.swept_report b i (subst (λ (xs : List ℕ). has i xs ≡ true) (sr b) r);
      begun_once = λ i. let o = fits.begun_once i in let s = reports_set begun_of i c.hands a h mine in let f = flag_set c.monitor.begun j i in
          let e : copies i h.begun_reports + one_if (nat_eq i j) ≡ copies i (hand_at c.hands a).begun_reports = ap
          (λ (xs : List ℕ). copies i xs + one_if (nat_eq i j)) begun ∙ copies_remove i j (hand_at c.hands a).begun_reports had in omega arith;
      swept_once = λ i. let o = fits.swept_once i in let s = reports_set swept_of i c.hands a h mine in
          let e : copies i h.swept_reports ≡ copies i (hand_at c.hands a).swept_reports = ap (copies i) swept in omega arith;
      all_begun = λ t i l. flag_stays c.monitor.begun j i (fits.all_begun t i l);
    }

report_swept_phases : (c : Core) (a j : ℕ) (h : Hand) → a < length c.hands → PhasesFit c → has j (hand_at c.hands a).swept_reports ≡ true
    → h.swept_reports ≡ remove j (hand_at c.hands a).swept_reports → h.begun_reports ≡ (hand_at c.hands a).begun_reports
    → PhasesFit record { channels = c.channels; monitor = record c.monitor { swept = set c.monitor.swept j true }; hands = set c.hands a h; book = c.book }
report_swept_phases c a j h mine fits had swept begun =
    let sr = both_set (λ (b : ℕ) (x z : Hand). (i : ℕ) → has i z.swept_reports ≡ true → has i x.swept_reports ≡ true) c.hands a h new_hand
    (λ i r. had_before i j (hand_at c.hands a).swept_reports (ap (has i) (sym swept) ∙ r)) (λ b i r. r) in
    let br = both_set (λ (b : ℕ) (x z : Hand). z.begun_reports ≡ x.begun_reports) c.hands a h new_hand begun (λ b. refl) in record {
      begun_length = fits.begun_length;
      swept_length = length-set c.monitor.swept j true ∙ fits.swept_length;
      phase = fits.phase;
      begun_flag = fits.begun_flag;
      begun_report = λ b i r. fits.begun_report b i (subst (λ (xs : List ℕ). has i xs ≡ true) (br b) r);
      swept_flag = λ i f. ⊎_elim (λ e. subst (λ (n : ℕ). (channel_at c.channels n).phase ≡ Idle c.monitor.cycle) (sym e) (fits.swept_report a j had).1)
          (λ o. fits.swept_flag i o) (flag_after c.monitor.swept j i f);
      swept_report = λ b i r. fits.swept_report b i (sr b i r);
      begun_once = λ i. let o = fits.begun_once i in let s = reports_set begun_of i c.hands a h mine in
          let e : copies i h.begun_reports ≡ copies i (hand_at c.hands a).begun_reports = ap (copies i) begun in omega arith;
      swept_once = λ i. let o = fits.swept_once i in let s = reports_set swept_of i c.hands a h mine in let f = flag_set c.monitor.swept j i in
          let e : copies i h.swept_reports + one_if (nat_eq i j) ≡ copies i (hand_at c.hands a).swept_reports = ap
          (λ (xs : List ℕ). copies i xs + one_if (nat_eq i j)) swept ∙ copies_remove i j (hand_at c.hands a).swept_reports had in omega arith;
      all_begun = fits.all_begun;
    }

-- with all flags set no report is left
none_left : (n : ℕ) (j : ℕ) (t : Bool) (total mine : ℕ) (r : Bool) → t ≡ true → one_if t + total ≤ 1 → mine ≤ total → (r ≡ true → 1 ≤ mine) → r ≡ true → ⊥
none_left n j t total mine r f o w s e = let one = s e in let g : one_if t ≡ 1 = ap one_if f in absurd (omega arith)

no_report_begun : (c : Core) → PhasesFit c → c.monitor.closed ≡ true → (b i : ℕ) → has i (hand_at c.hands b).begun_reports ≡ true → ⊥
no_report_begun c fits closed b i r = none_left 0 i (flag c.monitor.begun i) (report_copies begun_of i c.hands) (copies i (hand_at c.hands b).begun_reports)
    (has i (hand_at c.hands b).begun_reports) (fits.all_begun closed i (fits.begun_report b i r).0) (fits.begun_once i)
    (reports_within begun_of refl i c.hands b) (copies_some i (hand_at c.hands b).begun_reports) r

pub all_idle : (c : Core) → PhasesFit c → all_set c.monitor.swept ≡ true → (j : ℕ) → j < length c.channels
    → (channel_at c.channels j).phase ≡ Idle c.monitor.cycle
all_idle c fits s j l = fits.swept_flag j (all_set_at c.monitor.swept j s (subst (λ (n : ℕ). j < n) (sym fits.swept_length) l))

no_report_swept : (c : Core) → PhasesFit c → all_set c.monitor.swept ≡ true → (b i : ℕ) → has i (hand_at c.hands b).swept_reports ≡ true → ⊥
no_report_swept c fits s b i r = none_left 0 i (flag c.monitor.swept i) (report_copies swept_of i c.hands) (copies i (hand_at c.hands b).swept_reports)
    (has i (hand_at c.hands b).swept_reports)
    (all_set_at c.monitor.swept i s (subst (λ (n : ℕ). i < n) (sym fits.swept_length) (fits.swept_report b i r).0)) (fits.swept_once i)
    (reports_within swept_of refl i c.hands b) (copies_some i (hand_at c.hands b).swept_reports) r

begin_cycle_phases : (c : Core) (a : ℕ) (h : Hand) → a < length c.hands → PhasesFit c → c.monitor.closed ≡ true → all_set c.monitor.swept ≡ true
    → h.begun_reports ≡ (hand_at c.hands a).begun_reports → h.swept_reports ≡ (hand_at c.hands a).swept_reports
    → PhasesFit record {
      channels = c.channels;
      monitor = record c.monitor { cycle = c.monitor.cycle + 1; closed = false; begun = all_clear c.monitor.begun; swept = all_clear c.monitor.swept };
      hands = set c.hands a h;
      book = c.book;
    }
begin_cycle_phases c a h mine fits closed s begun swept = let br = both_set
    (λ (b : ℕ) (x z : Hand). z.begun_reports ≡ x.begun_reports) c.hands a h new_hand begun (λ b. refl) in
    let sr = both_set (λ (b : ℕ) (x z : Hand). z.swept_reports ≡ x.swept_reports) c.hands a h new_hand swept (λ b. refl) in record {
      begun_length = length-map c.monitor.begun (λ (b : Bool). false) ∙ fits.begun_length;
      swept_length = length-map c.monitor.swept (λ (b : Bool). false) ∙ fits.swept_length;
      phase = λ j l. subst (PhaseFits false (c.monitor.cycle + 1)) (sym (all_idle c fits s j l)) refl;
      begun_flag = λ j f. let t = cleared c.monitor.begun j in cc;
      begun_report = λ b i r. absurd (no_report_begun c fits closed b i (subst (λ (xs : List ℕ). has i xs ≡ true) (br b) r));
      swept_flag = λ j f. let t = cleared c.monitor.swept j in cc;
      swept_report = λ b i r. absurd (no_report_swept c fits s b i (subst (λ (xs : List ℕ). has i xs ≡ true) (sr b) r));
      begun_once = λ i. let o = fits.begun_once i in let s = reports_set begun_of i c.hands a h mine in
          let e : copies i h.begun_reports ≡ copies i (hand_at c.hands a).begun_reports = ap (copies i) begun in
          let t : one_if (flag (all_clear c.monitor.begun) i) ≡ 0 = ap one_if (cleared c.monitor.begun i) in omega arith;
      swept_once = λ i. let o = fits.swept_once i in let s = reports_set swept_of i c.hands a h mine in
          let e : copies i h.swept_reports ≡ copies i (hand_at c.hands a).swept_reports = ap (copies i) swept in
          let t : one_if (flag (all_clear c.monitor.swept) i) ≡ 0 = ap one_if (cleared c.monitor.swept i) in omega arith;
      all_begun = λ t i l. cc;
    }

closing_fits : (b : ℕ) (ph : Phase) → cycle_of ph ≡ b → PhaseFits false b ph → PhaseFits true b ph
closing_fits b (Idle d) c f = absurd (omega arith)
closing_fits b (Marking d) c f = c
closing_fits b (Sweeping d left) c f = let t : false ≡ true = f.1 in cc

close_cycle_phases : (c : Core) (a : ℕ) (h : Hand) → a < length c.hands → PhasesFit c → c.monitor.closed ≡ false → all_set c.monitor.begun ≡ true
    → h.begun_reports ≡ (hand_at c.hands a).begun_reports → h.swept_reports ≡ (hand_at c.hands a).swept_reports
    → PhasesFit record { channels = c.channels; monitor = record c.monitor { closed = true }; hands = set c.hands a h; book = c.book }
close_cycle_phases c a h mine fits open_ s begun swept = let br = both_set
    (λ (b : ℕ) (x z : Hand). z.begun_reports ≡ x.begun_reports) c.hands a h new_hand begun (λ b. refl) in
    let sr = both_set (λ (b : ℕ) (x z : Hand). z.swept_reports ≡ x.swept_reports) c.hands a h new_hand swept (λ b. refl) in
    let set_at = λ (j : ℕ) (l : j < length c.channels). all_set_at c.monitor.begun j s (subst (λ (n : ℕ). j < n) (sym fits.begun_length) l) in record {
      begun_length = fits.begun_length;
      swept_length = fits.swept_length;
      phase = λ j l. closing_fits c.monitor.cycle (channel_at c.channels j).phase (fits.begun_flag j (set_at j l))
          (subst (λ (t : Bool). PhaseFits t c.monitor.cycle (channel_at c.channels j).phase) open_ (fits.phase j l));
      begun_flag = fits.begun_flag;
      begun_report = λ b i r. fits.begun_report b i (subst (λ (xs : List ℕ). has i xs ≡ true) (br b) r);
      swept_flag = fits.swept_flag;
      swept_report = λ b i r. fits.swept_report b i (subst (λ (xs : List ℕ). has i xs ≡ true) (sr b) r);
      begun_once = λ i. let o = fits.begun_once i in let s = reports_set begun_of i c.hands a h mine in
          let e : copies i h.begun_reports ≡ copies i (hand_at c.hands a).begun_reports = ap (copies i) begun in omega arith;
      swept_once = λ i. let o = fits.swept_once i in let s = reports_set swept_of i c.hands a h mine in
          let e : copies i h.swept_reports ≡ copies i (hand_at c.hands a).swept_reports = ap (copies i) swept in omega arith;
      all_begun = λ t i l. set_at i l;
    }

phases_led : (c : Core) (a k : ℕ) (e : Event) (m : CoreMonitor) (h : Hand) → PhasesFit c → a < length c.hands
    → MonitorMove c.monitor (hand_at c.hands a) e m h → PhasesFit (changed c a k (Monitor m) h e)
phases_led c a k e m h fits mine (reserves i l) = monitor_phases_stay c a m h c.book mine fits refl refl refl refl refl refl
phases_led c a k e m h fits mine (returns i l) = monitor_phases_stay c a m h c.book mine fits refl refl refl refl refl refl
phases_led c a k e m h fits mine (begins_cycle t s) = begin_cycle_phases c a h mine fits t s refl refl
phases_led c a k e m h fits mine (reports_begun j r) = report_begun_phases c a j m h mine fits r refl refl refl
phases_led c a k e m h fits mine (closes o p s b) = close_cycle_phases c a h mine fits o b refl refl
phases_led c a k e m h fits mine (reports_swept j r) = report_swept_phases c a j h mine fits r refl refl
phases_led c a k e m h fits mine (begins_store op s) = monitor_phases_stay c a m h (book_after c.book e) mine fits refl refl refl refl refl refl
phases_led c a k e m h fits mine (ends_store o i s) = monitor_phases_stay c a m h (book_after c.book e) mine fits refl refl refl refl refl refl

pub phases_monitor : (c : Core) (a k : ℕ) (e : Event) (m : CoreMonitor) (h : Hand) → PhasesFit c → MonitorEvent c a e m h
    → PhasesFit (changed c a k (Monitor m) h e)
phases_monitor c a k e m h fits ev = phases_led c a k e m h fits ev.mine (monitor_move c.monitor (hand_at c.hands a) e (m, h) ev.made)
