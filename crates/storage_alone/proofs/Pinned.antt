-- An id is held, by a credit that is given back.
use Rattle.std.proofs.Common.{◌≡◌, ℕ, ◌+◌, ◌-◌, ◌^◌, ◌&&◌, Bool, true, false, cond, List, [], ◌∷◌, Some, refl, sym, ap, ◌∙◌, ⊎_elim}
use Rattle.std.specs.Prelude.{nat_le, nat_eq, ◌||◌}
use Rattle.std.proofs.lemmas.Bool.{or_cases, or_left, or_right, eq-eqb}
use Rattle.graph_model.specs.Ids.{has, remove}
use Rattle.graph_model.specs.Graph.{Graph, IsReached, has_edge, lists}
use Rattle.graph_model.specs.Stores.{any_edge, may_hold}
use Rattle.graph_model.proofs.Graphs.{reached_on, reached_start}
use Rattle.core_steps.specs.Core.{Core, Hand, graph, held, is_idle}
use Rattle.core_steps.specs.Good.{IsGood, channel_of}
use Rattle.core_steps.specs.Rows.{channel_step, given, greyed, marks_pin, monitor_step, pinned, seeing}
use Rattle.core_steps.specs.declared.state.CoreChannel.{CoreChannel}
use Rattle.core_steps.specs.declared.state.CoreMonitor.{CoreMonitor}
use Rattle.core_steps.specs.declared.state.Phase.{Phase}
use Rattle.core_steps.specs.declared.state.Phase.TheVariants.{Idle, Marking, Sweeping}
use Rattle.core_steps.specs.declared.state.Place.{Place}
use Rattle.core_steps.specs.declared.event.Event.TheVariants.{Pin, Reserve, Return, Unpin}

same_some : {A : Type 0} {x y : A} → Some x ≡ Some y → x ≡ y
same_some e = cc

-- what is given was allowed
pub given_is : {A : Type 0} (b : Bool) (x y : A) → given b x ≡ Some y → (b ≡ true) × (x ≡ y)
given_is true x y e = (refl, cc)
given_is false x y e = absurd cc

-- ---- what the events leave

-- what a reserve and a return leave of monitor and hand
pub record PaysOnly (m : CoreMonitor) (h : Hand) (m' : CoreMonitor) (h' : Hand) : Type 0 where
  pub format : m'.format ≡ m.format
  pub begun : m'.begun ≡ m.begun
  pub stores_begun : m'.stores_begun ≡ m.stores_begun
  pub stores_ended : m'.stores_ended ≡ m.stores_ended
  pub opened : h'.opened ≡ h.opened

paid : (m : CoreMonitor) (h : Hand) (m' : CoreMonitor) (h' : Hand) (pending credit : ℕ)
    → (m', h') ≡ seeing (record m { pending = pending }) (record h { credit = credit }) → PaysOnly m h m' h'
paid m h m' h' pending credit t = record {
  format = ap (λ (r : CoreMonitor × Hand). r.0.format) t;
  begun = ap (λ (r : CoreMonitor × Hand). r.0.begun) t;
  stores_begun = ap (λ (r : CoreMonitor × Hand). r.0.stores_begun) t;
  stores_ended = ap (λ (r : CoreMonitor × Hand). r.0.stores_ended) t;
  opened = ap (λ (r : CoreMonitor × Hand). r.1.opened) t;
}

pub reserved : (m : CoreMonitor) (h : Hand) (n : ℕ) (m' : CoreMonitor) (h' : Hand) → monitor_step m h (Reserve n) ≡ Some (m', h')
    → PaysOnly m h m' h' × (m'.pending ≡ m.pending + n) × (h'.credit ≡ h.credit + n)
reserved m h n m' h' e = let t : (m', h') ≡ seeing (record m { pending = m.pending + n }) (record h { credit = h.credit + n }) = sym (given_is (nat_le (h.credit + n) (2 ^ 32)) _ (m', h') e).1 in
    (paid m h m' h' _ _ t, ap (λ (r : CoreMonitor × Hand). r.0.pending) t, ap (λ (r : CoreMonitor × Hand). r.1.credit) t)

pub returned : (m : CoreMonitor) (h : Hand) (n : ℕ) (m' : CoreMonitor) (h' : Hand) → monitor_step m h (Return n) ≡ Some (m', h')
    → PaysOnly m h m' h' × (m'.pending ≡ m.pending - n) × (h'.credit ≡ h.credit - n)
returned m h n m' h' e = let t : (m', h') ≡ seeing (record m { pending = m.pending - n }) (record h { credit = h.credit - n }) = sym (given_is (nat_le n h.credit) _ (m', h') e).1 in
    (paid m h m' h' _ _ t, ap (λ (r : CoreMonitor × Hand). r.0.pending) t, ap (λ (r : CoreMonitor × Hand). r.1.credit) t)

idle_marks_not : (p : Phase) (x : ℕ) (c : CoreChannel) → is_idle p ≡ true → marks_pin x p c ≡ false
idle_marks_not (Idle cycle) x c i = refl
idle_marks_not (Marking cycle) x c i = absurd cc
idle_marks_not (Sweeping cycle left) x c i = absurd cc

-- on an Idle channel a pin changes the pins alone
pub pin_made : (p : Place) (c c' : CoreChannel) (h h' : Hand) (x : ℕ) → is_idle c.phase ≡ true → channel_step p c h (Pin x) ≡ Some (c', h')
    → (c' ≡ pinned x c) × (h' ≡ h)
pin_made p c c' h h' x idle e =
    let t = given_is (lists c.table x && nat_le 1 h.credit) (cond (marks_pin x c.phase c) (greyed x (pinned x c, h)) (pinned x c, h)) (c', h') e in
    let u : (c', h') ≡ (pinned x c, h) = sym t.1 ∙ ap (λ (b : Bool). cond b (greyed x (pinned x c, h)) (pinned x c, h)) (idle_marks_not c.phase x c idle) in
    (ap (λ (r : CoreChannel × Hand). r.0) u, ap (λ (r : CoreChannel × Hand). r.1) u)

-- ---- what may be held is in its channel's table

pub some_edge : (g : Graph) (xs : List ℕ) (y : ℕ) → any_edge g xs y ≡ true → (x : ℕ) × (has x xs ≡ true) × (has_edge g x y ≡ true)
some_edge g [] y e = absurd cc
some_edge g (x ∷ xs) y e = ⊎_elim (λ s. (x, or_left (nat_eq x x) (has x xs) (eq-eqb x x refl), s))
    (λ s. let t = some_edge g xs y s in (t.0, or_right (nat_eq t.0 x) (has t.0 xs) t.1, t.2)) (or_cases (has_edge g x y) (any_edge g xs y) e)

held_reached : (g : Graph) (held_ids : List ℕ) (x : ℕ) → may_hold g held_ids x ≡ true → IsReached g (1 ∷ held_ids) x
held_reached g held_ids x may = ⊎_elim
    (λ h. reached_start g (1 ∷ held_ids) x (or_right (nat_eq x 1) (has x held_ids) h))
    (λ t. ⊎_elim
    (λ e. let u = some_edge g (1 ∷ held_ids) x e in reached_on g (1 ∷ held_ids) u.0 x (reached_start g (1 ∷ held_ids) u.0 u.1) u.2)
    (λ r. reached_start g (1 ∷ held_ids) x (or_left (nat_eq x 1) (has x held_ids) r))
    (or_cases (any_edge g (1 ∷ held_ids) x) (nat_eq x 1) t))
    (or_cases (has x held_ids) (any_edge g (1 ∷ held_ids) x || nat_eq x 1) may)

pub held_there : (c : Core) (x : ℕ) → IsGood c → lists (graph c.book) x ≡ true → may_hold (graph c.book) (held c.channels) x ≡ true
    → lists (channel_of c x).table x ≡ true
held_there c x good listed may = good.live.is_there x (held_reached (graph c.book) (held c.channels) x may) listed

-- an id is not pinned any more
pub unpin_made : (p : Place) (c c' : CoreChannel) (h h' : Hand) (x : ℕ) → channel_step p c h (Unpin x) ≡ Some (c', h')
    → (c' ≡ record c { pins = remove x c.pins }) × (h' ≡ h)
unpin_made p c c' h h' x e = let t : (c', h') ≡ (record c { pins = remove x c.pins }, h) = sym (same_some e) in
    (ap (λ (r : CoreChannel × Hand). r.0) t, ap (λ (r : CoreChannel × Hand). r.1) t)
