-- What the layers above read off a good core.
use Rattle.std.proofs.Common.{◌≡◌, ◌<◌, ◌≤◌, ◌+◌, ◌*◌, ◌^◌, ◌↔◌, ℕ, suc, Bool, true, false, cond, not, ◌&&◌, ◌||◌, List, [], ◌∷◌, length, Option, None, refl, sym, ap, ◌∙◌, subst, arith, ⊎_elim, eq-eqb}
use Rattle.std.specs.Prelude.{is_some, nat_eq, nat_le, nat_lt}
use Rattle.std.proofs.lemmas.Bool.{and_parts, eqb-true, ltb-true, or_cases, or_right, or_left, eq-eqb}
use Rattle.graph_model.specs.declared.entity.Entity.{Entity}
use Rattle.graph_model.specs.Ids.{has, rises, rises_from}
use Rattle.graph_model.specs.Graph.{entity_of, lists}
use Rattle.graph_model.specs.Stores.{is_good_id, may_hold}
use Rattle.core_steps.specs.Core.{Core, CoreChannel, Hand, Idle, Sweeping, channel_at, graph, hand_at, held, home, open_records, is_idle_of}
use Rattle.core_steps.specs.Good.{IsGood, IsLiveId, IsSound, PhaseFits, channel_of, greys, is_kept, is_written, kept_on, weight, weights}
use Rattle.core_steps.specs.Settled.{IsSettledFrom, SettledChannel}
use Rattle.core_steps.proofs.Contents.{shown_closed}
use Rattle.core_steps.proofs.Kept.{home_channel, pinned_kept}
use Rattle.core_steps.proofs.Lists.{pin_is_held}

-- PENDING

rises_below : (m b : ℕ) (xs : List ℕ) → ((x : ℕ) → has x xs ≡ true → x < m) → b < m → rises_from b xs ≡ true → length xs + b < m
rises_below m b [] below l r = omega arith
rises_below m b (y ∷ ys) below l r = let t = and_parts (nat_lt b y) (rises_from y ys) r in let u = ltb-true b y t.0 in
    let h = rises_below m y ys (λ x e. below x (or_right (nat_eq x y) (has x ys) e)) (below y (or_left (nat_eq y y) (has y ys) (eq-eqb y y refl))) t.1 in
    omega arith

-- a set of numbers below m has at most m
set_below : (m : ℕ) (xs : List ℕ) → ((x : ℕ) → has x xs ≡ true → x < m) → rises xs ≡ true → length xs ≤ m
set_below m [] below r = omega arith
set_below m (x ∷ xs) below r = let h = rises_below m x xs (λ y e. below y (or_right (nat_eq y x) (has y xs) e))
    (below x (or_left (nat_eq x x) (has x xs) (eq-eqb x x refl))) r in omega arith

-- an id of a table is below 2^48
pub table_id : (c : Core) (x : ℕ) → IsSound c → lists (channel_of c x).table x ≡ true → x < 2 ^ 48
table_id c x s l = low (by (is_written c x) refl (ap (λ (o : Option Entity). is_some o) (sym (s.content.entity x l)) ∙ l))
  where
    by : (b : Bool) → is_written c x ≡ b → is_some (cond b (entity_of (open_records c.book) x) (entity_of (graph c.book) x)) ≡ true
        → is_good_id (2 ^ 48) x ≡ true
    by true w e = s.content.open_ids x e
    by false w e = s.content.graph_ids x e

    low : is_good_id (2 ^ 48) x ≡ true → x < 2 ^ 48
    low e = ⊎_elim (λ one. let t = eqb-true x 1 one in omega arith) (λ q. ltb-true x (2 ^ 48) (and_parts (nat_le 1024 x) (nat_lt x (2 ^ 48)) q).1)
        (or_cases (nat_eq x 1) (nat_le 1024 x && nat_lt x (2 ^ 48)) e)

grey_few : (c : Core) (j : ℕ) → IsSound c → j < length c.channels → length (channel_at c.channels j).grey ≤ 2 ^ 48
grey_few c j s l = set_below (2 ^ 48) (channel_at c.channels j).grey (λ x e. let t = (s.marks j).marked x ((s.marks j).grey x e) in
    table_id c x s (ap (λ (z : CoreChannel). lists z.table x) (home_channel c j x s.content l t) ∙ t)) (s.ordered.channels j).grey

greys_few : (m : ℕ) (cs : List CoreChannel) → ((j : ℕ) → j < length cs → length (channel_at cs j).grey ≤ m) → greys cs ≤ length cs * m
greys_few m [] each = omega arith
greys_few m (c ∷ cs) each = let h = greys_few m cs (λ j l. each (suc j) (omega arith)) in let t = each 0 (omega arith) in
    let more : suc (length cs) * m ≡ m + length cs * m = omega arith in omega arith

weights_few : (m : ℕ) (hs : List Hand) → ((a : ℕ) → weight (hand_at hs a) ≤ m) → weights hs ≤ length hs * m
weights_few m [] each = omega arith
weights_few m (h ∷ hs) each = let i = weights_few m hs (λ a. each (suc a)) in let t = each 0 in omega arith

-- pending is bounded by the numbers of channels and actors
pub pending_bound : (c : Core) → IsGood c → c.monitor.pending ≤ length c.channels * 2 ^ 48 + length c.hands * 2 ^ 33
pending_bound c good = let s = good.sound in let p = s.credit.pending in let g = greys_few (2 ^ 48) c.channels (λ j l. grey_few c j s l) in
    let w = weights_few (2 ^ 33) c.hands (λ a. (s.credit.hands a).sum) in omega arith

-- MARKED WHILE SWEEPING

-- what is kept on a channel that sweeps is marked there
kept_marked : (c : Core) (k b x : ℕ) (left : List ℕ) → IsGood c → k < length c.channels → (channel_at c.channels k).phase ≡ Sweeping b left
    → home (length c.channels) x ≡ k → is_kept c x ≡ true → has x (channel_at c.channels k).marked ≡ true
kept_marked c k b x left good here is at kept = let z = channel_at c.channels k in
    let closed = (subst (PhaseFits c.monitor.closed c.monitor.cycle) is (good.sound.phases.phase k here)).1 in
    let same : channel_of c x ≡ z = ap (channel_at c.channels) at in
    let t = (and_parts (lists z.table x) (not c.monitor.closed || (has x z.marked || is_idle_of c.monitor.cycle z.phase))
    (ap (λ (q : CoreChannel). kept_on c.monitor.closed c.monitor.cycle q x) (sym same) ∙ kept)).1 in
    let u : (has x z.marked || is_idle_of c.monitor.cycle z.phase) ≡ true = ap
    (λ (q : Bool). not q || (has x z.marked || is_idle_of c.monitor.cycle z.phase)) (sym closed) ∙ t in
    ⊎_elim (λ m. m) (λ i. let v : is_idle_of c.monitor.cycle z.phase ≡ false = ap (is_idle_of c.monitor.cycle) is in cc)
    (or_cases (has x z.marked) (is_idle_of c.monitor.cycle z.phase) u)

pub pinned_marked : (c : Core) (k b x : ℕ) (left : List ℕ) → IsGood c → k < length c.channels → (channel_at c.channels k).phase ≡ Sweeping b left
    → has x (channel_at c.channels k).pins ≡ true → has x (channel_at c.channels k).marked ≡ true
pinned_marked c k b x left good here is pin = kept_marked c k b x left good here is (good.sound.content.pins_home k x here pin)
    (good.sound.kept.pins x (pin_is_held c.channels k x pin))

-- so is what may be pinned there
pub holdable_marked : (c : Core) (k b x : ℕ) (left : List ℕ) → IsGood c → k < length c.channels → (channel_at c.channels k).phase ≡ Sweeping b left
    → may_hold (graph c.book) (held c.channels) x ≡ true
    → lists (channel_at c.channels k).table x ≡ true → has x (channel_at c.channels k).marked ≡ true
holdable_marked c k b x left good here is may l = let at = home_channel c k x good.sound.content here l in
    kept_marked c k b x left good here is (good.sound.content.table_home k x here l)
    (pinned_kept c x good.sound.content good.sound.kept may (ap (λ (z : CoreChannel). lists z.table x) at ∙ l))

-- CONTENT

-- with no store open a live id has the graph's entity in its table
pub live_entity : (c : Core) (x : ℕ) → IsGood c → c.book.opened ≡ None → IsLiveId c x → lists (graph c.book) x ≡ true
    → entity_of (channel_of c x).table x ≡ entity_of (graph c.book) x
live_entity c x good none r l = good.live.entity x r l ∙ shown_closed c good.sound.book none x

-- a channel that is done with a cycle above that from which the core is settled has exactly its ids of what is reached
pub settled_table : (b : ℕ) (c : Core) (j d : ℕ) → IsSettledFrom b c → (channel_at c.channels j).phase ≡ Idle d → b < d
    → (x : ℕ) → (lists (channel_at c.channels j).table x ≡ true) ↔ ((home (length c.channels) x ≡ j) × IsLiveId c x × (lists (graph c.book) x ≡ true))
settled_table b c j d s is l = subst (SettledChannel b c j) is (s.channels j) l
