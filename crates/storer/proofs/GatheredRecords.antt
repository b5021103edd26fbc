-- The records of gathered ids, by id, are those of the instances that were gathered.
use Rattle.std.proofs.Common.{◌≡◌, ℕ, ◌<◌, Bool, true, false, cond, ◌||◌, map, List, [], ◌∷◌, ◌++◌, length, None, refl, sym, ap, ◌∙◌, subst, append-nil, append_assoc, arith}
use Rattle.std.specs.Prelude.{nat_eq}
use Rattle.std.specs.List.{filter}
use Rattle.std.proofs.lemmas.Bool.{eq-eqb, ne_eqb, false_from_ne_true}
use Rattle.graph_model.specs.Ids.{has, rises, rises_from}
use Rattle.graph_model.specs.declared.entity.Record.{Record}
use Rattle.entity_form.specs.Values.{entity_of}
use Rattle.session_model.specs.Instances.{Instances, Held, instance_at}
use Rattle.session_model.specs.Answer.{gathered_records}
use Rattle.session_model.proofs.SameIds.{above_first, rises-tail}
use Rattle.object_registry.specs.Registered.{instance_ids}
use Rattle.object_registry.proofs.Numbers.{Compared, Below, Same, Above, compared}
use Rattle.session_model.proofs.Reached.{reached-rises}
use Rattle.storer.specs.declared.gathering.Gathering.{Gathering}
use Rattle.storer.specs.Gathered.{gathered_ids, gathering_graph, records_at, records_of}

pub records_at-last : (is : Instances) (ids : List ℕ) (id : ℕ) → records_at is (ids ++ id ∷ []) ≡ records_at is ids ++ records_of id (instance_at is id)
records_at-last is [] id = append-nil (records_of id (instance_at is id))
records_at-last is (x ∷ ids) id = ap (λ (rs : List Record). records_of x (instance_at is x) ++ rs) (records_at-last is ids id) ∙ sym (append_assoc (records_of x (instance_at is x)) (records_at is ids) (records_of id (instance_at is id)))

pub records_at-append : (is : Instances) (xs ys : List ℕ) → records_at is (xs ++ ys) ≡ records_at is xs ++ records_at is ys
records_at-append is [] ys = refl
records_at-append is (x ∷ xs) ys = ap (λ (rs : List Record). records_of x (instance_at is x) ++ rs) (records_at-append is xs ys) ∙ sym (append_assoc (records_of x (instance_at is x)) (records_at is xs) (records_at is ys))

abbrev record_in : Held → Record
record_in h = record { id = h.id; entity = entity_of h.instance.object }

-- the records of the instances that a test of ids passes
abbrev tested : (ℕ → Bool) → Instances → List Record
tested test is = map record_in (filter (λ (h : Held). test h.id) is)

tested-none : (test : ℕ → Bool) (is : Instances) → ((x : ℕ) → has x (instance_ids is) ≡ true → test x ≡ false) → tested test is ≡ []
tested-none test [] fails = refl
tested-none test (h ∷ is) fails =
    let first : test h.id ≡ false = fails h.id (rw (eq-eqb h.id h.id refl) refl) in
    rw first (tested-none test is (λ x t. fails x (later x t)))
  where
    later : (x : ℕ) → has x (instance_ids is) ≡ true → (nat_eq x h.id || has x (instance_ids is)) ≡ true
    later x t = elim (nat_eq x h.id) as (λ b. (b || has x (instance_ids is)) ≡ true) [ true ↦ refl | false ↦ t ]

tested-same : (test other : ℕ → Bool) (is : Instances) → ((x : ℕ) → has x (instance_ids is) ≡ true → test x ≡ other x) → tested test is ≡ tested other is
tested-same test other [] same = refl
tested-same test other (h ∷ is) same =
    let first : test h.id ≡ other h.id = same h.id (rw (eq-eqb h.id h.id refl) refl) in
    rw first (by (other h.id) (tested-same test other is (λ x t. same x (later x t))))
  where
    later : (x : ℕ) → has x (instance_ids is) ≡ true → (nat_eq x h.id || has x (instance_ids is)) ≡ true
    later x t = elim (nat_eq x h.id) as (λ b. (b || has x (instance_ids is)) ≡ true) [ true ↦ refl | false ↦ t ]

    by : (b : Bool) → tested test is ≡ tested other is → map record_in (cond b (h ∷ filter (λ (h : Held). test h.id) is) (filter (λ (h : Held). test h.id) is)) ≡ map record_in (cond b (h ∷ filter (λ (h : Held). other h.id) is) (filter (λ (h : Held). other h.id) is))
    by true e = ap (λ (rs : List Record). record_in h ∷ rs) e
    by false e = e

absent_at : (is : Instances) (x : ℕ) → has x (instance_ids is) ≡ false → instance_at is x ≡ None
absent_at [] x none = refl
absent_at (h ∷ is) x none = by (compared x h.id) none (absent_at is x)
  where
    by : Compared x h.id → (nat_eq x h.id || has x (instance_ids is)) ≡ false → (has x (instance_ids is) ≡ false → instance_at is x ≡ None) → instance_at (h ∷ is) x ≡ None
    by (Below l c a b d f) none ih = rw f (ih (rw d at none))
    by (Same l c a b d f) none ih = absurd (let t = rw d at none in cc)
    by (Above l c a b d f) none ih = rw f (ih (rw d at none))

above_all : (x y : ℕ) (xs : List ℕ) → rises_from x xs ≡ true → has y xs ≡ true → nat_eq y x ≡ false
above_all x y xs r h = ne_eqb y x (λ e. let l = above_first x y xs r h in absurd (omega arith))

-- the instances of one id and of some greater ones
one_in_front : (is : Instances) (k : ℕ) (ks : List ℕ) → rises (instance_ids is) ≡ true → rises_from k ks ≡ true
    → tested (λ x. nat_eq x k || has x ks) is ≡ records_of k (instance_at is k) ++ tested (λ x. has x ks) is
one_in_front [] k ks r s = refl
one_in_front (h ∷ is) k ks r s = by (compared k h.id) (has h.id ks) refl (one_in_front is k ks (rises-tail h.id (instance_ids is) r) s)
  where
    behind : has h.id (instance_ids is) ≡ false
    behind = false_from_ne_true (has h.id (instance_ids is)) (λ t. let l = above_first h.id h.id (instance_ids is) r t in absurd (omega arith))

    by : Compared k h.id → (b : Bool) → has h.id ks ≡ b → tested (λ x. nat_eq x k || has x ks) is ≡ records_of k (instance_at is k) ++ tested (λ x. has x ks) is
        → tested (λ x. nat_eq x k || has x ks) (h ∷ is) ≡ records_of k (instance_at (h ∷ is) k) ++ tested (λ x. has x ks) (h ∷ is)
    by (Same l c a b d f) t e ih =
        let gone : has h.id ks ≡ false = subst (λ (y : ℕ). has y ks ≡ false) l (false_from_ne_true (has k ks) (λ h. let m = above_first k k ks s h in absurd (omega arith))) in
        let rest : tested (λ x. nat_eq x k || has x ks) is ≡ tested (λ x. has x ks) is =
        tested-same (λ x. nat_eq x k || has x ks) (λ x. has x ks) is (λ x there. let apart = above_all h.id x (instance_ids is) r there in let apart' : nat_eq x k ≡ false = subst (λ (y : ℕ). nat_eq x y ≡ false) (sym l) apart in rw apart' refl) in
        rw (f, gone, rest) (ap (λ (y : ℕ). record { id = y; entity = entity_of h.instance.object } ∷ tested (λ x. has x ks) is) (sym l))
    by (Below l c a b d f) true e ih =
        let none : instance_at is k ≡ None = absent_at is k (false_from_ne_true (has k (instance_ids is)) (λ t. let m = above_first h.id k (instance_ids is) r t in absurd (omega arith))) in
        rw (f, e, none) (ap (λ (rs : List Record). record_in h ∷ rs) (rw none at ih))
    by (Below l c a b d f) false e ih = rw (f, e) ih
    by (Above l c a b d f) true e ih = let m = above_first k h.id ks s e in absurd (omega arith)
    by (Above l c a b d f) false e ih = rw (f, e) ih

pub records-gathered : (is : Instances) (ids : List ℕ) → rises (instance_ids is) ≡ true → rises ids ≡ true → records_at is ids ≡ gathered_records is ids
records-gathered is [] r s = sym (tested-none (λ x. false) is (λ x t. refl))
records-gathered is (k ∷ ks) r s =
    ap (λ (rs : List Record). records_of k (instance_at is k) ++ rs) (records-gathered is ks r (rises-tail k ks s)) ∙ sym (one_in_front is k ks r s)

-- also where the order of the instances is known only if some id was gathered
pub records-gathered_some : (is : Instances) (ids : List ℕ) → (0 < length ids → rises (instance_ids is) ≡ true) → rises ids ≡ true → records_at is ids ≡ gathered_records is ids
records-gathered_some is [] r s = sym (tested-none (λ x. false) is (λ x t. refl))
records-gathered_some is (k ∷ ks) r s = records-gathered is (k ∷ ks) (r (omega arith)) s

-- the records of the ids that the walk gave
pub records-walked : (gathering : Gathering) (is : Instances) (start : ℕ) (ids : List ℕ) → ids ≡ gathered_ids gathering is start → (0 < length ids → rises (instance_ids is) ≡ true)
    → records_at is ids ≡ gathered_records is (gathered_ids gathering is start)
records-walked gathering is start ids found r =
    records-gathered_some is ids r (ap rises found ∙ reached-rises (gathering_graph gathering is) (start ∷ [])) ∙ ap (gathered_records is) found
