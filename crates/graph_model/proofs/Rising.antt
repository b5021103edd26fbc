-- Lists by rising number stay so: sets of ids, and the ids of a graph.
use Rattle.std.proofs.Common.{◌≡◌, ◌≤◌, ◌<◌, ℕ, Bool, true, false, cond, not, ◌&&◌, List, [], ◌∷◌, refl, sym, ap, ◌∙◌, subst, arith}
use Rattle.std.specs.Prelude.{nat_eq, nat_lt}
use Rattle.std.specs.List.{filter}
use Rattle.std.proofs.lemmas.Bool.{and_from, and_parts, eqb-false, eqb-true, lt-ltb, ltb-false, ltb-true, or_parts}
use Rattle.graph_model.specs.declared.entity.Record.{Record}
use Rattle.graph_model.specs.Ids.{add, add_all, has, insert, remove, remove_all, rises, rises_from}
use Rattle.graph_model.specs.declared.entity.StoreOp.{StoreOp}
use Rattle.graph_model.specs.Graph.{Graph, after, ids, put, put_all, without}

apart : (x y : ℕ) → x ≤ y → (x ≡ y → ⊥) → x < y
apart x y l n = omega arith

lower : (b x : ℕ) (xs : List ℕ) → b < x → rises_from x xs ≡ true → rises_from b xs ≡ true
lower b x [] l r = refl
lower b x (y ∷ ys) l r = let t = and_parts (nat_lt x y) (rises_from y ys) r in let u = ltb-true x y t.0 in and_from (nat_lt b y) (rises_from y ys) (lt-ltb b y (omega arith)) t.1

rises_of : (b : ℕ) (xs : List ℕ) → rises_from b xs ≡ true → rises xs ≡ true
rises_of b [] r = refl
rises_of b (y ∷ ys) r = (and_parts (nat_lt b y) (rises_from y ys) r).1

insert_from : (b x : ℕ) (xs : List ℕ) → b < x → has x xs ≡ false → rises_from b xs ≡ true → rises_from b (insert x xs) ≡ true
insert_from b x [] l n r = and_from (nat_lt b x) true (lt-ltb b x l) refl
insert_from b x (y ∷ ys) l n r = let t = and_parts (nat_lt b y) (rises_from y ys) r in let m = or_parts (nat_eq x y) (has x ys) n in
    (elim (nat_lt y x) as (λ q. nat_lt y x ≡ q → rises_from b (cond q (y ∷ insert x ys) (x ∷ y ∷ ys)) ≡ true) [
      | true ↦ λ e. and_from (nat_lt b y) (rises_from y (insert x ys)) t.0 (insert_from y x ys (ltb-true y x e) m.1 t.1)
      | false ↦ λ e. let ge = ltb-false y x e in and_from (nat_lt b x) (nat_lt x y && rises_from y ys) (lt-ltb b x l) (and_from (nat_lt x y) (rises_from y ys) (lt-ltb x y (apart x y ge (eqb-false x y m.0))) t.1)
    ]) refl

pub rises_insert : (x : ℕ) (xs : List ℕ) → has x xs ≡ false → rises xs ≡ true → rises (insert x xs) ≡ true
rises_insert x [] n r = refl
rises_insert x (y ∷ ys) n r = let m = or_parts (nat_eq x y) (has x ys) n in
    (elim (nat_lt y x) as (λ q. nat_lt y x ≡ q → rises (cond q (y ∷ insert x ys) (x ∷ y ∷ ys)) ≡ true) [
      | true ↦ λ e. insert_from y x ys (ltb-true y x e) m.1 r
      | false ↦ λ e. let ge = ltb-false y x e in and_from (nat_lt x y) (rises_from y ys) (lt-ltb x y (apart x y ge (eqb-false x y m.0))) r
    ]) refl

pub rises_add : (x : ℕ) (xs : List ℕ) → rises xs ≡ true → rises (add x xs) ≡ true
rises_add x xs r = (elim (has x xs) as (λ q. has x xs ≡ q → rises (cond q xs (insert x xs)) ≡ true) [ true ↦ λ e. r | false ↦ λ e. rises_insert x xs e r ]) refl

pub rises_add_all : (xs ys : List ℕ) → rises ys ≡ true → rises (add_all xs ys) ≡ true
rises_add_all [] ys r = r
rises_add_all (x ∷ xs) ys r = rises_add x (add_all xs ys) (rises_add_all xs ys r)

remove_from : (b x : ℕ) (xs : List ℕ) → rises_from b xs ≡ true → rises_from b (remove x xs) ≡ true
remove_from b x [] r = r
remove_from b x (y ∷ ys) r = let t = and_parts (nat_lt b y) (rises_from y ys) r in elim (nat_eq x y) as (λ q. rises_from b (cond q ys (y ∷ remove x ys)) ≡ true) [
  | true ↦ lower b y ys (ltb-true b y t.0) t.1
  | false ↦ and_from (nat_lt b y) (rises_from y (remove x ys)) t.0 (remove_from y x ys t.1)
]

pub rises_remove : (x : ℕ) (xs : List ℕ) → rises xs ≡ true → rises (remove x xs) ≡ true
rises_remove x [] r = r
rises_remove x (y ∷ ys) r = elim (nat_eq x y) as (λ q. rises (cond q ys (y ∷ remove x ys)) ≡ true) [ true ↦ rises_of y ys r | false ↦ remove_from y x ys r ]

filter_from : (test : ℕ → Bool) (b : ℕ) (xs : List ℕ) → rises_from b xs ≡ true → rises_from b (filter test xs) ≡ true
filter_from test b [] r = r
filter_from test b (y ∷ ys) r = let t = and_parts (nat_lt b y) (rises_from y ys) r in elim (test y) as (λ q. rises_from b (cond q (y ∷ filter test ys) (filter test ys)) ≡ true) [
  | true ↦ and_from (nat_lt b y) (rises_from y (filter test ys)) t.0 (filter_from test y ys t.1)
  | false ↦ filter_from test b ys (lower b y ys (ltb-true b y t.0) t.1)
]

pub rises_remove_all : (xs ys : List ℕ) → rises ys ≡ true → rises (remove_all xs ys) ≡ true
rises_remove_all [] ys r = r
rises_remove_all (x ∷ xs) ys r = rises_remove x (remove_all xs ys) (rises_remove_all xs ys r)

pub rises_filter : (test : ℕ → Bool) (xs : List ℕ) → rises xs ≡ true → rises (filter test xs) ≡ true
rises_filter test [] r = r
rises_filter test (y ∷ ys) r = elim (test y) as (λ q. rises (cond q (y ∷ filter test ys) (filter test ys)) ≡ true) [ true ↦ filter_from test y ys r | false ↦ rises_filter test ys (rises_of y ys r) ]

-- TABLES

put_from : (b : ℕ) (r : Record) (g : Graph) → b < r.id → rises_from b (ids g) ≡ true → rises_from b (ids (put r g)) ≡ true
put_from b r [] l e = and_from (nat_lt b r.id) true (lt-ltb b r.id l) refl
put_from b r (s ∷ g) l e = let t = and_parts (nat_lt b s.id) (rises_from s.id (ids g)) e in
    (elim (nat_eq r.id s.id) as (λ q. nat_eq r.id s.id ≡ q → rises_from b (ids (cond q (r ∷ g) (cond (nat_lt s.id r.id) (s ∷ put r g) (r ∷ s ∷ g)))) ≡ true) [
      | true ↦ λ f. subst (λ (n : ℕ). (nat_lt b n && rises_from n (ids g)) ≡ true) (sym (eqb-true r.id s.id f)) e
      | false ↦ λ f. (elim (nat_lt s.id r.id) as (λ q. nat_lt s.id r.id ≡ q → rises_from b (ids (cond q (s ∷ put r g) (r ∷ s ∷ g))) ≡ true) [
        | true ↦ λ h. and_from (nat_lt b s.id) (rises_from s.id (ids (put r g))) t.0 (put_from s.id r g (ltb-true s.id r.id h) t.1)
        | false ↦ λ h. and_from (nat_lt b r.id) (nat_lt r.id s.id && rises_from s.id (ids g)) (lt-ltb b r.id l) (and_from (nat_lt r.id s.id) (rises_from s.id (ids g)) (lt-ltb r.id s.id (apart r.id s.id (ltb-false s.id r.id h) (eqb-false r.id s.id f))) t.1)
      ]) refl
    ]) refl

rises_put : (r : Record) (g : Graph) → rises (ids g) ≡ true → rises (ids (put r g)) ≡ true
rises_put r [] e = refl
rises_put r (s ∷ g) e = (elim (nat_eq r.id s.id) as (λ q. nat_eq r.id s.id ≡ q → rises (ids (cond q (r ∷ g) (cond (nat_lt s.id r.id) (s ∷ put r g) (r ∷ s ∷ g)))) ≡ true) [
  | true ↦ λ f. subst (λ (n : ℕ). rises_from n (ids g) ≡ true) (sym (eqb-true r.id s.id f)) e
  | false ↦ λ f. (elim (nat_lt s.id r.id) as (λ q. nat_lt s.id r.id ≡ q → rises (ids (cond q (s ∷ put r g) (r ∷ s ∷ g))) ≡ true) [
    | true ↦ λ h. put_from s.id r g (ltb-true s.id r.id h) e
    | false ↦ λ h. and_from (nat_lt r.id s.id) (rises_from s.id (ids g)) (lt-ltb r.id s.id (apart r.id s.id (ltb-false s.id r.id h) (eqb-false r.id s.id f))) e
  ]) refl
]) refl

pub rises_put_all : (rs : List Record) (g : Graph) → rises (ids g) ≡ true → rises (ids (put_all rs g)) ≡ true
rises_put_all [] g e = e
rises_put_all (r ∷ rs) g e = rises_put r (put_all rs g) (rises_put_all rs g e)

pub filter_ids : (test : ℕ → Bool) (g : Graph) → ids (filter (λ (r : Record). test r.id) g) ≡ filter test (ids g)
filter_ids test [] = refl
filter_ids test (r ∷ g) = elim (test r.id) as (λ q. ids (cond q (r ∷ filter (λ (s : Record). test s.id) g) (filter (λ (s : Record). test s.id) g)) ≡ cond q (r.id ∷ filter test (ids g)) (filter test (ids g))) [
  | true ↦ ap (λ (xs : List ℕ). r.id ∷ xs) (filter_ids test g)
  | false ↦ filter_ids test g
]

pub rises_without : (i : ℕ) (g : Graph) → rises (ids g) ≡ true → rises (ids (without i g)) ≡ true
rises_without i g e = ap rises (filter_ids (λ (x : ℕ). not (nat_eq x i)) g) ∙ rises_filter (λ (x : ℕ). not (nat_eq x i)) (ids g) e

pub rises_after : (g : Graph) (ops : List StoreOp) → rises (ids g) ≡ true → rises (ids (after g ops)) ≡ true
rises_after g [] e = e
rises_after g (op ∷ ops) e = rises_after (put_all op.records g) ops (rises_put_all op.records g e)
