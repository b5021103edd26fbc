-- Look-ups in graphs after a change; walks stay within a closed set.
use Rattle.std.proofs.Common.{◌≡◌, ℕ, Bool, true, false, cond, ◌||◌, List, [], ◌∷◌, ◌++◌, Option, Some, None, refl, sym, ap, ◌∙◌, subst}
use Rattle.std.specs.Prelude.{nat_eq, nat_lt, is_some}
use Rattle.std.specs.List.{filter}
use Rattle.std.proofs.lemmas.Bool.{eqb-true, eq-eqb}
use Rattle.graph_model.specs.Ids.{has}
use Rattle.graph_model.specs.declared.entity.Entity.{Entity}
use Rattle.graph_model.specs.declared.entity.Record.{Record}
use Rattle.graph_model.specs.declared.entity.StoreOp.{StoreOp}
use Rattle.graph_model.specs.Graph.{Graph, entity_of, lists, ids, put, put_all, after, has_edge, or_else, last_stored, IsWalk, end_of, IsReached}

pub entity_of_put : (r : Record) (g : Graph) (x : ℕ) → entity_of (put r g) x ≡ cond (nat_eq x r.id) (Some r.entity) (entity_of g x)
entity_of_put r [] x = refl
entity_of_put r (s ∷ g) x = (elim (nat_eq r.id s.id) as (λ b. nat_eq r.id s.id ≡ b → entity_of (cond b (r ∷ g) (cond (nat_lt s.id r.id) (s ∷ put r g) (r ∷ s ∷ g))) x ≡ cond (nat_eq x r.id) (Some r.entity) (cond (nat_eq x s.id) (Some s.entity) (entity_of g x))) [
  | true ↦ λ e. let same : r.id ≡ s.id = eqb-true r.id s.id e in
      (elim (nat_eq x r.id) as (λ b. nat_eq x r.id ≡ b → cond b (Some r.entity) (entity_of g x) ≡ cond b (Some r.entity) (cond (nat_eq x s.id) (Some s.entity) (entity_of g x))) [
        | true ↦ λ f. refl
        | false ↦ λ f. let g' : nat_eq x s.id ≡ false = subst (λ (y : ℕ). nat_eq x y ≡ false) same f in ap (λ (b : Bool). cond b (Some s.entity) (entity_of g x)) (sym g')
      ]) refl
  | false ↦ λ e. elim (nat_lt s.id r.id) as (λ b. entity_of (cond b (s ∷ put r g) (r ∷ s ∷ g)) x ≡ cond (nat_eq x r.id) (Some r.entity) (cond (nat_eq x s.id) (Some s.entity) (entity_of g x))) [
    | true ↦ ap (λ (o : Option Entity). cond (nat_eq x s.id) (Some s.entity) o) (entity_of_put r g x) ∙ apart x r.id s.id e (Some r.entity) (Some s.entity) (entity_of g x)
    | false ↦ refl
  ]
]) refl
  where
    apart : (x i j : ℕ) → nat_eq i j ≡ false → (a b c : Option Entity) → cond (nat_eq x j) b (cond (nat_eq x i) a c) ≡ cond (nat_eq x i) a (cond (nat_eq x j) b c)
    apart x i j n a b c = (elim (nat_eq x j) as (λ t. nat_eq x j ≡ t → cond t b (cond (nat_eq x i) a c) ≡ cond (nat_eq x i) a (cond t b c)) [
      | true ↦ λ e. (elim (nat_eq x i) as (λ t. nat_eq x i ≡ t → b ≡ cond t a b) [
        | true ↦ λ f. let p : x ≡ j = eqb-true x j e in let q : x ≡ i = eqb-true x i f in let t : nat_eq i j ≡ true = eq-eqb i j (sym q ∙ p) in cc
        | false ↦ λ f. refl
      ]) refl
      | false ↦ λ e. refl
    ]) refl

pub entity_of_put_all : (rs : List Record) (g : Graph) (x : ℕ) → entity_of (put_all rs g) x ≡ or_else (entity_of rs x) (entity_of g x)
entity_of_put_all [] g x = refl
entity_of_put_all (r ∷ rs) g x = entity_of_put r (put_all rs g) x
    ∙ (elim (nat_eq x r.id) as (λ b. cond b (Some r.entity) (entity_of (put_all rs g) x) ≡ or_else (cond b (Some r.entity) (entity_of rs x)) (entity_of g x)) [ true ↦ refl | false ↦ entity_of_put_all rs g x ])

pub lists_put_all : (rs : List Record) (g : Graph) (x : ℕ) → lists (put_all rs g) x ≡ (lists rs x || lists g x)
lists_put_all rs g x = ap (λ (o : Option Entity). is_some o) (entity_of_put_all rs g x) ∙ (elim (entity_of rs x) as (λ o. is_some (or_else o (entity_of g x)) ≡ (is_some o || lists g x)) [ None ↦ refl | Some e ↦ refl ])

-- an id that a part of the records lists: those that a test of ids passes
pub entity_of_filter : (test : ℕ → Bool) (g : Graph) (x : ℕ) → entity_of (filter (λ (r : Record). test r.id) g) x ≡ cond (test x) (entity_of g x) None
entity_of_filter test [] x = elim (test x) as (λ b. ◌≡◌ {A = Option Entity} None (cond b None None)) [ true ↦ refl | false ↦ refl ]
entity_of_filter test (r ∷ g) x = let ih = entity_of_filter test g x in
    (elim (nat_eq x r.id) as (λ t. nat_eq x r.id ≡ t → entity_of (cond (test r.id) (r ∷ filter (λ (r : Record). test r.id) g) (filter (λ (r : Record). test r.id) g)) x ≡ cond (test x) (cond t (Some r.entity) (entity_of g x)) None) [
      | true ↦ λ e. let same : x ≡ r.id = eqb-true x r.id e in subst (λ (y : ℕ). entity_of (cond (test y) (r ∷ filter (λ (r : Record). test r.id) g) (filter (λ (r : Record). test r.id) g)) x ≡ cond (test x) (Some r.entity) None) same
          ((elim (test x) as (λ b. test x ≡ b → entity_of (cond b (r ∷ filter (λ (r : Record). test r.id) g) (filter (λ (r : Record). test r.id) g)) x ≡ cond b (Some r.entity) None) [
            | true ↦ λ f. ap (λ (b : Bool). cond b (Some r.entity) (entity_of (filter (λ (r : Record). test r.id) g) x)) e
            | false ↦ λ f. ih ∙ ap (λ (b : Bool). cond b (entity_of g x) None) f
          ]) refl)
      | false ↦ λ e. (elim (test r.id) as (λ b. entity_of (cond b (r ∷ filter (λ (r : Record). test r.id) g) (filter (λ (r : Record). test r.id) g)) x ≡ cond (test x) (entity_of g x) None) [
        | true ↦ ap (λ (b : Bool). cond b (Some r.entity) (entity_of (filter (λ (r : Record). test r.id) g) x)) e ∙ ih
        | false ↦ ih
      ])
    ]) refl

pub has_ids : (g : Graph) (x : ℕ) → has x (ids g) ≡ lists g x
has_ids [] x = refl
has_ids (r ∷ g) x = elim (nat_eq x r.id) as (λ b. (b || has x (ids g)) ≡ is_some (cond b (Some r.entity) (entity_of g x))) [ true ↦ refl | false ↦ has_ids g x ]

pub after_append : (g : Graph) (ops : List StoreOp) (op : StoreOp) → after g (ops ++ op ∷ []) ≡ put_all op.records (after g ops)
after_append g [] op = refl
after_append g (o ∷ ops) op = after_append (put_all o.records g) ops op

-- what holds of the starts and along each edge holds of all that is reached
walks_stay : (g : Graph) (P : ℕ → Type 0) → ((x y : ℕ) → P x → has_edge g x y ≡ true → P y) → (x : ℕ) (ys : List ℕ) → P x → IsWalk g x ys → P (end_of x ys)
walks_stay g P along x [] p w = p
walks_stay g P along x (y ∷ ys) p w = walks_stay g P along y ys (along x y p w.0) w.1

pub reached_stay : (g : Graph) (starts : List ℕ) (P : ℕ → Type 0) → ((x : ℕ) → has x starts ≡ true → P x) → ((x y : ℕ) → P x → has_edge g x y ≡ true → P y) → (x : ℕ) → IsReached g starts x → P x
reached_stay g starts P begin along x r = subst P r.ends (walks_stay g P along r.from r.path (begin r.from r.is_start) r.walks)

pub put_all_last : (rs : List Record) (r : Record) (g : Graph) → put_all (rs ++ r ∷ []) g ≡ put_all rs (put r g)
put_all_last [] r g = refl
put_all_last (s ∷ rs) r g = ap (λ (h : Graph). put s h) (put_all_last rs r g)

or_else_assoc : (a b c : Option Entity) → or_else a (or_else b c) ≡ or_else (or_else a b) c
or_else_assoc None b c = refl
or_else_assoc (Some e) b c = refl

pub entity_of_after : (g : Graph) (ops : List StoreOp) (x : ℕ) → entity_of (after g ops) x ≡ or_else (last_stored ops x) (entity_of g x)
entity_of_after g [] x = refl
entity_of_after g (op ∷ ops) x = entity_of_after (put_all op.records g) ops x
    ∙ (ap (λ (o : Option Entity). or_else (last_stored ops x) o) (entity_of_put_all op.records g x) ∙ or_else_assoc (last_stored ops x) (entity_of op.records x) (entity_of g x))

-- an edge leads on from what is reached
walk_on : (g : Graph) (x y z : ℕ) (ys : List ℕ) → IsWalk g x ys → end_of x ys ≡ y → has_edge g y z ≡ true → IsWalk g x (ys ++ z ∷ []) × (end_of x (ys ++ z ∷ []) ≡ z)
walk_on g x y z [] w e h = ((subst (λ (q : ℕ). has_edge g q z ≡ true) (sym e) h, tt), refl)
walk_on g x y z (w0 ∷ ys) w e h = let t = walk_on g w0 y z ys w.1 e h in ((w.0, t.0), t.1)

pub reached_on : (g : Graph) (starts : List ℕ) (y z : ℕ) → IsReached g starts y → has_edge g y z ≡ true → IsReached g starts z
reached_on g starts y z r h = let t = walk_on g r.from y z r.path r.walks r.ends h in record { from = r.from; is_start = r.is_start; path = r.path ++ z ∷ []; walks = t.0; ends = t.1 }

pub reached_start : (g : Graph) (starts : List ℕ) (x : ℕ) → has x starts ≡ true → IsReached g starts x
reached_start g starts x h = record { from = x; is_start = h; path = []; walks = tt; ends = refl }
