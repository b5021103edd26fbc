-- Records of rising ids, put one after another, or the last first: the graph is the same.
use Rattle.std.proofs.Common.{◌≡◌, ℕ, ◌<◌, true, List, [], ◌∷◌, refl, sym, ap, ◌∙◌, arith}
use Rattle.std.specs.Prelude.{nat_lt}
use Rattle.std.proofs.lemmas.Bool.{and_from, and_parts, ltb-true, lt-ltb, le-ltb, ne_eqb}
use Rattle.graph_model.specs.Graph.{Graph, ids, put, put_all}
use Rattle.graph_model.specs.Ids.{rises, rises_from}
use Rattle.graph_model.specs.declared.entity.Record.{Record}
use Rattle.plain_storage.specs.Reading.{put_each}
use Rattle.plain_storage.proofs.TreeEntries.{Below, Same, Above, compared}

-- the order in which two records of different ids are put does not matter
pub put_swap : (r s : Record) (g : Graph) → r.id < s.id → put r (put s g) ≡ put s (put r g)
put_swap r s [] l =
    let a = ne_eqb r.id s.id (λ e. omega arith) in let b = ne_eqb s.id r.id (λ e. omega arith) in let c = lt-ltb r.id s.id l in let d = le-ltb s.id r.id (omega arith) in
    rw (a, b, c, d) refl
put_swap r s (t ∷ g) l =
    let ih = put_swap r s g l in
    let a = ne_eqb r.id s.id (λ e. omega arith) in let b = ne_eqb s.id r.id (λ e. omega arith) in let c = lt-ltb r.id s.id l in let d = le-ltb s.id r.id (omega arith) in
    elim (compared r.id t.id) [
      | Below m e f h i ↦ elim (compared s.id t.id) [
        | Below m' e' f' h' i' ↦ simp (h, i, h', i', a, b, c, d) refl
        | Same m' e' f' h' i' ↦ simp (h, i, h', i', a, b, c, d) refl
        | Above m' e' f' h' i' ↦ simp (h, i, h', i', b, c) refl
      ]
      | Same m e f h i ↦ let p = lt-ltb t.id s.id (omega arith) in let q = ne_eqb s.id t.id (λ e. omega arith) in simp (h, i, p, q, b, c) refl
      | Above m e f h i ↦ let p = lt-ltb t.id s.id (omega arith) in let q = ne_eqb s.id t.id (λ e. omega arith) in simp (h, i, p, q) (ap (λ (k : Graph). t ∷ k) ih)
    ]

pub rises_from-lower : (x y : ℕ) (xs : List ℕ) → x < y → rises_from y xs ≡ true → rises_from x xs ≡ true
rises_from-lower x y [] l e = refl
rises_from-lower x y (z ∷ xs) l e =
    let t = and_parts (nat_lt y z) (rises_from z xs) e in let m = ltb-true y z t.0 in
    and_from (nat_lt x z) (rises_from z xs) (lt-ltb x z (omega arith)) t.1

pub rises_from-rises : (x : ℕ) (xs : List ℕ) → rises_from x xs ≡ true → rises xs ≡ true
rises_from-rises x [] e = refl
rises_from-rises x (y ∷ xs) e = (and_parts (nat_lt x y) (rises_from y xs) e).1

put_past : (r : Record) (rs : List Record) (g : Graph) → rises_from r.id (ids rs) ≡ true → put_all rs (put r g) ≡ put r (put_all rs g)
put_past r [] g e = refl
put_past r (s ∷ rs) g e =
    let t = and_parts (nat_lt r.id s.id) (rises_from s.id (ids rs)) e in
    let l = ltb-true r.id s.id t.0 in
    ap (λ (k : Graph). put s k) (put_past r rs g (rises_from-lower r.id s.id (ids rs) l t.1)) ∙ sym (put_swap r s (put_all rs g) l)

pub put_all_in_order : (rs : List Record) (g : Graph) → rises (ids rs) ≡ true → put_each rs g ≡ put_all rs g
put_all_in_order [] g e = refl
put_all_in_order (r ∷ rs) g e = put_all_in_order rs (put r g) (rises_from-rises r.id (ids rs) e) ∙ put_past r rs g e
