-- The pinned ids of rows.
use Rattle.std.proofs.Common.{◌≡◌, ◌≤◌, ℕ, Bool, true, false, cond, ◌||◌, List, [], ◌∷◌, map, Option, Some, None, ◌⊎◌, inl, inr, refl, sym, ap, subst, ◌∙◌, arith}
use Rattle.std.specs.Prelude.{T, nat_eq, nat_lt}
use Rattle.std.specs.List.{filter}
use Rattle.std.specs.Ordering.{nat_cmp}
use Rattle.std.specs.Option.{option_map_or}
use Rattle.std.specs.FinMap.{FinMap, entries, entries_sorted, find, get, get-entries, insert, is_sorted}
use Rattle.std.specs.FinMap.Entries.{below_all}
use Rattle.std.proofs.lemmas.Bool.{and_from, and_parts, cases_eq, eq-eqb, eqb-true, ltb-true, ne_eqb, or_left}
use Rattle.graph_model.specs.Ids.{has, rises, rises_from, add, remove}
use Rattle.graph_model.specs.Graph.{entity_of, ids}
use Rattle.graph_model.specs.declared.entity.Entity.{Entity}
use Rattle.graph_model.specs.declared.entity.Record.{Record}
use Rattle.graph_model.proofs.Rising.{rises_add, rises_remove}
use Rattle.graph_model.proofs.IdSets.{has_add, has_other}
use Rattle.oid_table.specs.MapLaws.{get-insert_same, get-insert_other}
use Rattle.entity_index.specs.declared.row.Row.{Row}
use Rattle.entity_index.specs.Rows.{pinned, unpinned}
use Rattle.channel.specs.Core.{pins_in}
use Rattle.channel.specs.Stages.{ids_where}
use Rattle.channel.proofs.Tables.{T_left, T_right, first_below, key_test, less_test, others_sorted, same_table}

abbrev pub is_pinned : Row → Bool
is_pinned row = row.state.pinned

-- THE IDS

-- an id that is not above a bound has no row above it
find_low : (b x : ℕ) (es : List (ℕ × Row)) → x ≤ b → T (below_all nat_cmp b es) → find nat_cmp x es ≡ None
find_low b x [] at_most below = refl
find_low b x (e ∷ es) at_most below =
    let less = ltb-true b e.0 (less_test b e.0 (T_left _ _ below)) in
    ap (λ t. cond t (Some e.1) (find nat_cmp x es)) (key_test x e.0 ∙ ne_eqb x e.0 (λ same. omega arith)) ∙ find_low b x es at_most (T_right _ _ below)

-- the ids whose rows meet a test
module _ (test : Row → Bool) where
  abbrev pinned_of : List (ℕ × Row) → List (ℕ × Row)
  pinned_of es = filter (λ (e : ℕ × Row). test e.1) es

  abbrev keys_of : List (ℕ × Row) → List ℕ
  keys_of es = map (λ (e : ℕ × Row). e.0) es

  abbrev pins_of : List (ℕ × Row) → List ℕ
  pins_of es = keys_of (pinned_of es)

  -- the first row decides of its id, and of no other
  has_first : (e : ℕ × Row) (es : List (ℕ × Row)) (x : ℕ) → nat_eq x e.0 ≡ true → has x (pins_of es) ≡ false → has x (pins_of (e ∷ es)) ≡ test e.1
  has_first e es x is none = elim (test e.1) as (λ t. has x (keys_of (cond t (e ∷ pinned_of es) (pinned_of es))) ≡ t) [
    | true ↦ or_left _ _ is
    | false ↦ none
  ]

  has_later : (e : ℕ × Row) (es : List (ℕ × Row)) (x : ℕ) → nat_eq x e.0 ≡ false → has x (pins_of (e ∷ es)) ≡ has x (pins_of es)
  has_later e es x is = elim (test e.1) as (λ t. has x (keys_of (cond t (e ∷ pinned_of es) (pinned_of es))) ≡ has x (pins_of es)) [
    | true ↦ ap (λ t. t || has x (pins_of es)) is
    | false ↦ refl
  ]

  has_pins_of : (es : List (ℕ × Row)) (x : ℕ) → T (is_sorted nat_cmp es) → has x (pins_of es) ≡ option_map_or test (find nat_cmp x es) false
  has_pins_of [] x sorted = refl
  has_pins_of (e ∷ es) x sorted =
      let later = has_pins_of es x (others_sorted e es sorted) in
      (elim (nat_eq x e.0) as (λ t. nat_eq x e.0 ≡ t → has x (pins_of (e ∷ es)) ≡ option_map_or test (cond t (Some e.1) (find nat_cmp x es)) false) [
        | true ↦ λ is.
            let same = eqb-true x e.0 is in
            let absent : find nat_cmp x es ≡ None = find_low e.0 x es (omega arith) (first_below e es sorted) in
            has_first e es x is (later ∙ ap (λ (o : Option Row). option_map_or test o false) absent)
        | false ↦ λ is. has_later e es x is ∙ later
      ]) refl ∙ ap (λ t. option_map_or test (cond t (Some e.1) (find nat_cmp x es)) false) (sym (key_test x e.0))

  pub has_where : (rows : FinMap nat_cmp Row) (x : ℕ) → has x (ids_where test rows) ≡ option_map_or test (get rows x) false
  has_where rows x = has_pins_of (entries rows) x (entries_sorted rows) ∙ ap (λ (o : Option Row). option_map_or test o false) (sym (get-entries rows x))

  pins_above : (b : ℕ) (es : List (ℕ × Row)) → T (below_all nat_cmp b es) → T (is_sorted nat_cmp es) → rises_from b (pins_of es) ≡ true
  pins_above b [] below sorted = refl
  pins_above b (e ∷ es) below sorted =
      let later = pins_above e.0 es (first_below e es sorted) (others_sorted e es sorted) in
      let skipped = pins_above b es (T_right _ _ below) (others_sorted e es sorted) in
      elim (test e.1) as (λ t. rises_from b (keys_of (cond t (e ∷ pinned_of es) (pinned_of es))) ≡ true) [
        | true ↦ and_from _ _ (less_test b e.0 (T_left _ _ below)) later
        | false ↦ skipped
      ]

  pins_of_rise : (es : List (ℕ × Row)) → T (is_sorted nat_cmp es) → rises (pins_of es) ≡ true
  pins_of_rise [] sorted = refl
  pins_of_rise (e ∷ es) sorted =
      let later = pins_above e.0 es (first_below e es sorted) (others_sorted e es sorted) in
      let skipped = pins_of_rise es (others_sorted e es sorted) in
      elim (test e.1) as (λ t. rises (keys_of (cond t (e ∷ pinned_of es) (pinned_of es))) ≡ true) [
        | true ↦ later
        | false ↦ skipped
      ]

  pub where_rises : (rows : FinMap nat_cmp Row) → rises (ids_where test rows) ≡ true
  where_rises rows = pins_of_rise (entries rows) (entries_sorted rows)

pub has_pins : (rows : FinMap nat_cmp Row) (x : ℕ) → has x (pins_in rows) ≡ option_map_or is_pinned (get rows x) false
has_pins rows x = has_where is_pinned rows x

pub pins_rise : (rows : FinMap nat_cmp Row) → rises (pins_in rows) ≡ true
pins_rise rows = where_rises is_pinned rows

-- SETS

-- a table that has one entity under each id of a set
abbrev as_table : Entity → List ℕ → List Record
as_table e xs = map (λ (x : ℕ). record { id = x; entity = e }) xs

ids_as_table : (e : Entity) (xs : List ℕ) → ids (as_table e xs) ≡ xs
ids_as_table e [] = refl
ids_as_table e (x ∷ xs) = λ i. x ∷ ids_as_table e xs i

entity_as_table : (e : Entity) (xs : List ℕ) (x : ℕ) → entity_of (as_table e xs) x ≡ cond (has x xs) (Some e) None
entity_as_table e [] x = refl
entity_as_table e (y ∷ ys) x = let later = entity_as_table e ys x in
    elim (nat_eq x y) as (λ t. cond t (Some e) (entity_of (as_table e ys) x) ≡ cond (t || has x ys) (Some e) None) [ true ↦ refl | false ↦ later ]

-- sets that have the same ids are one
pub same_set : (xs ys : List ℕ) → rises xs ≡ true → rises ys ≡ true → ((x : ℕ) → has x xs ≡ has x ys) → xs ≡ ys
same_set xs ys xs_rise ys_rise same =
    let e : Entity = record { type_id = 0; refs = []; plain = [] } in
    let tables = same_table (as_table e xs) (as_table e ys) (ap rises (ids_as_table e xs) ∙ xs_rise) (ap rises (ids_as_table e ys) ∙ ys_rise)
    (λ x. entity_as_table e xs x ∙ (ap (λ t. cond t (Some e) None) (same x) ∙ sym (entity_as_table e ys x))) in
    sym (ids_as_table e xs) ∙ (ap ids tables ∙ ids_as_table e ys)

-- an id that is taken out of a set is not in it
not_above : (b x : ℕ) (xs : List ℕ) → x ≤ b → rises_from b xs ≡ true → has x xs ≡ false
not_above b x [] at_most above = refl
not_above b x (y ∷ ys) at_most above =
    let parts = and_parts (nat_lt b y) (rises_from y ys) above in
    let less = ltb-true b y parts.0 in
    ap (λ t. t || has x ys) (ne_eqb x y (λ same. omega arith)) ∙ not_above y x ys (omega arith) parts.1

removed_from : (b x : ℕ) (xs : List ℕ) → rises_from b xs ≡ true → has x (remove x xs) ≡ false
removed_from b x [] above = refl
removed_from b x (y ∷ ys) above =
    let parts = and_parts (nat_lt b y) (rises_from y ys) above in
    (elim (nat_eq x y) as (λ t. nat_eq x y ≡ t → has x (cond t ys (y ∷ remove x ys)) ≡ false) [
      | true ↦ λ is. let same = eqb-true x y is in not_above y x ys (omega arith) parts.1
      | false ↦ λ is. ap (λ t. t || has x (remove x ys)) is ∙ removed_from y x ys parts.1
    ]) refl

pub has_removed : (x : ℕ) (xs : List ℕ) → rises xs ≡ true → has x (remove x xs) ≡ false
has_removed x [] rise = refl
has_removed x (y ∷ ys) rise =
    (elim (nat_eq x y) as (λ t. nat_eq x y ≡ t → has x (cond t ys (y ∷ remove x ys)) ≡ false) [
      | true ↦ λ is. let same = eqb-true x y is in not_above y x ys (omega arith) rise
      | false ↦ λ is. ap (λ t. t || has x (remove x ys)) is ∙ removed_from y x ys rise
    ]) refl

-- PINS THAT CHANGE

has_pinned : (rows : FinMap nat_cmp Row) (id : ℕ) (row : Row) (x : ℕ) → has x (pins_in (insert rows id (pinned row))) ≡ has x (add id (pins_in rows))
has_pinned rows id row x = has_pins (insert rows id (pinned row)) x ∙ (by (cases_eq x id) ∙ sym (has_add x id (pins_in rows)))
  where
    by : (x ≡ id) ⊎ (x ≡ id → ⊥) → option_map_or is_pinned (get (insert rows id (pinned row)) x) false ≡ (nat_eq x id || has x (pins_in rows))
    by (inl same) = ap (λ (y : ℕ). option_map_or is_pinned (get (insert rows id (pinned row)) y) false) same
        ∙ (ap (λ (o : Option Row). option_map_or is_pinned o false) (get-insert_same rows id (pinned row)) ∙ sym (or_left _ _ (eq-eqb x id same)))
    by (inr differs) = ap (λ (o : Option Row). option_map_or is_pinned o false) (get-insert_other rows id (pinned row) x differs)
        ∙ (sym (has_pins rows x) ∙ ap (λ t. t || has x (pins_in rows)) (sym (ne_eqb x id differs)))

pub pins_pinned : (rows : FinMap nat_cmp Row) (id : ℕ) (row : Row) → get rows id ≡ Some row → pins_in (insert rows id (pinned row)) ≡ add id (pins_in rows)
pins_pinned rows id row is = same_set _ _ (pins_rise (insert rows id (pinned row))) (rises_add id (pins_in rows) (pins_rise rows)) (has_pinned rows id row)

has_unpinned : (rows : FinMap nat_cmp Row) (id : ℕ) (row : Row) (x : ℕ) → has x (pins_in (insert rows id (unpinned row))) ≡ has x (remove id (pins_in rows))
has_unpinned rows id row x = has_pins (insert rows id (unpinned row)) x ∙ by (cases_eq x id)
  where
    by : (x ≡ id) ⊎ (x ≡ id → ⊥) → option_map_or is_pinned (get (insert rows id (unpinned row)) x) false ≡ has x (remove id (pins_in rows))
    by (inl same) = ap (λ (y : ℕ). option_map_or is_pinned (get (insert rows id (unpinned row)) y) false) same
        ∙ (ap (λ (o : Option Row). option_map_or is_pinned o false) (get-insert_same rows id (unpinned row))
        ∙ (sym (has_removed id (pins_in rows) (pins_rise rows)) ∙ ap (λ (y : ℕ). has y (remove id (pins_in rows))) (sym same)))
    by (inr differs) = ap (λ (o : Option Row). option_map_or is_pinned o false) (get-insert_other rows id (unpinned row) x differs)
        ∙ (sym (has_pins rows x) ∙ sym (has_other x id (pins_in rows) (ne_eqb x id differs)))

pub pins_unpinned : (rows : FinMap nat_cmp Row) (id : ℕ) (row : Row) → get rows id ≡ Some row → pins_in (insert rows id (unpinned row)) ≡ remove id (pins_in rows)
pins_unpinned rows id row is = same_set _ _ (pins_rise (insert rows id (unpinned row))) (rises_remove id (pins_in rows) (pins_rise rows)) (has_unpinned rows id row)

-- an id that has no row is not pinned
has_absent : (rows : FinMap nat_cmp Row) (id : ℕ) → get rows id ≡ None → (x : ℕ) → has x (pins_in rows) ≡ has x (remove id (pins_in rows))
has_absent rows id is x = by (cases_eq x id)
  where
    by : (x ≡ id) ⊎ (x ≡ id → ⊥) → has x (pins_in rows) ≡ has x (remove id (pins_in rows))
    by (inl same) = subst (λ (y : ℕ). has y (pins_in rows) ≡ has y (remove id (pins_in rows))) (sym same)
        (has_pins rows id ∙ (ap (λ (o : Option Row). option_map_or is_pinned o false) is ∙ sym (has_removed id (pins_in rows) (pins_rise rows))))
    by (inr differs) = sym (has_other x id (pins_in rows) (ne_eqb x id differs))

pub pins_absent : (rows : FinMap nat_cmp Row) (id : ℕ) → get rows id ≡ None → pins_in rows ≡ remove id (pins_in rows)
pins_absent rows id is = same_set _ _ (pins_rise rows) (rises_remove id (pins_in rows) (pins_rise rows)) (has_absent rows id is)
