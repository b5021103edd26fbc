-- The table that rows give.
use Rattle.std.proofs.Common.{◌≡◌, ◌≤◌, ℕ, Bool, true, false, cond, ◌&&◌, List, [], ◌∷◌, length, map, Option, Some, None, option_map, inl, inr, refl, sym, ap, subst, ◌∙◌, arith}
use Rattle.std.specs.Prelude.{T, nat_eq, nat_lt}
use Rattle.std.specs.Ordering.{nat_cmp, eq_by_cmp, is_lt}
use Rattle.std.specs.FinMap.{FinMap, entries, entries_sorted, find, get, get-entries, insert, is_sorted, len, len-entries}
use Rattle.std.specs.FinMap.Entries.{below_all}
use Rattle.std.proofs.lemmas.Bool.{and_from, and_parts, cases_eq, cases_order, eq-eqb, ltb-true, lt-ltb, ne_eqb}
use Rattle.std.proofs.lemmas.Bool.Decides.{nat_tests}
use Rattle.std.proofs.lemmas.List.{length-map}
use Rattle.graph_model.specs.Ids.{rises, rises_from}
use Rattle.graph_model.specs.Graph.{entity_of, ids}
use Rattle.graph_model.specs.declared.entity.Entity.{Entity}
use Rattle.graph_model.specs.declared.entity.Record.{Record}
use Rattle.oid_table.specs.MapLaws.{same_key, other_key, get-insert_same, get-insert_other}
use Rattle.entity_index.specs.declared.row.Row.{Row}
use Rattle.channel.specs.Entities.{entity_in}
use Rattle.channel.specs.Core.{bytes_at, record_at, table_in}

-- the entity under a row
abbrev pub entity_under : (ℕ → List ℕ) → Row → Entity
entity_under reads row = entity_in (bytes_at reads row)

-- TESTS

-- only a key itself ties with it
pub key_test : (x k : ℕ) → eq_by_cmp nat_cmp x k ≡ nat_eq x k
key_test x k = elim (cases_eq x k) as (λ _. eq_by_cmp nat_cmp x k ≡ nat_eq x k) [
  | inl same ↦ subst (λ (y : ℕ). eq_by_cmp nat_cmp x y ≡ nat_eq x y) same (same_key x ∙ sym (eq-eqb x x refl))
  | inr differs ↦ other_key x k differs ∙ sym (ne_eqb x k differs)
]

pub less_test : (x k : ℕ) → T (is_lt (nat_cmp x k)) → nat_lt x k ≡ true
less_test x k less = grind (arith, nat_tests)

pub T_left : (a b : Bool) → T (a && b) → T a
T_left true b both = tt
T_left false b both = both

pub T_right : (a b : Bool) → T (a && b) → T b
T_right true b both = both
T_right false b both = absurd both

-- entries in order: the first key is below each other one, and the others are in order
pub first_below : (e : ℕ × Row) (es : List (ℕ × Row)) → T (is_sorted nat_cmp (e ∷ es)) → T (below_all nat_cmp e.0 es)
first_below e es sorted = T_left (below_all nat_cmp e.0 es) (is_sorted nat_cmp es) sorted

pub others_sorted : (e : ℕ × Row) (es : List (ℕ × Row)) → T (is_sorted nat_cmp (e ∷ es)) → T (is_sorted nat_cmp es)
others_sorted e es sorted = T_right (below_all nat_cmp e.0 es) (is_sorted nat_cmp es) sorted

-- ENTRIES

entity_of_entries : (reads : ℕ → List ℕ) (es : List (ℕ × Row)) (x : ℕ) → entity_of (map (record_at reads) es) x ≡ option_map (entity_under reads) (find nat_cmp x es)
entity_of_entries reads [] x = refl
entity_of_entries reads (e ∷ es) x = let rest = entity_of_entries reads es x in
    (elim (nat_eq x e.0) as (λ b. cond b (Some (entity_under reads e.1)) (entity_of (map (record_at reads) es) x) ≡ option_map (entity_under reads) (cond b (Some e.1) (find nat_cmp x es))) [
      | true ↦ refl
      | false ↦ rest
    ]) ∙ ap (λ b. option_map (entity_under reads) (cond b (Some e.1) (find nat_cmp x es))) (sym (key_test x e.0))

ids_rise : (reads : ℕ → List ℕ) (b : ℕ) (es : List (ℕ × Row)) → T (below_all nat_cmp b es) → T (is_sorted nat_cmp es) → rises_from b (ids (map (record_at reads) es)) ≡ true
ids_rise reads b [] below sorted = refl
ids_rise reads b (e ∷ es) below sorted = and_from _ _ (less_test b e.0 (T_left _ _ below)) (ids_rise reads e.0 es (first_below e es sorted) (others_sorted e es sorted))

entries_rise : (reads : ℕ → List ℕ) (es : List (ℕ × Row)) → T (is_sorted nat_cmp es) → rises (ids (map (record_at reads) es)) ≡ true
entries_rise reads [] sorted = refl
entries_rise reads (e ∷ es) sorted = ids_rise reads e.0 es (first_below e es sorted) (others_sorted e es sorted)

pub entity_of_table : (reads : ℕ → List ℕ) (rows : FinMap nat_cmp Row) (x : ℕ) → entity_of (table_in reads rows) x ≡ option_map (entity_under reads) (get rows x)
entity_of_table reads rows x = entity_of_entries reads (entries rows) x ∙ ap (option_map (entity_under reads)) (sym (get-entries rows x))

pub table_rises : (reads : ℕ → List ℕ) (rows : FinMap nat_cmp Row) → rises (ids (table_in reads rows)) ≡ true
table_rises reads rows = entries_rise reads (entries rows) (entries_sorted rows)

pub table_length : (reads : ℕ → List ℕ) (rows : FinMap nat_cmp Row) → length (table_in reads rows) ≡ len rows
table_length reads rows = length-map (entries rows) (record_at reads) ∙ sym (len-entries rows)

-- TABLES THAT ANSWER ALIKE

-- what is not above a bound is not in a table above it
pub not_below : (b x : ℕ) (g : List Record) → x ≤ b → rises_from b (ids g) ≡ true → entity_of g x ≡ None
not_below b x [] at_most above = refl
not_below b x (r ∷ g) at_most above =
    let parts = and_parts (nat_lt b r.id) (rises_from r.id (ids g)) above in
    let less = ltb-true b r.id parts.0 in
    ap (λ t. cond t (Some r.entity) (entity_of g x)) (ne_eqb x r.id (λ same. omega arith)) ∙ not_below r.id x g (omega arith) parts.1

-- the first record is found
found_first : (r : Record) (g : List Record) → entity_of (r ∷ g) r.id ≡ Some r.entity
found_first r g = ap (λ t. cond t (Some r.entity) (entity_of g r.id)) (eq-eqb r.id r.id refl)

-- a table whose ids are all above the first of another does not answer alike
not_alike : (r : Record) (g h : List Record) → rises_from r.id (ids h) ≡ true → entity_of (r ∷ g) r.id ≡ entity_of h r.id → ⊥
not_alike r g h above same = let first = found_first r g in let none = not_below r.id r.id h (omega arith) above in absurd cc

-- what stands behind the first records of one id answers alike
tails : (id : ℕ) (e : Entity) (g h : List Record) → rises_from id (ids g) ≡ true → rises_from id (ids h) ≡ true
    → ((x : ℕ) → cond (nat_eq x id) (Some e) (entity_of g x) ≡ cond (nat_eq x id) (Some e) (entity_of h x)) → (x : ℕ) → entity_of g x ≡ entity_of h x
tails id e g h g_above h_above same x = elim (cases_eq x id) as (λ _. entity_of g x ≡ entity_of h x) [
  | inl is ↦ not_below id x g (omega arith) g_above ∙ sym (not_below id x h (omega arith) h_above)
  | inr differs ↦ subst (λ t. cond t (Some e) (entity_of g x) ≡ cond t (Some e) (entity_of h x)) (ne_eqb x id differs) (same x)
]

pub rises_later : (b : ℕ) (xs : List ℕ) → rises_from b xs ≡ true → rises xs ≡ true
rises_later b [] above = refl
rises_later b (x ∷ xs) above = (and_parts (nat_lt b x) (rises_from x xs) above).1

same_record : (r s : Record) → r.id ≡ s.id → r.entity ≡ s.entity → r ≡ s
same_record r s id_is entity_is = λ i. record { id = id_is i; entity = entity_is i }

same_first : (r s : Record) (g h : List Record) → r.id ≡ s.id → entity_of (r ∷ g) r.id ≡ entity_of (s ∷ h) r.id → r.entity ≡ s.entity
same_first r s g h is same = let first = found_first r g in let other = found_first s h in cc

-- tables by rising id that answer alike are one
pub same_table : (g h : List Record) → rises (ids g) ≡ true → rises (ids h) ≡ true → ((x : ℕ) → entity_of g x ≡ entity_of h x) → g ≡ h
same_table [] [] g_rises h_rises same = refl
same_table [] (s ∷ h) g_rises h_rises same = absurd (not_alike s h [] refl (sym (same s.id)))
same_table (r ∷ g) [] g_rises h_rises same = absurd (not_alike r g [] refl (same r.id))
same_table (r ∷ g) (s ∷ h) g_rises h_rises same = elim (cases_order r.id s.id) as (λ _. r ∷ g ≡ s ∷ h) [
  | inl is ↦
      let entity_is = same_first r s g h is (same r.id) in
      let alike = λ (x : ℕ). same x ∙ sym (λ i. cond (nat_eq x (is i)) (Some (entity_is i)) (entity_of h x)) in
      let h_above = subst (λ (n : ℕ). rises_from n (ids h) ≡ true) (sym is) h_rises in
      let rest = same_table g h (rises_later r.id (ids g) g_rises) (rises_later s.id (ids h) h_rises) (tails r.id r.entity g h g_rises h_above alike) in
      λ i. same_record r s is entity_is i ∷ rest i
  | inr (inl less) ↦ absurd (not_alike r g (s ∷ h) (and_from _ _ (lt-ltb r.id s.id less) h_rises) (same r.id))
  | inr (inr more) ↦ absurd (not_alike s h (r ∷ g) (and_from _ _ (lt-ltb s.id r.id more) g_rises) (sym (same s.id)))
]

under_same : (reads : ℕ → List ℕ) (rows : FinMap nat_cmp Row) (id : ℕ) (row new_row : Row) → get rows id ≡ Some row → bytes_at reads new_row ≡ bytes_at reads row → (x : ℕ)
    → option_map (entity_under reads) (get (insert rows id new_row) x) ≡ option_map (entity_under reads) (get rows x)
under_same reads rows id row new_row is bytes x =
    let here = ap (option_map (entity_under reads)) (get-insert_same rows id new_row) ∙ (ap (λ (bs : List ℕ). Some (entity_in bs)) bytes ∙ sym (ap (option_map (entity_under reads)) is)) in
    elim (cases_eq x id) as (λ _. option_map (entity_under reads) (get (insert rows id new_row) x) ≡ option_map (entity_under reads) (get rows x)) [
      | inl same ↦ subst (λ (y : ℕ). option_map (entity_under reads) (get (insert rows id new_row) y) ≡ option_map (entity_under reads) (get rows y)) (sym same) here
      | inr differs ↦ ap (option_map (entity_under reads)) (get-insert_other rows id new_row x differs)
    ]

-- another state of a row leaves the table
pub table_same : (reads : ℕ → List ℕ) (rows : FinMap nat_cmp Row) (id : ℕ) (row new_row : Row) → get rows id ≡ Some row → bytes_at reads new_row ≡ bytes_at reads row
    → table_in reads (insert rows id new_row) ≡ table_in reads rows
table_same reads rows id row new_row is bytes = same_table _ _ (table_rises reads (insert rows id new_row)) (table_rises reads rows)
    (λ x. entity_of_table reads (insert rows id new_row) x ∙ (under_same reads rows id row new_row is bytes x ∙ sym (entity_of_table reads rows x)))

read_same : (old new : ℕ → List ℕ) (o : Option Row) → ((row : Row) → o ≡ Some row → bytes_at new row ≡ bytes_at old row) → option_map (entity_under new) o ≡ option_map (entity_under old) o
read_same old new None same = refl
read_same old new (Some row) same = ap (λ (bs : List ℕ). Some (entity_in bs)) (same row refl)

-- so does a change of what is read that leaves the bytes under each row
pub table_read_same : (old new : ℕ → List ℕ) (rows : FinMap nat_cmp Row) → ((x : ℕ) (row : Row) → get rows x ≡ Some row → bytes_at new row ≡ bytes_at old row) → table_in new rows ≡ table_in old rows
table_read_same old new rows same = same_table _ _ (table_rises new rows) (table_rises old rows)
    (λ x. entity_of_table new rows x ∙ (read_same old new (get rows x) (same x) ∙ sym (entity_of_table old rows x)))
