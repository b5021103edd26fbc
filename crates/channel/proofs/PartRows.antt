-- Where the records of a part stand, and the rows that they get.
use Rattle.std.proofs.Common.{◌≡◌, ◌≤◌, ℕ, ◌+◌, Bool, true, false, cond, ◌||◌, List, [], ◌∷◌, map, Option, Some, None, option_map, ◌⊎◌, inl, inr, refl, sym, ap, ◌∙◌, arith}
use Rattle.std.specs.Prelude.{nat_eq, nat_lt, is_some}
use Rattle.std.specs.Option.{option_or, option_map_or}
use Rattle.std.specs.Ordering.{nat_cmp}
use Rattle.std.specs.FinMap.{FinMap, get, insert}
use Rattle.std.proofs.lemmas.Bool.{and_parts, cases_eq, eq-eqb, eqb-true, ltb-true, ne_eqb}
use Rattle.graph_model.specs.Ids.{has, rises, rises_from, add_all}
use Rattle.graph_model.specs.Graph.{entity_of, entity_size, ids}
use Rattle.graph_model.specs.declared.entity.Entity.{Entity}
use Rattle.graph_model.specs.declared.entity.Record.{Record}
use Rattle.graph_model.proofs.Rising.{rises_add_all}
use Rattle.graph_model.proofs.IdSets.{has_add_all}
use Rattle.graph_model.proofs.Graphs.{has_ids}
use Rattle.oid_table.specs.MapLaws.{get-insert_same, get-insert_other}
use Rattle.entity_index.specs.declared.row.Row.{Row}
use Rattle.channel.specs.Entities.{header_for}
use Rattle.channel.specs.Core.{pins_in}
use Rattle.channel.specs.Taking.{row_at, rows_behind, slot_for}
use Rattle.channel.specs.OnDisk.{row_before}
use Rattle.channel.proofs.Tables.{rises_later}
use Rattle.channel.proofs.Pins.{has_pins, is_pinned, pins_rise, same_set}

-- a record and its place in a part that begins at a place
pub record Spot : Type 0 where
  pub at : ℕ
  pub of : Record

abbrev pub spot_of : ℕ → List Record → ℕ → Option Spot
spot_of at [] x = None
spot_of at (r ∷ rs) x = cond (nat_eq x r.id) (Some (record { at = at; of = r })) (spot_of (at + entity_size r.entity) rs x)

abbrev pub spot_row : Bool → ℕ → Spot → Row
spot_row odd file s = row_at odd file s.at (header_for s.of)

pub entity_of_spot : (at : ℕ) (rs : List Record) (x : ℕ) → entity_of rs x ≡ option_map (λ (s : Spot). s.of.entity) (spot_of at rs x)
entity_of_spot at [] x = refl
entity_of_spot at (r ∷ rs) x = let later = entity_of_spot (at + entity_size r.entity) rs x in
    elim (nat_eq x r.id) as (λ t. cond t (Some r.entity) (entity_of rs x)
    ≡ option_map (λ (s : Spot). s.of.entity) (cond t (Some (record { at = at; of = r })) (spot_of (at + entity_size r.entity) rs x))) [
      | true ↦ refl
      | false ↦ later
    ]

pub spot_id : (at : ℕ) (rs : List Record) (x : ℕ) (s : Spot) → spot_of at rs x ≡ Some s → s.of.id ≡ x
spot_id at [] x s is = cc
spot_id at (r ∷ rs) x s is =
    let later = spot_of (at + entity_size r.entity) rs x in
    (elim (nat_eq x r.id) as (λ t. nat_eq x r.id ≡ t → cond t (Some (record { at = at; of = r })) later ≡ Some s → s.of.id ≡ x) [
      | true ↦ λ same is. let first : record { at = at; of = r } ≡ s = cc in sym (ap (λ (q : Spot). q.of.id) first) ∙ sym (eqb-true x r.id same)
      | false ↦ λ differs is. spot_id (at + entity_size r.entity) rs x s is
    ]) refl is

-- an id that is not above a bound has no place in a part above it
no_spot : (b at : ℕ) (rs : List Record) (x : ℕ) → x ≤ b → rises_from b (ids rs) ≡ true → spot_of at rs x ≡ None
no_spot b at [] x at_most above = refl
no_spot b at (r ∷ rs) x at_most above =
    let parts = and_parts (nat_lt b r.id) (rises_from r.id (ids rs)) above in
    let less = ltb-true b r.id parts.0 in
    ap (λ t. cond t (Some (record { at = at; of = r })) (spot_of (at + entity_size r.entity) rs x)) (ne_eqb x r.id (λ same. omega arith))
    ∙ no_spot r.id (at + entity_size r.entity) rs x (omega arith) parts.1

-- the row of a part's first record, which no later record of it replaces
row_first : (odd : Bool) (file : ℕ) (first : Spot) (later : Option Spot) (rows : FinMap nat_cmp Row) (x : ℕ) → (x ≡ first.of.id → later ≡ None)
    → option_or (option_map (spot_row odd file) later) (get (insert rows first.of.id (spot_row odd file first)) x)
    ≡ option_or (option_map (spot_row odd file) (cond (nat_eq x first.of.id) (Some first) later)) (get rows x)
row_first odd file first later rows x none = by (cases_eq x first.of.id)
  where
    by : (x ≡ first.of.id) ⊎ (x ≡ first.of.id → ⊥) → option_or (option_map (spot_row odd file) later) (get (insert rows first.of.id (spot_row odd file first)) x)
        ≡ option_or (option_map (spot_row odd file) (cond (nat_eq x first.of.id) (Some first) later)) (get rows x)
    by (inl same) = ap (λ (o : Option Spot). option_or (option_map (spot_row odd file) o) (get (insert rows first.of.id (spot_row odd file first)) x)) (none same)
        ∙ (ap (get (insert rows first.of.id (spot_row odd file first))) same ∙ (get-insert_same rows first.of.id (spot_row odd file first)
        ∙ ap (λ t. option_or (option_map (spot_row odd file) (cond t (Some first) later)) (get rows x)) (sym (eq-eqb x first.of.id same))))
    by (inr differs) = ap (option_or (option_map (spot_row odd file) later)) (get-insert_other rows first.of.id (spot_row odd file first) x differs)
        ∙ ap (λ t. option_or (option_map (spot_row odd file) (cond t (Some first) later)) (get rows x)) (sym (ne_eqb x first.of.id differs))

-- each record has its row, and every other id the row that it had
pub get_rows_behind : (odd : Bool) (file at : ℕ) (rs : List Record) (rows : FinMap nat_cmp Row) (x : ℕ) → rises (ids rs) ≡ true
    → get (rows_behind odd file at (map header_for rs) rows) x ≡ option_or (option_map (spot_row odd file) (spot_of at rs x)) (get rows x)
get_rows_behind odd file at [] rows x ordered = refl
get_rows_behind odd file at (r ∷ rs) rows x ordered =
    get_rows_behind odd file (at + entity_size r.entity) rs (insert rows r.id (row_at odd file at (header_for r))) x (rises_later r.id (ids rs) ordered)
    ∙ row_first odd file (record { at = at; of = r }) (spot_of (at + entity_size r.entity) rs x) rows x
    (λ same. no_spot r.id (at + entity_size r.entity) rs x (omega arith) ordered)

-- the row that an id had before
pub before_of : (at : ℕ) (rs : List Record) (rows : FinMap nat_cmp Row) (x : ℕ) (row : Row) → rises (ids rs) ≡ true
    → row_before (map (slot_for rows) rs) x row ≡ cond (has x (ids rs)) (get rows x) (Some row)
before_of at [] rows x row ordered = refl
before_of at (r ∷ rs) rows x row ordered = by (before_of at rs rows x row (rises_later r.id (ids rs) ordered)) (cases_eq x r.id)
  where
    by : row_before (map (slot_for rows) rs) x row ≡ cond (has x (ids rs)) (get rows x) (Some row)
        → (x ≡ r.id) ⊎ (x ≡ r.id → ⊥) → row_before (map (slot_for rows) (r ∷ rs)) x row ≡ cond (has x (ids (r ∷ rs))) (get rows x) (Some row)
    by later (inl same) = ap (λ t. cond t (get rows r.id) (row_before (map (slot_for rows) rs) x row)) (eq-eqb r.id x (sym same))
        ∙ (ap (get rows) (sym same) ∙ ap (λ t. cond (t || has x (ids rs)) (get rows x) (Some row)) (sym (eq-eqb x r.id same)))
    by later (inr differs) = ap (λ t. cond t (get rows r.id) (row_before (map (slot_for rows) rs) x row)) (ne_eqb r.id x (λ e. differs (sym e)))
        ∙ (later ∙ ap (λ t. cond (t || has x (ids rs)) (get rows x) (Some row)) (sym (ne_eqb x r.id differs)))

-- an id is pinned behind a part where it is one of the part's, or was
pinned_behind : (odd : Bool) (file : ℕ) (spot : Option Spot) (before : Option Row)
    → option_map_or is_pinned (option_or (option_map (spot_row odd file) spot) before) false ≡ (is_some (option_map (λ (s : Spot). s.of.entity) spot) || option_map_or is_pinned before false)
pinned_behind odd file None before = refl
pinned_behind odd file (Some s) before = refl

has_behind : (odd : Bool) (file at : ℕ) (rs : List Record) (rows : FinMap nat_cmp Row) → rises (ids rs) ≡ true → (x : ℕ)
    → has x (pins_in (rows_behind odd file at (map header_for rs) rows)) ≡ has x (add_all (ids rs) (pins_in rows))
has_behind odd file at rs rows ordered x =
    has_pins (rows_behind odd file at (map header_for rs) rows) x
    ∙ (ap (λ (o : Option Row). option_map_or is_pinned o false) (get_rows_behind odd file at rs rows x ordered)
    ∙ (pinned_behind odd file (spot_of at rs x) (get rows x)
    ∙ (ap (λ (o : Option Entity). is_some o || option_map_or is_pinned (get rows x) false) (sym (entity_of_spot at rs x))
    ∙ (λ i. sym (has_ids rs x) i || sym (has_pins rows x) i)
    ∙ sym (has_add_all x (ids rs) (pins_in rows)))))

-- the part's ids are pinned
pub pins_behind : (odd : Bool) (file at : ℕ) (rs : List Record) (rows : FinMap nat_cmp Row) → rises (ids rs) ≡ true
    → pins_in (rows_behind odd file at (map header_for rs) rows) ≡ add_all (ids rs) (pins_in rows)
pins_behind odd file at rs rows ordered =
    same_set _ _ (pins_rise (rows_behind odd file at (map header_for rs) rows)) (rises_add_all (ids rs) (pins_in rows) (pins_rise rows)) (has_behind odd file at rs rows ordered)
