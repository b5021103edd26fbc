-- Whether an ask is allowed does not depend on the order or the repeats of the held ids.
use Rattle.std.proofs.Common.{◌≡◌, ℕ, ◌^◌, Bool, true, not, ◌&&◌, ◌||◌, List, [], ◌∷◌, refl, sym, ap, ◌∙◌, subst}
use Rattle.std.specs.Prelude.{nat_eq, nat_le}
use Rattle.std.specs.List.{list_all}
use Rattle.graph_model.specs.Ids.{has, rises}
use Rattle.graph_model.specs.Graph.{Graph, edges, entity_size, ids, lists}
use Rattle.graph_model.specs.Served.{IsKept, IsSame, MayAsk, SameIds, Storage, may_hold_all}
use Rattle.graph_model.specs.Stores.{any_edge, is_good_edge, is_good_id, is_good_record, is_held_or_root, is_valid_store, may_hold, total_size}
use Rattle.graph_model.specs.declared.ask.Ask.{Ask}
use Rattle.graph_model.specs.declared.ask.Ask.TheVariants.{Look, Hold, Release, Store, KeepType, Collect, Tidy}
use Rattle.graph_model.specs.declared.entity.Record.{Record}
use Rattle.graph_model.specs.declared.entity.StoreOp.{StoreOp}
use Rattle.session_model.proofs.Allowing.{edge_from, some_edge}
use Rattle.session_model.proofs.SameIds.{same_answer}

all_same : {X : Type 0} (p q : X → Bool) → ((x : X) → p x ≡ q x) → (xs : List X) → list_all p xs ≡ list_all q xs
all_same p q same [] = refl
all_same p q same (x ∷ xs) = rw (same x, all_same p q same xs) refl

same_with : (x : ℕ) (xs ys : List ℕ) → SameIds xs ys → SameIds (x ∷ xs) (x ∷ ys)
same_with x xs ys same y = ap (λ (b : Bool). nat_eq y x || b) (same y)

-- ---- stores

good_edge_same : (g : Graph) (held now : List ℕ) (op : StoreOp) (x y : ℕ) → SameIds now held → is_good_edge g held op x y ≡ is_good_edge g now op x y
good_edge_same g held now op x y same = rw (same x, same y) refl

good_record_same : (g : Graph) (held now : List ℕ) (op : StoreOp) (r : Record) → SameIds now held → is_good_record g held op r ≡ is_good_record g now op r
good_record_same g held now op r same =
    let old : Bool → Bool = λ (b : Bool). is_good_id op.next_id r.id && ((not (lists g r.id) || (b || nat_eq r.id 1)) && (list_all (is_good_edge g held op r.id) (edges r.entity) && (nat_le 1 r.entity.type_id && nat_le (entity_size r.entity) 1048576))) in
    let new : Bool → Bool = λ (b : Bool). is_good_id op.next_id r.id && ((not (lists g r.id) || is_held_or_root now r.id) && (b && (nat_le 1 r.entity.type_id && nat_le (entity_size r.entity) 1048576))) in
    ap old (sym (same r.id)) ∙ ap new (all_same (is_good_edge g held op r.id) (is_good_edge g now op r.id) (λ y. good_edge_same g held now op r.id y same) (edges r.entity))

store_same : (g : Graph) (held now : List ℕ) (next : ℕ) (op : StoreOp) → SameIds now held → is_valid_store g held next op ≡ is_valid_store g now next op
store_same g held now next op same =
    let valid : Bool → Bool = λ (b : Bool). nat_le next op.next_id && (nat_le op.next_id (2 ^ 48) && (rises (ids op.records) && (nat_le (total_size op.records) 16777216 && b))) in
    ap valid (all_same (is_good_record g held op) (is_good_record g now op) (λ r. good_record_same g held now op r same) op.records)

-- ---- ids to hold

any_same : (g : Graph) (xs ys : List ℕ) (y : ℕ) → SameIds ys xs → any_edge g xs y ≡ any_edge g ys y
any_same g xs ys y same = same_answer (any_edge g xs y) (any_edge g ys y)
    (λ h. let e = edge_from g xs y h in some_edge g ys e.from y (same e.from ∙ e.within) e.edge)
    (λ h. let e = edge_from g ys y h in some_edge g xs e.from y (sym (same e.from) ∙ e.within) e.edge)

may_hold_same : (g : Graph) (held now : List ℕ) (x : ℕ) → SameIds now held → may_hold g held x ≡ may_hold g now x
may_hold_same g held now x same = ap (λ (b : Bool). b || (any_edge g (1 ∷ held) x || nat_eq x 1)) (sym (same x))
    ∙ ap (λ (b : Bool). has x now || (b || nat_eq x 1)) (any_same g (1 ∷ held) (1 ∷ now) x (same_with 1 now held same))

may_hold_all_same : (g : Graph) (held now xs : List ℕ) → SameIds now held → may_hold_all g held xs ≡ may_hold_all g now xs
may_hold_all_same g held now [] same = refl
may_hold_all_same g held now (x ∷ xs) same = ap (λ (b : Bool). lists g x && (b && may_hold_all g (x ∷ held) xs)) (may_hold_same g held now x same)
    ∙ ap (λ (b : Bool). lists g x && (may_hold g now x && b)) (may_hold_all_same g (x ∷ held) (x ∷ now) xs (same_with x now held same))

kept_same : (g : Graph) (held now : List ℕ) (x : ℕ) → SameIds now held → IsKept g held x → IsKept g now x
kept_same g held now x same k = record {
  reached = record { from = k.reached.from; is_start = same_with 1 now held same k.reached.from ∙ k.reached.is_start; path = k.reached.path; walks = k.reached.walks; ends = k.reached.ends };
  listed = k.listed;
}

-- ---- the asks

pub ask_stays_allowed : (is_next_type : List (List ℕ) → List ℕ → Bool) (s t : Storage) (ask : Ask) → IsSame s t → MayAsk is_next_type s ask → MayAsk is_next_type t ask
ask_stays_allowed is_next s t (Look x) same may = subst (λ (g : Graph). IsKept g t.held x) (sym same.others.graph) (kept_same s.graph s.held t.held x same.held may)
ask_stays_allowed is_next s t (Hold xs) same may = subst (λ (g : Graph). may_hold_all g t.held xs ≡ true) (sym same.others.graph) (sym (may_hold_all_same s.graph s.held t.held xs same.held) ∙ may)
ask_stays_allowed is_next s t (Release xs) same may = tt
ask_stays_allowed is_next s t (Store op) same may = record {
  not_empty = may.not_empty;
  valid = subst (λ (g : Graph). is_valid_store g t.held t.next_id op ≡ true) (sym same.others.graph)
      (subst (λ (n : ℕ). is_valid_store s.graph t.held n op ≡ true) (sym same.others.next_id) (sym (store_same s.graph s.held t.held s.next_id op same.held) ∙ may.valid));
}
ask_stays_allowed is_next s t (KeepType bytes) same may = subst (λ (types : List (List ℕ)). is_next types bytes ≡ true) (sym same.others.types) may
ask_stays_allowed is_next s t Collect same may = tt
ask_stays_allowed is_next s t Tidy same may = tt
