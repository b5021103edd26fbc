-- What a change leaves alone: instances stay right where types, graph and objects only grow.
use Rattle.std.proofs.Common.{◌≡◌, ℕ, ◌-◌, ◌<◌, ◌≤◌, Bool, true, false, cond, ◌&&◌, List, [], ◌∷◌, ◌++◌, length, length-append, slice_get, Some, None, ◌⊎◌, inl, inr, refl, ◌∙◌, subst, arith, zero, suc}
use Rattle.std.specs.Prelude.{nat_eq, nat_le, nat_lt}
use Rattle.std.specs.List.{list_all, list_any}
use Rattle.std.proofs.lemmas.Bool.{and_from, and_parts, lt-ltb, ltb-true, or_cases, or_left, or_right}
use Rattle.graph_model.specs.Graph.{Graph, has_edge, lists}
use Rattle.graph_model.specs.Stores.{is_good_id}
use Rattle.graph_model.specs.declared.entity.Entity.{Entity}
use Rattle.type_desc.specs.declared.desc.TypeDesc.{TypeDesc}
use Rattle.type_desc.specs.Root.{root_desc}
use Rattle.type_dictionary.specs.Latest.{desc_of}
use Rattle.refactor_table.specs.declared.name.Pair.{Pair}
use Rattle.refactor_table.specs.Names.{AreOfOneForm}
use Rattle.session_model.specs.Instances.{Instance, Instances}
use Rattle.session_model.specs.Answer.{State, bound, is_bound, is_root_name}
use Rattle.session_model.specs.WellFormed.{IsWellFormed}
use Rattle.session_model.specs.Sound.{AreTypes, IsHere, IsRightGraph, IsRightInstance, IsRightType, IsSound, spares_root}
use Rattle.session_model.proofs.SoundPairs.{one_more_is_sound, shares_name}
use Rattle.session_model.proofs.Bindings.{bound_or_was, distinct_bound, distinct_dropped, dropped, root_bound, root_dropped, was_bound}

-- ---- what grows

pub good_id_stays : (n m x : ℕ) → n ≤ m → is_good_id n x ≡ true → is_good_id m x ≡ true
good_id_stays n m x l g = elim (or_cases (nat_eq x 1) (nat_le 1024 x && nat_lt x n) g) [
  | inl root ↦ or_left (nat_eq x 1) (nat_le 1024 x && nat_lt x m) root
  | inr other ↦ let t = and_parts (nat_le 1024 x) (nat_lt x n) other in let u = ltb-true x n t.1 in
      or_right (nat_eq x 1) (nat_le 1024 x && nat_lt x m) (and_from (nat_le 1024 x) (nat_lt x m) t.0 (lt-ltb x m (omega arith)))
]

abbrev pub KeepsTypes : (old new : List TypeDesc) → Type 0
KeepsTypes old new = (id : ℕ) (desc : TypeDesc) → desc_of old id ≡ Some desc → desc_of new id ≡ Some desc

abbrev pub KeepsHere : (old new : Instances) → Type 0
KeepsHere old new = (y : ℕ) → IsHere old y → IsHere new y

-- the graph has x as before, and x keeps its edges
pub record KeepsEdges (old new : Graph) (x : ℕ) : Type 0 where
  pub listed : lists new x ≡ lists old x
  pub edges : (y : ℕ) → has_edge old x y ≡ true → has_edge new x y ≡ true

pub same_edges : (g : Graph) (x : ℕ) → KeepsEdges g g x
same_edges g x = record { listed = refl; edges = λ y e. e }

pub right_stays : (types new_types : List TypeDesc) (next new_next : ℕ) (g h : Graph) (hs ks : Instances) (x : ℕ) (i : Instance)
    → KeepsTypes types new_types → next ≤ new_next → KeepsEdges g h x → KeepsHere hs ks
    → IsRightInstance types next g hs x i → IsRightInstance new_types new_next h ks x i
right_stays types new_types next new_next g h hs ks x i keeps up edges here r = record {
  good_id = good_id_stays next new_next x up r.good_id;
  desc = r.desc;
  known = keeps i.object.type_id r.desc r.known;
  kinds = r.kinds;
  root = r.root;
  proper = r.proper;
  saved = edges.listed ∙ r.saved;
  eager = λ y e. elim (r.eager y e) [ inl nothing ↦ inl nothing | inr there ↦ inr (here y there) ];
  lazy = λ y e. elim (r.lazy y e) [ inl nothing ↦ inl nothing | inr (inl there) ↦ inr (inl (here y there)) | inr (inr edge) ↦ inr (inr (edges.edges y edge)) ];
  same = λ u y e. elim (r.same u y e) [ inl nothing ↦ inl nothing | inr edge ↦ inr (edges.edges y edge) ];
}

pub form_stays : (types new_types : List TypeDesc) (x : ℕ) (entity : Entity) → KeepsTypes types new_types → IsWellFormed types x entity → IsWellFormed new_types x entity
form_stays types new_types x entity keeps f = record { desc = f.desc; known = keeps entity.type_id f.desc f.known; values = f.values; holds = f.holds; root = f.root }

pub graph_stays : (types new_types : List TypeDesc) (next new_next : ℕ) (g : Graph) → KeepsTypes types new_types → next ≤ new_next
    → IsRightGraph types next g → IsRightGraph new_types new_next g
graph_stays types new_types next new_next g keeps up r = record {
  order = r.order;
  good_ids = λ x l. good_id_stays next new_next x up (r.good_ids x l);
  forms = λ x entity is. form_stays types new_types x entity keeps (r.forms x entity is);
  sizes = r.sizes;
  whole = r.whole;
}

-- ---- one more type

got_more : {A : Type 0} (xs ys : List A) (i : ℕ) (x : A) → slice_get xs i ≡ Some x → slice_get (xs ++ ys) i ≡ Some x
got_more [] ys i x e = absurd cc
got_more (z ∷ xs) ys zero x e = e
got_more (z ∷ xs) ys (suc i) x e = got_more xs ys i x e

got_last : {A : Type 0} (xs : List A) (y : A) (i : ℕ) (x : A) → slice_get (xs ++ y ∷ []) i ≡ Some x → (slice_get xs i ≡ Some x) ⊎ (y ≡ x)
got_last [] y zero x e = inr cc
got_last [] y (suc i) x e = absurd cc
got_last (z ∷ xs) y zero x e = inl e
got_last (z ∷ xs) y (suc i) x e = got_last xs y i x e

keeps_types : (types : List TypeDesc) (desc : TypeDesc) → KeepsTypes types (types ++ desc ∷ [])
keeps_types types new id desc = by (nat_eq id 1) (nat_le 16 id)
  where
    by : (s t : Bool) → cond s (Some root_desc) (cond t (slice_get types (id - 16)) None) ≡ Some desc
        → cond s (Some root_desc) (cond t (slice_get (types ++ new ∷ []) (id - 16)) None) ≡ Some desc
    by true t e = e
    by false true e = got_more types (new ∷ []) (id - 16) desc e
    by false false e = e

more_types : (types : List TypeDesc) (new : TypeDesc) → length types < 65536 → IsRightType new → AreTypes types → AreTypes (types ++ new ∷ [])
more_types types new room right are = record {
  most = let l = length-append types (new ∷ []) in let most = are.most in omega arith;
  each = λ i desc e. elim (got_last types new i desc e) [ inl old ↦ are.each i desc old | inr same ↦ subst IsRightType same right ];
}

pub type_added : (state : State) (new : TypeDesc) → IsSound state → length state.types < 65536 → IsRightType new → IsSound (record state { types = state.types ++ new ∷ [] })
type_added state new s room right = let keeps = keeps_types state.types new in record {
  types = more_types state.types new room right s.types;
  pairs = s.pairs;
  root_spared = s.root_spared;
  low = s.low;
  high = s.high;
  graph = graph_stays state.types (state.types ++ new ∷ []) state.next_id state.next_id state.graph keeps (omega arith) s.graph;
  order = s.order;
  each = λ x i at. right_stays state.types (state.types ++ new ∷ []) state.next_id state.next_id state.graph state.graph state.instances state.instances x i
      keeps (omega arith) (same_edges state.graph x) (λ y there. there) (s.each x i at);
  distinct = s.distinct;
  root_name = s.root_name;
  bound = s.bound;
  root = s.root;
  unstarted = s.unstarted;
  unbound = s.unbound;
}

-- ---- one more pair

all_more : (pairs : List Pair) (pair : Pair) → list_all spares_root pairs ≡ true → spares_root pair ≡ true → list_all spares_root (pairs ++ pair ∷ []) ≡ true
all_more [] pair all one = and_from (spares_root pair) true one refl
all_more (p ∷ pairs) pair all one = let t = and_parts (spares_root p) (list_all spares_root pairs) all in
    and_from (spares_root p) (list_all spares_root (pairs ++ pair ∷ [])) t.0 (all_more pairs pair t.1 one)

pub pair_added : (state : State) (pair : Pair) → IsSound state → AreOfOneForm pair.old pair.new → list_any (shares_name pair.old pair.new) state.pairs ≡ false → spares_root pair ≡ true
    → IsSound (record state { pairs = state.pairs ++ pair ∷ [] })
pair_added state pair s one_form fresh spares = record {
  types = s.types;
  pairs = one_more_is_sound state.pairs pair s.pairs one_form fresh;
  root_spared = all_more state.pairs pair s.root_spared spares;
  low = s.low;
  high = s.high;
  graph = s.graph;
  order = s.order;
  each = s.each;
  distinct = s.distinct;
  root_name = s.root_name;
  bound = s.bound;
  root = s.root;
  unstarted = s.unstarted;
  unbound = s.unbound;
}

-- ---- names

-- one more name, of an id with an instance
pub name_bound : (state : State) (name : List ℕ) (id : ℕ) → IsSound state → state.started ≡ true → is_bound state name ≡ false → is_root_name name ≡ false
    → IsHere state.instances id → IsSound (bound state name id)
name_bound state name id s started free other here = record {
  types = s.types;
  pairs = s.pairs;
  root_spared = s.root_spared;
  low = s.low;
  high = s.high;
  graph = s.graph;
  order = s.order;
  each = s.each;
  distinct = distinct_bound name id state.names free s.distinct;
  root_name = root_bound name id state.names other s.root_name;
  bound = λ begun. bound_or_was (IsHere state.instances) name id state.names here (s.bound begun);
  root = s.root;
  unstarted = s.unstarted;
  unbound = λ unbegun. absurd (cc (started, unbegun));
}

pub name_dropped : (state : State) (name : List ℕ) → IsSound state → is_root_name name ≡ false → IsSound (record state { names = dropped name state.names })
name_dropped state name s other = record {
  types = s.types;
  pairs = s.pairs;
  root_spared = s.root_spared;
  low = s.low;
  high = s.high;
  graph = s.graph;
  order = s.order;
  each = s.each;
  distinct = distinct_dropped name state.names s.distinct;
  root_name = root_dropped name state.names other s.root_name;
  bound = λ begun n x is. s.bound begun n x (was_bound name state.names n x is);
  root = s.root;
  unstarted = s.unstarted;
  unbound = λ unbegun n x is. s.unbound unbegun n x (was_bound name state.names n x is);
}
