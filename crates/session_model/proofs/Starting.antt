-- The start of a script, and the objects in memory once it has begun.
use Rattle.std.proofs.Common.{◌≡◌, ℕ, ◌≤◌, ◌^◌, Bool, true, false, cond, List, [], codes, Some, None, Ok, refl, sym, subst}
use Rattle.std.specs.Prelude.{nat_eq}
use Rattle.std.specs.Str.{bytes_eq}
use Rattle.std.proofs.lemmas.Bool.{eqb-true}
use Rattle.graph_model.specs.Graph.{Graph, lists}
use Rattle.type_desc.specs.declared.desc.TypeDesc.{TypeDesc}
use Rattle.type_desc.specs.Root.{root_desc}
use Rattle.session_model.specs.Instances.{Instance, Instances, put_instance}
use Rattle.session_model.specs.Loading.{load}
use Rattle.session_model.specs.Answer.{State, first_instances, fresh, opened}
use Rattle.session_model.specs.Sound.{AreTypes, IsHere, IsRightGraph, IsRightInstance, IsSound}
use Rattle.session_model.proofs.SoundPairs.{none_are_sound}
use Rattle.session_model.proofs.Filling.{IsFilled, filled}
use Rattle.session_model.proofs.Naming.{fresh_right}

root_only : (b : Bool) (x : ℕ) → cond b (Some 1) None ≡ Some x → x ≡ 1
root_only true x e = cc
root_only false x e = absurd cc

pub opened_sound : (types : List TypeDesc) (graph : Graph) (number next_id : ℕ) → AreTypes types → 1024 ≤ next_id → next_id ≤ 2 ^ 48 → IsRightGraph types next_id graph
    → IsSound (opened types graph number next_id)
opened_sound types graph number next_id are low high right = record {
  types = are;
  pairs = none_are_sound;
  root_spared = refl;
  low = low;
  high = high;
  graph = right;
  order = refl;
  each = λ x i at. absurd cc;
  distinct = refl;
  root_name = refl;
  bound = λ begun. absurd cc;
  root = λ begun. absurd cc;
  unstarted = λ unbegun. refl;
  unbound = λ unbegun name x is. root_only (bytes_eq (codes "root") name) x is;
}

-- with the root in memory, all that is bound at the start is there
begun_with : (state : State) (ks : Instances) → IsSound state → state.started ≡ false → IsFilled state.types state.next_id state.graph [] ks 1 → IsHere ks 1
    → IsSound (record state { instances = ks; started = true })
begun_with state ks s unbegun f root = record {
  types = s.types;
  pairs = s.pairs;
  root_spared = s.root_spared;
  low = s.low;
  high = s.high;
  graph = s.graph;
  order = f.order;
  each = f.each;
  distinct = s.distinct;
  root_name = s.root_name;
  bound = λ begun name x is. subst (IsHere ks) (sym (s.unbound unbegun name x is)) root;
  root = λ begun. root;
  unstarted = λ never. absurd cc;
  unbound = λ never. absurd cc;
}

none_here : {P : Type 0} (y : ℕ) → IsHere [] y → P
none_here y there = let e = there.1 in absurd cc

-- a root that was never stored
new_root : (state : State) → lists state.graph 1 ≡ false → IsFilled state.types state.next_id state.graph [] (put_instance 1 (fresh 1 root_desc) []) 1
new_root state absent = record {
  order = refl;
  each = λ y i at. by y i (nat_eq 1 y) refl at;
  here = λ y there. none_here y there;
  new = λ there. (fresh 1 root_desc, refl);
}
  where
    by : (y : ℕ) (i : Instance) (b : Bool) → nat_eq 1 y ≡ b → cond b (Some (fresh 1 root_desc)) None ≡ Some i
        → IsRightInstance state.types state.next_id state.graph (put_instance 1 (fresh 1 root_desc) []) y i
    by y i true e at = let same : fresh 1 root_desc ≡ i = cc in let root : 1 ≡ y = eqb-true 1 y e in
        subst (IsRightInstance state.types state.next_id state.graph (put_instance 1 (fresh 1 root_desc) []) y) same
        (subst (λ (z : ℕ). IsRightInstance state.types state.next_id state.graph (put_instance 1 (fresh 1 root_desc) []) z (fresh 1 root_desc)) root
        (fresh_right state.types state.next_id state.graph (put_instance 1 (fresh 1 root_desc) []) 1 1 root_desc refl refl refl absent))
    by y i false e at = absurd cc

pub begun_sound : (state : State) (ks : Instances) → IsSound state → state.started ≡ false → first_instances state ≡ Ok ks → IsSound (record state { instances = ks; started = true })
begun_sound state ks s unbegun first = by (lists state.graph 1) refl first
  where
    by : (b : Bool) → lists state.graph 1 ≡ b → cond b (load state.types state.pairs state.graph [] 1) (Ok (put_instance 1 (fresh 1 root_desc) [])) ≡ Ok ks → IsSound (record state { instances = ks; started = true })
    by true there loads =
        let f = filled state.types state.pairs state.next_id state.graph [] 1 ks s.types s.root_spared s.graph refl (λ y i at. absurd cc) loads in
        begun_with state ks s unbegun f (f.new there)
    by false absent made =
        let same : put_instance 1 (fresh 1 root_desc) [] ≡ ks = cc in
        subst (λ (is : Instances). IsSound (record state { instances = is; started = true })) same (begun_with state (put_instance 1 (fresh 1 root_desc) []) s unbegun (new_root state absent) (fresh 1 root_desc, refl))
