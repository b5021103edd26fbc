-- The instances that the model loads, by the objects of a list in any order; and the code by which it refuses.
use Rattle.std.proofs.Common.{◌≡◌, ℕ, ◌≤◌, ◌<◌, Bool, true, false, cond, List, [], ◌∷◌, Option, Some, None, Ok, Err, ◌⊎◌, inl, inr, refl, sym, ap, ◌∙◌, subst, arith}
use Rattle.std.specs.Prelude.{nat_eq, codes, is_some, option_and_then}
use Rattle.std.proofs.lemmas.Bool.{cases_order, eq-eqb, eqb-true, eqb-false, ne_eqb, lt-ltb, le-ltb}
use Rattle.graph_model.specs.Ids.{rises, rises_from}
use Rattle.graph_model.specs.Graph.{Graph, entity_of, ids, lists}
use Rattle.graph_model.specs.declared.entity.Entity.{Entity}
use Rattle.graph_model.proofs.Graphs.{has_ids}
use Rattle.type_desc.specs.declared.desc.TypeDesc.{TypeDesc}
use Rattle.entity_form.specs.declared.value.Object.{Object}
use Rattle.refactor_table.specs.declared.name.Pair.{Pair}
use Rattle.session_model.specs.Instances.{Held, Instance, Instances, put_instance}
use Rattle.session_model.specs.Loading.{Converted, conversion, load_all, then_load}
use Rattle.session_model.proofs.SameIds.{above_first, rises-tail}
use Rattle.object_registry.specs.Registered.{loaded, put_loaded}
use Rattle.lazy_refs.specs.Steps.{object_in, object_of, reason_in, reason_of}
use Rattle.lazy_refs.specs.Walks.{object_at}
use Rattle.lazy_refs.specs.declared.step.Reason.{Reason}
use Rattle.lazy_refs.specs.declared.step.Reason.TheVariants as reasons

-- ---- instances that are put in, in any order

abbrev held : ℕ → Instance → Held
held x i = record { id = x; instance = i }

put_here : (x : ℕ) (i : Instance) (h : Held) (hs : Instances) → x ≡ h.id → put_instance x i (h ∷ hs) ≡ held x i ∷ hs
put_here x i h hs e = rw (le-ltb h.id x (omega arith), eq-eqb h.id x (sym e)) refl

put_before : (x : ℕ) (i : Instance) (h : Held) (hs : Instances) → x < h.id → put_instance x i (h ∷ hs) ≡ held x i ∷ h ∷ hs
put_before x i h hs l = rw (le-ltb h.id x (omega arith), ne_eqb h.id x (λ e. omega arith)) refl

put_behind : (x : ℕ) (i : Instance) (h : Held) (hs : Instances) → h.id < x → put_instance x i (h ∷ hs) ≡ h ∷ put_instance x i hs
put_behind x i h hs l = rw (lt-ltb h.id x l) refl

put_over : (x : ℕ) (i j : Instance) (hs : Instances) → put_instance x i (put_instance x j hs) ≡ put_instance x i hs
put_over x i j [] = put_here x i (held x j) [] refl
put_over x i j (h ∷ hs) = by (cases_order x h.id) (put_over x i j hs)
  where
    by : (x ≡ h.id) ⊎ ((x < h.id) ⊎ (h.id < x)) → put_instance x i (put_instance x j hs) ≡ put_instance x i hs → put_instance x i (put_instance x j (h ∷ hs)) ≡ put_instance x i (h ∷ hs)
    by (inl e) ih = ap (put_instance x i) (put_here x j h hs e) ∙ put_here x i (held x j) hs refl ∙ sym (put_here x i h hs e)
    by (inr (inl l)) ih = ap (put_instance x i) (put_before x j h hs l) ∙ put_here x i (held x j) (h ∷ hs) refl ∙ sym (put_before x i h hs l)
    by (inr (inr l)) ih = ap (put_instance x i) (put_behind x j h hs l) ∙ put_behind x i h (put_instance x j hs) l ∙ ap (λ (ks : Instances). h ∷ ks) ih ∙ sym (put_behind x i h hs l)

-- the lesser id first
put_lesser : (x y : ℕ) (i j : Instance) (hs : Instances) → x < y → put_instance x i (put_instance y j hs) ≡ put_instance y j (put_instance x i hs)
put_lesser x y i j [] l = put_before x i (held y j) [] l ∙ sym (put_behind y j (held x i) [] l)
put_lesser x y i j (h ∷ hs) l = by (cases_order x h.id) (cases_order y h.id) (put_lesser x y i j hs l)
  where
    by : (x ≡ h.id) ⊎ ((x < h.id) ⊎ (h.id < x)) → (y ≡ h.id) ⊎ ((y < h.id) ⊎ (h.id < y)) → put_instance x i (put_instance y j hs) ≡ put_instance y j (put_instance x i hs)
        → put_instance x i (put_instance y j (h ∷ hs)) ≡ put_instance y j (put_instance x i (h ∷ hs))
    by (inl e) (inl f) ih = absurd (omega arith)
    by (inl e) (inr (inl f)) ih = absurd (omega arith)
    by (inl e) (inr (inr f)) ih = ap (put_instance x i) (put_behind y j h hs f) ∙ put_here x i h (put_instance y j hs) e ∙ sym (put_behind y j (held x i) hs l) ∙ ap (put_instance y j) (sym (put_here x i h hs e))
    by (inr (inl e)) (inl f) ih = ap (put_instance x i) (put_here y j h hs f) ∙ put_before x i (held y j) hs l ∙ ap (λ (ks : Instances). held x i ∷ ks) (sym (put_here y j h hs f)) ∙ sym (put_behind y j (held x i) (h ∷ hs) l) ∙ ap (put_instance y j) (sym (put_before x i h hs e))
    by (inr (inl e)) (inr (inl f)) ih = ap (put_instance x i) (put_before y j h hs f) ∙ put_before x i (held y j) (h ∷ hs) l ∙ ap (λ (ks : Instances). held x i ∷ ks) (sym (put_before y j h hs f)) ∙ sym (put_behind y j (held x i) (h ∷ hs) l) ∙ ap (put_instance y j) (sym (put_before x i h hs e))
    by (inr (inl e)) (inr (inr f)) ih = ap (put_instance x i) (put_behind y j h hs f) ∙ put_before x i h (put_instance y j hs) e ∙ ap (λ (ks : Instances). held x i ∷ ks) (sym (put_behind y j h hs f)) ∙ sym (put_behind y j (held x i) (h ∷ hs) l) ∙ ap (put_instance y j) (sym (put_before x i h hs e))
    by (inr (inr e)) (inl f) ih = absurd (omega arith)
    by (inr (inr e)) (inr (inl f)) ih = absurd (omega arith)
    by (inr (inr e)) (inr (inr f)) ih = ap (put_instance x i) (put_behind y j h hs f) ∙ put_behind x i h (put_instance y j hs) e ∙ ap (λ (ks : Instances). h ∷ ks) ih ∙ sym (put_behind y j h (put_instance x i hs) f) ∙ ap (put_instance y j) (sym (put_behind x i h hs e))

put_either : (x y : ℕ) (i j : Instance) (hs : Instances) → (x ≡ y → ⊥) → put_instance x i (put_instance y j hs) ≡ put_instance y j (put_instance x i hs)
put_either x y i j hs apart = elim (cases_order x y) [
  | inl e ↦ absurd (apart e)
  | inr (inl l) ↦ put_lesser x y i j hs l
  | inr (inr l) ↦ sym (put_lesser y x j i hs l)
]

-- ---- one id apart from the others

abbrev apart_from : ℕ → List (ℕ × Object) → List (ℕ × Object)
apart_from x [] = []
apart_from x (p ∷ ps) = cond (nat_eq x p.0) (apart_from x ps) (p ∷ apart_from x ps)

object_apart : (ps : List (ℕ × Object)) (x y : ℕ) → object_at (apart_from x ps) y ≡ cond (nat_eq y x) None (object_at ps y)
object_apart [] x y = by (nat_eq y x)
  where
    by : (b : Bool) → object_at [] y ≡ cond b None (object_at [] y)
    by true = refl
    by false = refl
object_apart (p ∷ ps) x y = by (nat_eq x p.0) refl (nat_eq y p.0) refl (nat_eq y x) refl (object_apart ps x y)
  where
    by : (b : Bool) → nat_eq x p.0 ≡ b → (c : Bool) → nat_eq y p.0 ≡ c → (d : Bool) → nat_eq y x ≡ d → object_at (apart_from x ps) y ≡ cond d None (object_at ps y)
        → object_at (cond b (apart_from x ps) (p ∷ apart_from x ps)) y ≡ cond d None (cond c (Some p.1) (object_at ps y))
    by true e true f true g ih = ih
    by true e true f false g ih = absurd (eqb-false y x g (eqb-true y p.0 f ∙ sym (eqb-true x p.0 e)))
    by true e false f true g ih = ih
    by true e false f false g ih = ih
    by false e true f true g ih = absurd (eqb-false x p.0 e (sym (eqb-true y x g) ∙ eqb-true y p.0 f))
    by false e true f false g ih = rw f refl
    by false e false f true g ih = rw f ih
    by false e false f false g ih = rw f ih

put_absorbs : (ps : List (ℕ × Object)) (x : ℕ) (i : Instance) (hs : Instances) → put_instance x i (put_loaded ps hs) ≡ put_instance x i (put_loaded (apart_from x ps) hs)
put_absorbs [] x i hs = refl
put_absorbs (p ∷ ps) x i hs = by (nat_eq x p.0) refl (put_absorbs ps x i hs)
  where
    by : (b : Bool) → nat_eq x p.0 ≡ b → put_instance x i (put_loaded ps hs) ≡ put_instance x i (put_loaded (apart_from x ps) hs)
        → put_instance x i (put_instance p.0 (loaded p.1) (put_loaded ps hs)) ≡ put_instance x i (put_loaded (cond b (apart_from x ps) (p ∷ apart_from x ps)) hs)
    by true e ih = ap (λ (y : ℕ). put_instance x i (put_instance y (loaded p.1) (put_loaded ps hs))) (sym (eqb-true x p.0 e)) ∙ put_over x i (loaded p.1) (put_loaded ps hs) ∙ ih
    by false e ih = put_either x p.0 i (loaded p.1) (put_loaded ps hs) (eqb-false x p.0 e) ∙ ap (put_instance p.0 (loaded p.1)) ih ∙ sym (put_either x p.0 i (loaded p.1) (put_loaded (apart_from x ps) hs) (eqb-false x p.0 e))

put_taken : (ps : List (ℕ × Object)) (x : ℕ) (o : Object) (hs : Instances) → object_at ps x ≡ Some o → put_loaded ps hs ≡ put_instance x (loaded o) (put_loaded (apart_from x ps) hs)
put_taken [] x o hs at = absurd cc
put_taken (p ∷ ps) x o hs at = by (nat_eq x p.0) refl at (put_taken ps x o hs)
  where
    by : (b : Bool) → nat_eq x p.0 ≡ b → cond b (Some p.1) (object_at ps x) ≡ Some o → (object_at ps x ≡ Some o → put_loaded ps hs ≡ put_instance x (loaded o) (put_loaded (apart_from x ps) hs))
        → put_instance p.0 (loaded p.1) (put_loaded ps hs) ≡ put_instance x (loaded o) (put_loaded (cond b (apart_from x ps) (p ∷ apart_from x ps)) hs)
    by true e here ih =
        let one : p.1 ≡ o = cc in
        ap (λ (y : ℕ). put_instance y (loaded p.1) (put_loaded ps hs)) (sym (eqb-true x p.0 e)) ∙ ap (λ (q : Object). put_instance x (loaded q) (put_loaded ps hs)) one ∙ put_absorbs ps x (loaded o) hs
    by false e there ih = ap (put_instance p.0 (loaded p.1)) (ih there) ∙ sym (put_either x p.0 (loaded o) (loaded p.1) (put_loaded (apart_from x ps) hs) (eqb-false x p.0 e))

nothing_put : (ps : List (ℕ × Object)) (hs : Instances) → ((x : ℕ) → object_at ps x ≡ None) → hs ≡ put_loaded ps hs
nothing_put [] hs none = refl
nothing_put (p ∷ ps) hs none = absurd (let t : cond true (Some p.1) (object_at ps p.0) ≡ None = subst (λ (b : Bool). cond b (Some p.1) (object_at ps p.0) ≡ None) (eq-eqb p.0 p.0 refl) (none p.0) in cc)

-- ---- what the model loads

-- the first id of rising records stands once
first_once : (r_id x : ℕ) (rs : Graph) → rises_from r_id (ids rs) ≡ true → lists rs x ≡ true → r_id < x
first_once r_id x rs rising there = above_first r_id x (ids rs) rising (has_ids rs x ∙ there)

none_there : (r_id : ℕ) (rs : Graph) → rises_from r_id (ids rs) ≡ true → entity_of rs r_id ≡ None
none_there r_id rs rising = by (entity_of rs r_id) refl
  where
    by : (o : Option Entity) → entity_of rs r_id ≡ o → o ≡ None
    by None e = refl
    by (Some f) e = absurd (let l : r_id < r_id = first_once r_id r_id rs rising (ap is_some e) in omega arith)

pub loads_all : (types : List TypeDesc) (pairs : List Pair) (rs : Graph) (ps : List (ℕ × Object)) (hs : Instances) → rises (ids rs) ≡ true
    → ((x : ℕ) → object_at ps x ≡ object_in types pairs rs x) → ((x : ℕ) → reason_in types pairs rs x ≡ None) → load_all types pairs rs hs ≡ Ok (put_loaded ps hs)
loads_all types pairs [] ps hs rising objects none = ap Ok (nothing_put ps hs objects)
loads_all types pairs (r ∷ rs) ps hs rising objects none =
    by (conversion types pairs r.entity) (ap (λ (b : Bool). option_and_then (λ (e : Entity). object_of (conversion types pairs e)) (cond b (Some r.entity) (entity_of rs r.id))) (eq-eqb r.id r.id refl))
    (sym (ap (λ (b : Bool). option_and_then (λ (e : Entity). reason_of (conversion types pairs e)) (cond b (Some r.entity) (entity_of rs r.id))) (eq-eqb r.id r.id refl)) ∙ none r.id)
    (loads_all types pairs rs (apart_from r.id ps) hs (rises-tail r.id (ids rs) rising) later converts)
  where
    missing : entity_of rs r.id ≡ None
    missing = none_there r.id rs rising

    later : (x : ℕ) → object_at (apart_from r.id ps) x ≡ object_in types pairs rs x
    later x = object_apart ps r.id x ∙ ap (λ (o : Option Object). cond (nat_eq x r.id) None o) (objects x) ∙ at (nat_eq x r.id) refl
      where
        at : (b : Bool) → nat_eq x r.id ≡ b → cond b None (option_and_then (λ (e : Entity). object_of (conversion types pairs e)) (cond b (Some r.entity) (entity_of rs x))) ≡ object_in types pairs rs x
        at true e = sym (ap (option_and_then (λ (f : Entity). object_of (conversion types pairs f))) (ap (entity_of rs) (eqb-true x r.id e) ∙ missing))
        at false e = refl

    converts : (x : ℕ) → reason_in types pairs rs x ≡ None
    converts x = at (nat_eq x r.id) refl (none x)
      where
        at : (b : Bool) → nat_eq x r.id ≡ b → option_and_then (λ (e : Entity). reason_of (conversion types pairs e)) (cond b (Some r.entity) (entity_of rs x)) ≡ None → reason_in types pairs rs x ≡ None
        at true e h = ap (option_and_then (λ (f : Entity). reason_of (conversion types pairs f))) (ap (entity_of rs) (eqb-true x r.id e) ∙ missing)
        at false e h = h

    by : (c : Converted) → object_in types pairs (r ∷ rs) r.id ≡ object_of c → reason_of c ≡ None → load_all types pairs rs hs ≡ Ok (put_loaded (apart_from r.id ps) hs) → then_load r.id c (load_all types pairs rs hs) ≡ Ok (put_loaded ps hs)
    by (Converted.Loaded o) is fine ih =
        ap (then_load r.id (Converted.Loaded o)) ih
        ∙ ap Ok (sym (put_taken ps r.id o hs (objects r.id ∙ is)))
    by Converted.NoType is fine ih = absurd cc
    by Converted.WrongKind is fine ih = absurd cc

-- ---- and how it refuses

abbrev pub code_of : Reason → List ℕ
code_of reasons.NoType = codes "no-type"
code_of reasons.WrongKind = codes "wrong-kind"

pub refuses_all : (types : List TypeDesc) (pairs : List Pair) (rs : Graph) (x : ℕ) (reason : Reason) (hs : Instances) → rises (ids rs) ≡ true
    → reason_in types pairs rs x ≡ Some reason → ((y : ℕ) (other : Reason) → reason_in types pairs rs y ≡ Some other → x ≤ y) → load_all types pairs rs hs ≡ Err (code_of reason)
refuses_all types pairs [] x reason hs rising why least = absurd cc
refuses_all types pairs (r ∷ rs) x reason hs rising why least = at (nat_eq x r.id) refl why (λ h. refuses_all types pairs rs x reason hs (rises-tail r.id (ids rs) rising) h later)
  where
    first : (c : Converted) → reason_of c ≡ Some reason → then_load r.id c (load_all types pairs rs hs) ≡ Err (code_of reason)
    first (Converted.Loaded o) e = absurd cc
    first Converted.NoType e = let one : reasons.NoType ≡ reason = cc in ap (λ (q : Reason). Err (code_of q)) one
    first Converted.WrongKind e = let one : reasons.WrongKind ≡ reason = cc in ap (λ (q : Reason). Err (code_of q)) one

    listed : (o : Option Entity) → option_and_then (λ (f : Entity). reason_of (conversion types pairs f)) o ≡ Some reason → is_some o ≡ true
    listed None e = absurd cc
    listed (Some f) e = refl

    apart : (y : ℕ) (o : Option Entity) (other : Reason) → entity_of rs y ≡ o → option_and_then (λ (f : Entity). reason_of (conversion types pairs f)) o ≡ Some other → nat_eq y r.id ≡ false
    apart y None other e h = absurd cc
    apart y (Some f) other e h = let l : r.id < y = first_once r.id y rs rising (ap is_some e) in ne_eqb y r.id (λ s. omega arith)

    later : (y : ℕ) (other : Reason) → reason_in types pairs rs y ≡ Some other → x ≤ y
    later y other h = least y other (ap (λ (b : Bool). option_and_then (λ (f : Entity). reason_of (conversion types pairs f)) (cond b (Some r.entity) (entity_of rs y))) (apart y (entity_of rs y) other refl h) ∙ h)

    own : reason_in types pairs (r ∷ rs) r.id ≡ reason_of (conversion types pairs r.entity)
    own = ap (λ (b : Bool). option_and_then (λ (f : Entity). reason_of (conversion types pairs f)) (cond b (Some r.entity) (entity_of rs r.id))) (eq-eqb r.id r.id refl)

    behind : (c : Converted) → reason_of (conversion types pairs r.entity) ≡ reason_of c → r.id < x → load_all types pairs rs hs ≡ Err (code_of reason) → then_load r.id c (load_all types pairs rs hs) ≡ Err (code_of reason)
    behind (Converted.Loaded o) e l ih = ap (then_load r.id (Converted.Loaded o)) ih
    behind Converted.NoType e l ih = absurd (let most : x ≤ r.id = least r.id reasons.NoType (own ∙ e) in omega arith)
    behind Converted.WrongKind e l ih = absurd (let most : x ≤ r.id = least r.id reasons.WrongKind (own ∙ e) in omega arith)

    at : (b : Bool) → nat_eq x r.id ≡ b → option_and_then (λ (f : Entity). reason_of (conversion types pairs f)) (cond b (Some r.entity) (entity_of rs x)) ≡ Some reason
        → (reason_in types pairs rs x ≡ Some reason → load_all types pairs rs hs ≡ Err (code_of reason))
        → then_load r.id (conversion types pairs r.entity) (load_all types pairs rs hs) ≡ Err (code_of reason)
    at true e h ih = first (conversion types pairs r.entity) h
    at false e h ih = behind (conversion types pairs r.entity) refl (first_once r.id x rs rising (listed (entity_of rs x) h)) (ih h)
