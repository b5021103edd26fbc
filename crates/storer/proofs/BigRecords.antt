-- Records that are too big, alone and together.
use Rattle.std.proofs.Common.{◌≡◌, ℕ, zero, suc, ◌+◌, ◌≤◌, ◌<◌, Bool, true, false, cond, List, [], ◌∷◌, ◌++◌, length, get_or, Option, Some, None, refl, arith}
use Rattle.std.specs.Prelude.{nat_lt, IsSomeAnd}
use Rattle.std.specs.List.{list_any}
use Rattle.std.proofs.lemmas.Bool.{ltb-false, le-ltb, or_from}
use Rattle.std.proofs.lemmas.List.Sums.{sum_by_push}
use Rattle.graph_model.specs.Graph.{entity_size}
use Rattle.graph_model.specs.declared.entity.Record.{Record}
use Rattle.session_model.specs.Answer.{are_too_big}
use Rattle.storer.specs.Faults.{size_of, total_of, first_big, IsRefusedAlone, IsRefusedTogether, IsRefused}
use Rattle.storer.specs.declared.fault.GatherFault.{GatherFault}
use Rattle.storer.specs.declared.fault.GatherFault.TheVariants.{EntityTooBig, StoreTooBig, NoMemory}

-- where none is too big, neither the first nor a later one is
none_big : (r : Record) (rs : List Record) → first_big (r ∷ rs) ≡ None → (nat_lt 1048576 (size_of r) ≡ false) × (first_big rs ≡ None)
none_big r rs = by (nat_lt 1048576 (size_of r))
  where
    by : (b : Bool) → cond b (Some r) (first_big rs) ≡ None → (b ≡ false) × (first_big rs ≡ None)
    by true e = absurd cc
    by false e = (refl, e)

pub each_fits : (rs : List Record) (k : ℕ) (d : Record) → first_big rs ≡ None → k < length rs → entity_size (get_or rs k d).entity ≤ 1048576
each_fits [] k d none l = absurd (omega arith)
each_fits (r ∷ rs) zero d none l = ltb-false 1048576 (size_of r) (none_big r rs none).0
each_fits (r ∷ rs) (suc k) d none l = each_fits rs k d (none_big r rs none).1 (omega arith)

pub item_fits : (rs : List Record) (k : ℕ) (r : Record) → first_big rs ≡ None → k < length rs → r ≡ get_or rs k r → entity_size r.entity ≤ 1048576
item_fits rs k r none l is = let t = each_fits rs k r none l in rw (← is) at t

pub first_big-append : (xs ys : List Record) → first_big xs ≡ None → first_big (xs ++ ys) ≡ first_big ys
first_big-append [] ys none = refl
first_big-append (r ∷ xs) ys none = let t = none_big r xs none in rw t.0 (first_big-append xs ys t.1)

first_big-front : (ys zs : List Record) (r : Record) → first_big ys ≡ Some r → first_big (ys ++ zs) ≡ Some r
first_big-front [] zs r found = absurd cc
first_big-front (y ∷ ys) zs r found = by (nat_lt 1048576 (size_of y)) (first_big-front ys zs r) found
  where
    by : (b : Bool) → (first_big ys ≡ Some r → first_big (ys ++ zs) ≡ Some r) → cond b (Some y) (first_big ys) ≡ Some r → cond b (Some y) (first_big (ys ++ zs)) ≡ Some r
    by true ih e = e
    by false ih e = ih e

some_front : (ys zs : List Record) (P : Record → Type 0) → IsSomeAnd (first_big ys) P → IsSomeAnd (first_big (ys ++ zs)) P
some_front ys zs P = by (first_big ys) refl
  where
    by : (o : Option Record) → first_big ys ≡ o → IsSomeAnd o P → IsSomeAnd (first_big (ys ++ zs)) P
    by None e p = absurd p
    by (Some r) e p = rw (first_big-front ys zs r e) p

-- the fault of some records is that of all, where those before them are not too big
pub refused_within : (xs ys zs : List Record) (fault : GatherFault) → first_big xs ≡ None → IsRefusedAlone ys fault → IsRefusedAlone (xs ++ (ys ++ zs)) fault
refused_within xs ys zs (EntityTooBig id length) none refused = rw (first_big-append xs (ys ++ zs) none) (some_front ys zs _ refused)
refused_within xs ys zs (StoreTooBig length) none refused = refused
refused_within xs ys zs NoMemory none refused = refused

pub total_of-last : (rs : List Record) (r : Record) → total_of (rs ++ r ∷ []) ≡ total_of rs + size_of r
total_of-last rs r = sum_by_push size_of rs r

none_any : (rs : List Record) → first_big rs ≡ None → list_any (λ (r : Record). nat_lt 1048576 (entity_size r.entity)) rs ≡ false
none_any [] none = refl
none_any (r ∷ rs) none = let t = none_big r rs none in rw t.0 (none_any rs t.1)

pub not_too_big : (most : ℕ) (rs : List Record) → first_big rs ≡ None → total_of rs ≤ most → are_too_big most rs ≡ false
not_too_big most rs none within = or_from (list_any (λ (r : Record). nat_lt 1048576 (entity_size r.entity)) rs) (nat_lt most (total_of rs)) (none_any rs none) (le-ltb most (total_of rs) within)

pub refused_alone : (most : ℕ) (rs : List Record) (fault : GatherFault) → IsRefusedAlone rs fault → IsRefused most rs fault
refused_alone most rs (EntityTooBig id length) refused = refused
refused_alone most rs (StoreTooBig length) refused = absurd refused
refused_alone most rs NoMemory refused = tt

pub refused_together : (most : ℕ) (rs : List Record) (fault : GatherFault) → IsRefusedTogether most rs fault → IsRefused most rs fault
refused_together most rs (EntityTooBig id length) refused = absurd refused
refused_together most rs (StoreTooBig length) refused = refused
refused_together most rs NoMemory refused = absurd refused
