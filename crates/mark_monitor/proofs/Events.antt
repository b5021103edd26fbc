-- What beginning a store makes of the monitor and a hand in format 1, where every channel is one of the store's.
use Rattle.std.proofs.Common.{◌≡◌, ◌∙◌, ℕ, ◌+◌, ◌^◌, ◌≤◌, Bool, true, ◌&&◌, nat_eq, List, [], ◌∷◌, length, filter, Option, Some, refl, ap}
use Rattle.std.specs.Prelude.{nat_le}
use Rattle.std.specs.List.{range_with_len}
use Rattle.std.proofs.lemmas.Bool.{and_from, le-leb, eq-eqb}
use Rattle.graph_model.specs.declared.entity.StoreOp.{StoreOp}
use Rattle.core_steps.specs.declared.state.CoreMonitor.{CoreMonitor}
use Rattle.core_steps.specs.declared.event.Event.TheVariants.{StoreBegin}
use Rattle.core_steps.specs.Core.{Hand}
use Rattle.core_steps.specs.Rows.{given, seeing, may_begin, begun_store, monitor_step}

is_given : {A : Type 0} (test : Bool) (x : A) → test ≡ true → given test x ≡ Some x
is_given test x e = rw e refl

filter_all : (xs : List ℕ) → filter (λ (x : ℕ). true) xs ≡ xs
filter_all [] = refl
filter_all (x ∷ xs) = ap (λ (ys : List ℕ). x ∷ ys) (filter_all xs)

pub begins_store : (m : CoreMonitor) (h : Hand) (op : StoreOp) → m.stores_begun ≡ m.stores_ended → m.stores_begun ≤ 2 ^ 63
    → monitor_step (record m { format = 1 }) h (StoreBegin op) ≡ Some (seeing
    (record m { format = 1; stores_begun = m.stores_begun + 1 })
    (record h { opened = Some (record { number = m.stores_begun + 1; channels = range_with_len 0 (length m.begun); written = [] }) }))
begins_store m h op none room =
    let now : CoreMonitor = record m { format = 1 } in
    let then : CoreMonitor = record m { format = 1; stores_begun = m.stores_begun + 1 } in
    let may : may_begin now op ≡ true =
    and_from (nat_eq m.stores_begun m.stores_ended) (nat_le m.stores_begun (2 ^ 63) && true) (eq-eqb m.stores_begun m.stores_ended none)
    (and_from (nat_le m.stores_begun (2 ^ 63)) true (le-leb m.stores_begun (2 ^ 63) room) refl) in
    is_given (may_begin now op) (seeing then (record h { opened = Some (begun_store now op) })) may
    ∙ ap (λ (cs : List ℕ). Some (seeing then (record h { opened = Some (record { number = m.stores_begun + 1; channels = cs; written = [] }) })))
    (filter_all (range_with_len 0 (length m.begun)))
