-- Laws of finite maps whose keys are numbers.
use Rattle.std.specs.Prelude.{◌≡◌, ℕ, ◌+◌, ◌-◌, true, false, cond, None, Some}
use Rattle.std.specs.Ordering.{nat_cmp, eq_by_cmp}
use Rattle.std.specs.Cmp.{nat_cmp_total}
use Rattle.std.specs.FinMap.{FinMap, get, insert, remove, len, same_map, get-insert, get-remove, len-insert, len-remove, nat_cmp-IsAntisymmetric}
use Rattle.std.proofs.Common.{inl, inr, refl, sym, ap, subst, ◌∙◌, arith}
use Rattle.std.proofs.lemmas.Bool.{cases_eq}
use Rattle.std.proofs.lemmas.Bool.Decides.{nat_tests}

-- a key is itself, and no other number
pub same_key : (k : ℕ) → eq_by_cmp nat_cmp k k ≡ true
same_key k = grind (arith, nat_tests)

pub other_key : (q k : ℕ) → (q ≡ k → ⊥) → eq_by_cmp nat_cmp q k ≡ false
other_key q k differs = grind (arith, nat_tests)

module _ {V : Type 0} where
  pub get-insert_same : (m : FinMap nat_cmp V) (k : ℕ) (v : V) → get (insert m k v) k ≡ Some v
  get-insert_same m k v = rw (get-insert nat_cmp_total m k v k, same_key k) refl

  pub get-insert_other : (m : FinMap nat_cmp V) (k : ℕ) (v : V) (q : ℕ) → (q ≡ k → ⊥) → get (insert m k v) q ≡ get m q
  get-insert_other m k v q differs = rw (get-insert nat_cmp_total m k v q, other_key q k differs) refl

  pub get-remove_same : (m : FinMap nat_cmp V) (k : ℕ) → get (remove m k) k ≡ None
  get-remove_same m k = rw (get-remove nat_cmp_total m k k, same_key k) refl

  pub get-remove_other : (m : FinMap nat_cmp V) (k q : ℕ) → (q ≡ k → ⊥) → get (remove m k) q ≡ get m q
  get-remove_other m k q differs = rw (get-remove nat_cmp_total m k q, other_key q k differs) refl

  -- maps that answer alike at a key and at each other number are one map
  pub same_by_key : (m n : FinMap nat_cmp V) (k : ℕ) → get m k ≡ get n k → ((q : ℕ) → (q ≡ k → ⊥) → get m q ≡ get n q) → m ≡ n
  same_by_key m n k at others =
      same_map nat_cmp_total nat_cmp-IsAntisymmetric m n (λ q. elim (cases_eq q k) as (λ _. get m q ≡ get n q) [
        | inl same ↦ subst (λ x. get m x ≡ get n x) (sym same) at
        | inr differs ↦ others q differs
      ])

  pub insert-insert_same : (m : FinMap nat_cmp V) (k : ℕ) (w v : V) → insert (insert m k w) k v ≡ insert m k v
  insert-insert_same m k w v =
      same_by_key _ _ k (get-insert_same (insert m k w) k v ∙ sym (get-insert_same m k v))
      (λ q differs. get-insert_other (insert m k w) k v q differs ∙ get-insert_other m k w q differs ∙ sym (get-insert_other m k v q differs))

  pub insert-insert_other : (m : FinMap nat_cmp V) (j : ℕ) (w : V) (k : ℕ) (v : V) → (j ≡ k → ⊥) → insert (insert m j w) k v ≡ insert (insert m k v) j w
  insert-insert_other m j w k v differs =
      same_by_key _ _ k
      (get-insert_same (insert m j w) k v ∙ sym (get-insert_other (insert m k v) j w k (λ e. differs (sym e)) ∙ get-insert_same m k v))
      (λ q not_k. get-insert_other (insert m j w) k v q not_k ∙ get-insert nat_cmp_total m j w q
      ∙ ap (cond (eq_by_cmp nat_cmp q j) (Some w)) (sym (get-insert_other m k v q not_k)) ∙ sym (get-insert nat_cmp_total (insert m k v) j w q))

  pub remove-insert_other : (m : FinMap nat_cmp V) (j : ℕ) (w : V) (k : ℕ) → (j ≡ k → ⊥) → remove (insert m j w) k ≡ insert (remove m k) j w
  remove-insert_other m j w k differs =
      same_by_key _ _ k
      (get-remove_same (insert m j w) k ∙ sym (get-insert_other (remove m k) j w k (λ e. differs (sym e)) ∙ get-remove_same m k))
      (λ q not_k. get-remove_other (insert m j w) k q not_k ∙ get-insert nat_cmp_total m j w q
      ∙ ap (cond (eq_by_cmp nat_cmp q j) (Some w)) (sym (get-remove_other m k q not_k)) ∙ sym (get-insert nat_cmp_total (remove m k) j w q))

  -- to put in a new key and take it out leaves the map
  pub remove-insert_new : (m : FinMap nat_cmp V) (k : ℕ) (v : V) → get m k ≡ None → remove (insert m k v) k ≡ m
  remove-insert_new m k v new =
      same_by_key _ _ k (get-remove_same (insert m k v) k ∙ sym new)
      (λ q differs. get-remove_other (insert m k v) k q differs ∙ get-insert_other m k v q differs)

  -- to take out a key and put it in again leaves the map
  pub insert-remove_back : (m : FinMap nat_cmp V) (k : ℕ) (v : V) → get m k ≡ Some v → insert (remove m k) k v ≡ m
  insert-remove_back m k v had =
      same_by_key _ _ k (get-insert_same (remove m k) k v ∙ sym had)
      (λ q differs. get-insert_other (remove m k) k v q differs ∙ get-remove_other m k q differs)

  pub remove-absent : (m : FinMap nat_cmp V) (k : ℕ) → get m k ≡ None → remove m k ≡ m
  remove-absent m k absent = same_by_key _ _ k (get-remove_same m k ∙ sym absent) (λ q differs. get-remove_other m k q differs)

  pub len-insert_new : (m : FinMap nat_cmp V) (k : ℕ) (v : V) → get m k ≡ None → len (insert m k v) ≡ len m + 1
  len-insert_new m k v new = rw (len-insert nat_cmp_total m k v, new) refl

  pub len-insert_old : (m : FinMap nat_cmp V) (k : ℕ) (w v : V) → get m k ≡ Some w → len (insert m k v) ≡ len m
  len-insert_old m k w v had = rw (len-insert nat_cmp_total m k v, had) refl

  pub len-remove_old : (m : FinMap nat_cmp V) (k : ℕ) (w : V) → get m k ≡ Some w → len (remove m k) ≡ len m - 1
  len-remove_old m k w had = rw (len-remove nat_cmp_total m k, had) refl

  -- a key that was taken out and put in with another value
  pub insert-remove_same : (m : FinMap nat_cmp V) (k : ℕ) (v : V) → insert (remove m k) k v ≡ insert m k v
  insert-remove_same m k v =
      same_by_key
      _
      _
      k
      (get-insert_same (remove m k) k v ∙ sym (get-insert_same m k v))
      (λ q differs. get-insert_other (remove m k) k v q differs ∙ get-remove_other m k q differs ∙ sym (get-insert_other m k v q differs))
