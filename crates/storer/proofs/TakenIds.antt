-- The ids that are gathered, one by one.
use Rattle.std.proofs.Common.{◌≡◌, ℕ, Bool, true, false, cond, not, ◌&&◌, [], ◌∷◌, refl}
use Rattle.std.specs.Prelude.{nat_eq}
use Rattle.session_model.specs.Instances.{Instances, instance_at}
use Rattle.object_registry.specs.References.{without_none}
use Rattle.storer.specs.declared.gathering.Gathering.{Gathering}
use Rattle.storer.specs.Gathered.{is_taken, taken}

one : (b c : Bool) (id : ℕ) → nat_eq id 0 ≡ b → (not b && c) ≡ true → without_none (cond c (id ∷ []) []) ≡ id ∷ []
one true c id e f = absurd cc
one false true id e f = rw e refl
one false false id e f = absurd cc

none : (b c : Bool) (id : ℕ) → nat_eq id 0 ≡ b → (not b && c) ≡ false → without_none (cond c (id ∷ []) []) ≡ []
none true true id e f = rw e refl
none true false id e f = refl
none false true id e f = absurd cc
none false false id e f = refl

pub taken-one : (gathering : Gathering) (is : Instances) (id : ℕ) → (not (nat_eq id 0) && is_taken gathering (instance_at is id)) ≡ true → without_none (taken gathering is (id ∷ [])) ≡ id ∷ []
taken-one gathering is id f = one (nat_eq id 0) (is_taken gathering (instance_at is id)) id refl f

pub taken-none : (gathering : Gathering) (is : Instances) (id : ℕ) → (not (nat_eq id 0) && is_taken gathering (instance_at is id)) ≡ false → without_none (taken gathering is (id ∷ [])) ≡ []
taken-none gathering is id f = none (nat_eq id 0) (is_taken gathering (instance_at is id)) id refl f
