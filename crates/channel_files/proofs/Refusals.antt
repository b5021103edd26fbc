-- What holds after a refusal.
use Rattle.std.proofs.Common.{◌≡◌, ℕ, Option, Some, None, Result, Ok, Err, IfSome, IfErr, OnOk, OnErr, refl}
use Rattle.std.specs.Prelude.{IsErrOf}
use Rattle.channel_files.specs.declared.fault.FilesFault.{FilesFault}
use Rattle.channel_files.specs.declared.fault.FilesFault.TheVariants as files
use Rattle.channel_files.specs.Faults.{UnlessFault}

-- `Full` leaves what it says, and every other refusal is `Fault`
pub unless_fault : {A : Type 0} (P Q E : Type 0) (r : Result A FilesFault) (o : Option ℕ) → IfSome o (λ n. IsErrOf r (files.Full n) × Q) → (o ≡ None → IfErr r (λ e. e ≡ files.Fault)) → OnErr r E → (Q → E → P) → OnOk r P
    → UnlessFault r P
unless_fault P Q E (Ok a) o full not_full err from ok = ok
unless_fault P Q E (Err files.Fault) o full not_full err from ok = tt
unless_fault P Q E (Err (files.Full n)) (Some m) full not_full err from ok = from full.1 err
unless_fault P Q E (Err (files.Full n)) None full not_full err from ok = absurd (wrong n (not_full refl))
  where
    wrong : (n : ℕ) → files.Full n ≡ files.Fault → ⊥
    wrong n is = cc
unless_fault P Q E (Err (files.Unconfirmed n)) (Some m) full not_full err from ok = from full.1 err
unless_fault P Q E (Err (files.Unconfirmed n)) None full not_full err from ok = absurd (wrong n (not_full refl))
  where
    wrong : (n : ℕ) → files.Unconfirmed n ≡ files.Fault → ⊥
    wrong n is = cc
unless_fault P Q E (Err (files.Changed n)) (Some m) full not_full err from ok = from full.1 err
unless_fault P Q E (Err (files.Changed n)) None full not_full err from ok = absurd (wrong n (not_full refl))
  where
    wrong : (n : ℕ) → files.Changed n ≡ files.Fault → ⊥
    wrong n is = cc
