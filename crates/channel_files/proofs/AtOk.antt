-- What an outcome's clauses give together.
use Rattle.std.proofs.Common.{◌≡◌, ℕ, Option, Some, None, Result, Ok, Err, IfOk, OnOk, OnErr, IfSome, sym, ap, ◌∙◌, subst}
use Rattle.transactions_file.specs.Transactions.{Transactions}
use Rattle.channel_files.specs.Channel.{Channel}
use Rattle.channel_files.specs.declared.fault.FilesFault.{FilesFault}
use Rattle.channel_files.specs.Faults.{UnlessFault}

-- what holds of the one value that may be answered
pub at_value : {A E : Type 0} (r : Result A E) (q : A) (X : A → Type 0) → IfOk r (λ p. p ≡ q) → OnOk r (X q) → IfOk r X
at_value (Ok p) q X is holds = subst X (sym is) holds
at_value (Err e) q X is holds = tt

pub on_ok : {A E : Type 0} (r : Result A E) (P Q : Type 0) → (P → Q) → OnOk r P → OnOk r Q
on_ok (Ok p) P Q from holds = from holds
on_ok (Err e) P Q from holds = tt

-- at `Ok` two facts hold that hold unless a fault came
pub on_ok_both : {A : Type 0} (r : Result A FilesFault) (P Q S : Type 0) (Z : A → Type 0) (X : Type 0) → UnlessFault r P → UnlessFault r Q → OnOk r S → IfOk r Z → (P → Q → S → (a : A) → Z a → X) → OnOk r X
on_ok_both (Ok p) P Q S Z X p1 p2 p3 p4 from = from p1 p2 p3 p p4
on_ok_both (Err e) P Q S Z X p1 p2 p3 p4 from = tt

pub if_some : (o : Option ℕ) (P Q : ℕ → Type 0) → ((n : ℕ) → P n → Q n) → IfSome o P → IfSome o Q
if_some (Some n) P Q from holds = from n holds
if_some None P Q from holds = tt

-- a channel of another disk and log
abbrev pub channel_with : {D : Type 0} → Channel D → D → Transactions → Channel D
channel_with c disk t = record { disk = disk; transactions = t; sizes = c.sizes; confirmed = c.confirmed }

pub same_channel : {D : Type 0} (c : Channel D) (disk : D) (t : Transactions) → disk ≡ c.disk → t ≡ c.transactions → channel_with c disk t ≡ c
same_channel {D} c disk t d e = ap (λ (disk : D). channel_with c disk t) d ∙ ap (λ (t : Transactions). channel_with c c.disk t) e

pub on_ok_all : {A E : Type 0} (r : Result A E) (P Q S Z X : Type 0) → OnOk r P → OnOk r Q → OnOk r S → OnOk r Z → (P → Q → S → Z → X) → OnOk r X
on_ok_all (Ok p) P Q S Z X p1 p2 p3 p4 from = from p1 p2 p3 p4
on_ok_all (Err e) P Q S Z X p1 p2 p3 p4 from = tt

-- what holds at each refusal holds at this one
pub at_err : {A E : Type 0} (r : Result A E) (e : E) (P : Type 0) → r ≡ Err e → OnErr r P → P
at_err r e P is holds = subst (λ r. OnErr r P) is holds

-- with another number of the last confirmed store too
abbrev pub channel_of : {D : Type 0} → Channel D → D → Transactions → ℕ → Channel D
channel_of c disk t confirmed = record { disk = disk; transactions = t; sizes = c.sizes; confirmed = confirmed }

pub whole_channel : {D : Type 0} (c : Channel D) (disk : D) (t : Transactions) (confirmed : ℕ) → disk ≡ c.disk → t ≡ c.transactions → confirmed ≡ c.confirmed → channel_of c disk t confirmed ≡ c
whole_channel {D} c disk t confirmed d e k =
    ap (λ (disk : D). channel_of c disk t confirmed) d ∙ ap (λ (t : Transactions). channel_of c c.disk t confirmed) e ∙ ap (λ (k : ℕ). channel_of c c.disk c.transactions k) k
