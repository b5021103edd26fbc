-- Reading members one after the other, as a loop does.
use Rattle.std.proofs.Common.{◌≡◌, ℕ, zero, suc, ◌-◌, ◌+◌, ◌≤◌, ◌<◌, Bool, false, cond, eqb, List, [], ◌∷◌, ◌++◌, length, get_or, drop, Ok, Err, refl, sym, ap, ◌∙◌, append_assoc, arith}
use Rattle.std.proofs.lemmas.List.{append-nil}
use Rattle.type_desc.specs.declared.desc.Member.{Member}
use Rattle.type_desc.specs.declared.fault.ReadFault.{ReadFault}
use Rattle.type_desc.specs.declared.fault.ReadFault.TheVariants as faults
use Rattle.type_desc.specs.Reader.{Reading, ◌>>=◌}
use Rattle.type_desc.specs.Gives.{Stops}
use Rattle.type_desc.specs.Reading.{with_front}
use Rattle.script_text.specs.Arguments.{member_at, members_at}

pub no_front : (reading : Reading (List Member)) → with_front [] reading ≡ reading
no_front (Ok x) = refl
no_front (Err left) = refl

regroup : (front : List Member) (m : Member) (reading : Reading (List Member)) → with_front front (reading >>= λ x. Ok (m ∷ x.0, x.1)) ≡ with_front (front ++ m ∷ []) reading
regroup front m (Ok x) = ap (λ (ms : List Member). Ok (ms, x.1)) (simp append_assoc)
regroup front m (Err left) = refl

-- a space and what is read behind it
space_first : (most : ℕ) (rest : List ℕ) → 1 ≤ length rest → get_or rest 0 0 ≡ 32
    → members_at (suc most) rest ≡ (member_at (drop 1 rest) >>= λ first. members_at most first.1 >>= λ others. Ok (first.0 ∷ others.0, others.1))
unfolding members_at
space_first most [] h e = absurd (omega arith)
space_first most (b ∷ bs) h e = rw e refl

pub goes_on : (front : List Member) (counter : ℕ) (rest : List ℕ) (m : Member) (after : List ℕ) (total : Reading (List Member)) → counter < 1024
    → 1 ≤ length rest → get_or rest 0 0 ≡ 32 → member_at (drop 1 rest) ≡ Ok (m, after)
    → with_front front (members_at (1024 - counter) rest) ≡ total → with_front (front ++ m ∷ []) (members_at (1024 - (counter + 1)) after) ≡ total
goes_on front counter rest m after total lt long space h so_far =
    let most = 1024 - (counter + 1) in
    let k : 1024 - counter ≡ suc most = omega arith in
    let one : with_front front (members_at (1024 - counter) rest) ≡ with_front (front ++ m ∷ []) (members_at most after) =
    rw (k, space_first most rest long space, h) (regroup front m (members_at most after)) in
    sym one ∙ so_far

pub stops : (fault : ReadFault) (front : List Member) (counter : ℕ) (rest : List ℕ) (total : Reading (List Member)) → counter < 1024
    → 1 ≤ length rest → get_or rest 0 0 ≡ 32 → Stops fault (member_at (drop 1 rest))
    → with_front front (members_at (1024 - counter) rest) ≡ total → Stops fault total
stops faults.Memory front counter rest total lt long space h so_far = tt
stops (faults.Stuck left) front counter rest total lt long space h so_far =
    let most = 1024 - (counter + 1) in
    let k : 1024 - counter ≡ suc most = omega arith in
    let one : with_front front (members_at (1024 - counter) rest) ≡ Err left = rw (k, space_first most rest long space, h) refl in
    sym so_far ∙ one

all_read : (front : List Member) (rest : List ℕ) → with_front front (Ok ([], rest)) ≡ Ok (front, rest)
all_read front rest = ap (λ (ms : List Member). Ok (ms, rest)) (append-nil front)

by_byte : (t : Bool) (with_space : Reading (List Member)) (rest : List ℕ) → t ≡ false → cond t with_space (Ok ([], rest)) ≡ Ok ([], rest)
by_byte t with_space rest e = rw e refl

no_space : (most : ℕ) (rest : List ℕ) → (1 ≤ length rest → eqb (get_or rest 0 0) 32 ≡ false) → members_at most rest ≡ Ok ([], rest)
unfolding members_at
no_space zero rest h = refl
no_space (suc most) [] h = refl
no_space (suc most) (b ∷ bs) h = by_byte (eqb b 32) _ (b ∷ bs) (h (omega arith))

pub ends_there : (front : List Member) (most : ℕ) (rest : List ℕ) (total : Reading (List Member)) → (1 ≤ length rest → eqb (get_or rest 0 0) 32 ≡ false)
    → with_front front (members_at most rest) ≡ total → total ≡ Ok (front, rest)
ends_there front most rest total h so_far = sym so_far ∙ ap (with_front front) (no_space most rest h) ∙ all_read front rest

pub ends_full : (front : List Member) (counter : ℕ) (rest : List ℕ) (total : Reading (List Member)) → 1024 ≤ counter
    → with_front front (members_at (1024 - counter) rest) ≡ total → total ≡ Ok (front, rest)
unfolding members_at
ends_full front counter rest total h so_far =
    let k : 1024 - counter ≡ 0 = omega arith in
    let one : with_front front (members_at (1024 - counter) rest) ≡ Ok (front, rest) = rw k (all_read front rest) in
    sym so_far ∙ one
