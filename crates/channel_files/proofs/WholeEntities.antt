-- Whole entities one after another are read as these.
use Rattle.std.proofs.Common.{◌≡◌, ℕ, suc, ◌-◌, List, [], ◌∷◌, ◌++◌, length, take, Option, Some, unwrap_or, refl, ap, sym, ◌∙◌, arith, length-append, append_assoc, append-nil}
use Rattle.std.specs.List.{flat_map, AllByRecursion}
use Rattle.std.proofs.lemmas.List.{take_at}
use Rattle.field_bytes.specs.Fields.{number_at}
use Rattle.data_file.specs.Chunks.{IsEntity, entities_from, entities_of}
use Rattle.channel_files.proofs.NumbersInFront.{number_in_front}

skipped : (front rest : List ℕ) → entities_from (length front) (front ++ rest) ≡ entities_of rest
skipped [] rest = refl
skipped (b ∷ front) rest =
    let one_more : length (b ∷ front) ≡ suc (length front) = omega arith in
    ap (λ (k : ℕ). entities_from k (b ∷ front ++ rest)) one_more ∙ skipped front rest

-- its length is read at its front, whatever stands behind it
pub own_length : (entity rest : List ℕ) → IsEntity entity → number_at 8 (entity ++ rest) 0 ≡ Some (length entity)
own_length entity rest is =
    sym (number_in_front (length entity) 0 (entity ++ rest) (omega (arith, is.least)) (omega (arith, length-append entity rest)))
    ∙ ap (λ (front : List ℕ). number_at 8 front 0) (take_at entity rest (length entity) refl)
    ∙ is.length_is

pub first_entity : (entity rest : List ℕ) → IsEntity entity → entities_of (entity ++ rest) ≡ entity ∷ entities_of rest
first_entity [] rest is = absurd (omega (arith, is.least))
first_entity (b ∷ entity) rest is =
    let size : unwrap_or (number_at 8 (b ∷ (entity ++ rest)) 0) 0 ≡ length (b ∷ entity) = ap (λ (o : Option ℕ). unwrap_or o 0) (own_length (b ∷ entity) rest is) in
    let less : length (b ∷ entity) - 1 ≡ length entity = omega arith in
    ap (λ (k : ℕ). take k (b ∷ (entity ++ rest)) ∷ entities_from (k - 1) (entity ++ rest)) size
    ∙ ap (λ (front : List ℕ). front ∷ entities_from (length (b ∷ entity) - 1) (entity ++ rest)) (take_at (b ∷ entity) rest (length (b ∷ entity)) refl)
    ∙ ap (λ (k : ℕ). (b ∷ entity) ∷ entities_from k (entity ++ rest)) less
    ∙ ap (λ (more : List (List ℕ)). (b ∷ entity) ∷ more) (skipped entity rest)

abbrev pub joined : List (List ℕ) → List ℕ
joined es = flat_map (λ (e : List ℕ). e) es

-- whole entities in front are read as these
pub entities_in_front : (es : List (List ℕ)) (rest : List ℕ) → AllByRecursion IsEntity es → entities_of (joined es ++ rest) ≡ es ++ entities_of rest
entities_in_front [] rest all = refl
entities_in_front (e ∷ es) rest all = ap entities_of (append_assoc e (joined es) rest)
    ∙ (first_entity e (joined es ++ rest) all.0 ∙ ap (λ (more : List (List ℕ)). e ∷ more) (entities_in_front es rest all.1))

pub entities_again : (es : List (List ℕ)) → AllByRecursion IsEntity es → entities_of (joined es) ≡ es
entities_again es all = ap entities_of (sym (append-nil (joined es))) ∙ (entities_in_front es [] all ∙ append-nil es)
