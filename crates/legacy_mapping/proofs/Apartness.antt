-- No two members have one source.
use Rattle.std.proofs.Common.{◌≡◌, ℕ, zero, suc, List, [], ◌∷◌, take, Option, Some, refl, sym, ap, ◌∙◌, subst}
use Rattle.std.specs.List.{AllZip}
use Rattle.std.specs.Prelude.{slice_get}
use Rattle.type_desc.specs.OwnNames.{HaveOwnNames, IsNamed, names_of}
use Rattle.refactor_table.specs.Pairs.{AreSound, Leads, pair_of}
use Rattle.refactor_table.specs.declared.name.Pair.{Pair}
use Rattle.refactor_table.specs.declared.name.RefName.TheVariants.{OfMember}
use Rattle.type_desc.specs.declared.desc.TypeDesc.{TypeDesc}
use Rattle.legacy_mapping.specs.Sources.{AreApart, IsCarried, IsPaired, IsSource}

-- what stands among the first elements
within_front : {X : Type 0} (n : ℕ) (xs : List X) (k : ℕ) (x : X) → slice_get (take n xs) k ≡ Some x → slice_get xs k ≡ Some x
within_front zero xs k x at = absurd cc
within_front (suc n) [] k x at = absurd cc
within_front (suc n) (y ∷ xs) zero x at = at
within_front (suc n) (y ∷ xs) (suc k) x at = within_front n xs k x at

-- the partner of an element
record PairedAt {A B : Type 0} (R : A → B → Type 0) (xs : List A) (y : B) (k : ℕ) : Type 0 where
  pub left : A
  pub at : slice_get xs k ≡ Some left
  pub holds : R left y

paired_at : {A B : Type 0} (R : A → B → Type 0) (xs : List A) (ys : List B) (y : B) (k : ℕ) → AllZip R xs ys → slice_get ys k ≡ Some y → PairedAt R xs y k
paired_at R [] [] y k all at = absurd cc
paired_at R [] (b ∷ bs) y k all at = absurd all
paired_at R (a ∷ as') [] y k all at = absurd all
paired_at R (a ∷ as') (b ∷ bs) y zero all at = let same : b ≡ y = cc in record { left = a; at = refl; holds = subst (R a) same all.0 }
paired_at R (a ∷ as') (b ∷ bs) y (suc k) all at = let rest = paired_at R as' bs y k all.1 at in record { left = rest.left; at = rest.at; holds = rest.holds }

-- ---- two members with one source

-- pairs carry the old member to both
both_paired : (pairs : List Pair) (old new : TypeDesc) (a b : List ℕ) (i j : ℕ) → AreSound pairs → i ≡ j → IsPaired pairs old new a i → IsPaired pairs old new b j → a ≡ b
both_paired pairs old new a b i j sound same p q =
    let some : Some p.0 ≡ Some q.0 = sym p.1 ∙ ap (slice_get (names_of old.members)) same ∙ q.1 in
    let from : p.0 ≡ q.0 = cc in
    let row : List ℕ → List ℕ → Pair = λ f t. pair_of (OfMember old.name f) (OfMember new.name t) in
    let one : p.2.0 ≡ q.2.0 = sound.own_old p.2.0 q.2.0 (row p.0 a) (row q.0 b) p.2.1 q.2.1 (ap (OfMember old.name) from) in
    let rows : Some (row p.0 a) ≡ Some (row q.0 b) = sym p.2.1 ∙ ap (slice_get pairs) one ∙ q.2.1 in
    let pair : pair_of (OfMember old.name p.0) (OfMember new.name a) ≡ pair_of (OfMember old.name q.0) (OfMember new.name b) = cc in
    let news : OfMember new.name a ≡ OfMember new.name b = ap (λ (r : Pair). r.new) pair in
    cc

-- a pair carries the old member to one, so it is no source by its name
paired_carried : (pairs : List Pair) (old new : TypeDesc) (a b : List ℕ) (k i j : ℕ) → i ≡ j → IsNamed new.members k a → IsPaired pairs old new a i → IsNamed old.members j b → IsCarried pairs old new b
paired_carried pairs old new a b k i j same named p is =
    let some : Some p.0 ≡ Some b = sym p.1 ∙ ap (slice_get (names_of old.members)) same ∙ is in
    let from : p.0 ≡ b = cc in
    (k, a, named, subst (λ (f : List ℕ). Leads pairs (OfMember old.name f) (OfMember new.name a)) from p.2)

same_source : (pairs : List Pair) (old new : TypeDesc) (k l i : ℕ) (a b : List ℕ) → AreSound pairs → HaveOwnNames new.members → IsNamed new.members k a → IsNamed new.members l b
    → (s t : Option ℕ) → IsSource pairs old new a s → IsSource pairs old new b t → s ≡ Some i → t ≡ Some i → k ≡ l
same_source pairs old new k l i a b sound own here there _ _ (IsSource.paired x p) (IsSource.paired y q) e f =
    let one : x ≡ y = cc in
    own k l b (here ∙ ap Some (both_paired pairs old new a b x y sound one p q)) there
same_source pairs old new k l i a b sound own here there _ _ (IsSource.paired x p) (IsSource.alike y none q) e f =
    let one : x ≡ y = cc in
    absurd (q.1 (paired_carried pairs old new a b k x y one here p q.0))
same_source pairs old new k l i a b sound own here there _ _ (IsSource.alike x none p) (IsSource.paired y q) e f =
    let one : y ≡ x = cc in
    absurd (p.1 (paired_carried pairs old new b a l y x one there q p.0))
same_source pairs old new k l i a b sound own here there _ _ (IsSource.alike x none p) (IsSource.alike y none' q) e f =
    let one : x ≡ y = cc in
    own k l b (here ∙ (sym p.0 ∙ ap (slice_get (names_of old.members)) one ∙ q.0)) there
same_source pairs old new k l i a b sound own here there _ _ (IsSource.none none other) (IsSource.paired y q) e f = absurd cc
same_source pairs old new k l i a b sound own here there _ _ (IsSource.none none other) (IsSource.alike y none' q) e f = absurd cc
same_source pairs old new k l i a b sound own here there _ _ (IsSource.none none other) (IsSource.none none' q) e f = absurd cc
same_source pairs old new k l i a b sound own here there _ _ (IsSource.paired x p) (IsSource.none none q) e f = absurd cc
same_source pairs old new k l i a b sound own here there _ _ (IsSource.alike x none p) (IsSource.none none' q) e f = absurd cc

pub sources_apart : (pairs : List Pair) (old new : TypeDesc) (n : ℕ) (sources : List (Option ℕ)) → AreSound pairs → HaveOwnNames new.members
    → AllZip (IsSource pairs old new) (take n (names_of new.members)) sources → AreApart sources
sources_apart pairs old new n sources sound own all = λ k l i at at'.
    let p = paired_at (IsSource pairs old new) (take n (names_of new.members)) sources (Some i) k all at in
    let q = paired_at (IsSource pairs old new) (take n (names_of new.members)) sources (Some i) l all at' in
    same_source pairs old new k l i p.left q.left sound own (within_front n (names_of new.members) k p.left p.at) (within_front n (names_of new.members) l q.left q.at) (Some i) (Some i) p.holds q.holds refl refl
