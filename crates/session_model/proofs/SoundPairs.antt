-- A table of pairs stays sound: behind its rows goes a pair of one form of which no row has a name.
use Rattle.std.proofs.Common.{◌≡◌, ℕ, false, Bool, ◌||◌, List, [], ◌∷◌, ◌++◌, length, slice_get, Some, ◌⊎◌, inl, inr, refl, sym, ap, ◌∙◌, subst, zero, suc}
use Rattle.std.specs.List.{list_any}
use Rattle.std.proofs.lemmas.Bool.{or_parts}
use Rattle.refactor_table.specs.declared.name.Pair.{Pair}
use Rattle.refactor_table.specs.declared.name.RefName.{RefName}
use Rattle.refactor_table.specs.Names.{AreOfOneForm, same_name}
use Rattle.refactor_table.specs.Pairs.{AreSound}
use Rattle.refactor_table.proofs.Indexes.{get-push, same_name-Decides}

-- the row has the old name as its old one, or the new name as its new one
abbrev pub shares_name : RefName → RefName → Pair → Bool
shares_name old new row = same_name row.old old || same_name row.new new

pub none_are_sound : AreSound []
none_are_sound = record { one_form = λ k row at. absurd cc; own_old = λ j k row other at there same. absurd cc; own_new = λ j k row other at there same. absurd cc }

-- a row of a list of which none passes
fails_at : {X : Type 0} (p : X → Bool) (xs : List X) (k : ℕ) (x : X) → list_any p xs ≡ false → slice_get xs k ≡ Some x → p x ≡ false
fails_at p [] k x none at = absurd cc
fails_at p (y ∷ xs) zero x none at = let same : y ≡ x = cc in ap p (sym same) ∙ (or_parts (p y) (list_any p xs) none).0
fails_at p (y ∷ xs) (suc k) x none at = fails_at p xs k x (or_parts (p y) (list_any p xs) none).1 at

-- a row of the longer list stands among the others, or is the last
abbrev IsOld : List Pair → Pair → ℕ → Pair → Type 0
IsOld pairs pair k row = (slice_get pairs k ≡ Some row) ⊎ ((k ≡ length pairs) × (pair ≡ row))

-- no two rows have one name, in the place that f reads
are_own : (f : Pair → RefName) (pairs : List Pair) (pair : Pair)
    → ((j k : ℕ) (row other : Pair) → slice_get pairs j ≡ Some row → slice_get pairs k ≡ Some other → f row ≡ f other → j ≡ k)
    → ((k : ℕ) (row : Pair) → slice_get pairs k ≡ Some row → same_name (f row) (f pair) ≡ false)
    → (j k : ℕ) (row other : Pair) → slice_get (pairs ++ pair ∷ []) j ≡ Some row → slice_get (pairs ++ pair ∷ []) k ≡ Some other → f row ≡ f other → j ≡ k
are_own f pairs pair own others j k row other at there same = by (get-push pairs pair row j at) (get-push pairs pair other k there)
  where
    not_last : (i : ℕ) (r : Pair) → slice_get pairs i ≡ Some r → f r ≡ f pair → ⊥
    not_last i r is e = let yes = (same_name-Decides (f r) (f pair)).1 e in let no = others i r is in cc

    by : IsOld pairs pair j row → IsOld pairs pair k other → j ≡ k
    by (inl one) (inl two) = own j k row other one two same
    by (inl one) (inr last) = absurd (not_last j row one (same ∙ ap f (sym last.1)))
    by (inr last) (inl two) = absurd (not_last k other two (sym same ∙ ap f (sym last.1)))
    by (inr last) (inr end) = last.0 ∙ sym end.0

pub one_more_is_sound : (pairs : List Pair) (pair : Pair) → AreSound pairs → AreOfOneForm pair.old pair.new → list_any (shares_name pair.old pair.new) pairs ≡ false → AreSound (pairs ++ pair ∷ [])
one_more_is_sound pairs pair s form none = record {
  one_form = λ k row at. elim (get-push pairs pair row k at) [
    | inl old ↦ s.one_form k row old
    | inr last ↦ subst (λ (p : Pair). AreOfOneForm p.old p.new) last.1 form
  ];
  own_old = are_own (λ (p : Pair). p.old) pairs pair s.own_old (λ k row at. (others k row at).0);
  own_new = are_own (λ (p : Pair). p.new) pairs pair s.own_new (λ k row at. (others k row at).1);
}
  where
    others : (k : ℕ) (row : Pair) → slice_get pairs k ≡ Some row → (same_name row.old pair.old ≡ false) × (same_name row.new pair.new ≡ false)
    others k row at = or_parts (same_name row.old pair.old) (same_name row.new pair.new) (fails_at (shares_name pair.old pair.new) pairs k row none at)
