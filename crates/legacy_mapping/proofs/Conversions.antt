-- Converted values: one more, and their kinds.
use Rattle.std.proofs.Common.{◌≡◌, ℕ, zero, suc, ◌+◌, ◌<◌, List, [], ◌∷◌, ◌++◌, take, length, map, Option, Some, None, refl, sym, ap, ◌∙◌, arith}
use Rattle.std.specs.List.{AllZip}
use Rattle.std.specs.Option.{ForSome}
use Rattle.std.specs.Prelude.{slice_get, option_map, unwrap_or}
use Rattle.std.proofs.lemmas.List.{length-take}
use Rattle.std.proofs.lemmas.Option.{slice_get-map, slice_get_within}
use Rattle.std.proofs.lemmas.Slice.Zip.{AllZip-long}
use Rattle.entity_form.specs.Values.{kind_of, default_of, AreOf}
use Rattle.entity_form.specs.declared.value.Value.{Value}
use Rattle.type_desc.specs.declared.desc.Kind.{Kind}
use Rattle.type_desc.specs.declared.desc.Kind.TheVariants as kinds
use Rattle.type_desc.specs.declared.desc.Member.{Member}
use Rattle.legacy_mapping.specs.Conversion.{value_from, converted, Suits}
use Rattle.legacy_mapping.proofs.Lists.{take-more}

converted-push : (values : List Value) (ks : List Kind) (ss : List (Option ℕ)) (k : Kind) (s : Option ℕ) → length ss ≡ length ks
    → converted values (ks ++ k ∷ []) (ss ++ s ∷ []) ≡ converted values ks ss ++ value_from values k s ∷ []
converted-push values [] [] k s e = refl
converted-push values [] (t ∷ ts) k s e = absurd (omega arith)
converted-push values (j ∷ js) [] k s e = absurd (omega arith)
converted-push values (j ∷ js) (t ∷ ts) k s e = ap (λ (vs : List Value). value_from values j t ∷ vs) (converted-push values js ts k s (omega arith))

pub converted-more : (values : List Value) (ks : List Kind) (ss : List (Option ℕ)) (i : ℕ) (k : Kind) (s : Option ℕ) → length ss ≡ length ks
    → slice_get ks i ≡ Some k → slice_get ss i ≡ Some s
    → converted values (take (i + 1) ks) (take (i + 1) ss) ≡ converted values (take i ks) (take i ss) ++ value_from values k s ∷ []
converted-more values ks ss i k s e k_at s_at =
    rw (take-more ks i k k_at, take-more ss i s s_at) (converted-push values (take i ks) (take i ss) k s (omega (arith, length-take i ks, length-take i ss)))

pub suits_length : (old_kinds ks : List Kind) (ss : List (Option ℕ)) → Suits old_kinds ks ss → length ss ≡ length ks
suits_length old_kinds ks ss suits = AllZip-long _ ks ss suits

-- a source is a value
pub suits_within : (values : List Value) (ks : List Kind) (ss : List (Option ℕ)) (i : ℕ) (s : Option ℕ) → Suits (map kind_of values) ks ss → slice_get ss i ≡ Some s
    → ForSome s (λ j. j < length values)
suits_within values [] [] i s suits at = absurd cc
suits_within values [] (t ∷ ts) i s suits at = absurd suits
suits_within values (k ∷ ks) [] i s suits at = absurd suits
suits_within values (k ∷ ks) (t ∷ ts) zero s suits at = λ j e.
    let same : t ≡ s = (cc) in
    let there = suits.0 j (same ∙ e) in
    let within = slice_get_within (map kind_of values) j k there in
    let len = length-kinds values in
    omega arith
  where
    length-kinds : (vs : List Value) → length (map kind_of vs) ≡ length vs
    length-kinds [] = refl
    length-kinds (v ∷ vs) = omega (arith, length-kinds vs)
suits_within values (k ∷ ks) (t ∷ ts) (suc i) s suits at = suits_within values ks ts i s suits.1 at

-- ---- kinds

kind_of-default : (k : Kind) → kind_of (default_of k) ≡ k
kind_of-default kinds.Int = refl
kind_of-default kinds.Text = refl
kind_of-default kinds.Bytes = refl
kind_of-default kinds.Ref = refl
kind_of-default kinds.Lazy = refl
kind_of-default kinds.Refs = refl

kind_of-value : (values : List Value) (k : Kind) (s : Option ℕ) → ForSome s (λ i. slice_get (map kind_of values) i ≡ Some k) → kind_of (value_from values k s) ≡ k
kind_of-value values k None suits = kind_of-default k
kind_of-value values k (Some i) suits = known (slice_get values i) (sym (slice_get-map kind_of values i) ∙ suits i refl)
  where
    known : (found : Option Value) → option_map kind_of found ≡ Some k → kind_of (unwrap_or found (default_of k)) ≡ k
    known None e = absurd cc
    known (Some v) e = cc

pub kinds-converted : (values : List Value) (ks : List Kind) (ss : List (Option ℕ)) → Suits (map kind_of values) ks ss → AreOf ks (converted values ks ss)
kinds-converted values [] [] suits = refl
kinds-converted values [] (s ∷ ss) suits = absurd suits
kinds-converted values (k ∷ ks) [] suits = absurd suits
kinds-converted values (k ∷ ks) (s ∷ ss) suits = rw (kind_of-value values k s suits.0, kinds-converted values ks ss suits.1) refl
