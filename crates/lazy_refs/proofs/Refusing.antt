-- The least of the ids that cannot be converted, when one more is done.
use Rattle.std.proofs.Common.{◌≡◌, ℕ, ◌≤◌, ◌<◌, Bool, true, false, cond, ◌||◌, List, Option, Some, None, ◌⊎◌, inl, inr, refl, sym, ap, ◌∙◌, arith}
use Rattle.std.specs.Prelude.{nat_eq, nat_lt}
use Rattle.std.proofs.lemmas.Bool.{or_cases, or_left, or_right, eq-eqb, eqb-true, ltb-true, ltb-false}
use Rattle.graph_model.specs.Ids.{has}
use Rattle.graph_model.specs.Graph.{Graph}
use Rattle.type_desc.specs.declared.desc.TypeDesc.{TypeDesc}
use Rattle.refactor_table.specs.declared.name.Pair.{Pair}
use Rattle.session_model.specs.Loading.{Converted}
use Rattle.lazy_refs.specs.Steps.{IsLeast, reason_in, reason_of}
use Rattle.lazy_refs.specs.Walks.{lower_of, refused_as, refuses_with}
use Rattle.lazy_refs.specs.declared.step.Reason.{Reason}
use Rattle.lazy_refs.specs.declared.step.Reason.TheVariants as reasons
use Rattle.lazy_refs.specs.declared.step.Refused.{Refused}

-- the second set has one id more
abbrev pub IsMore : List ℕ → List ℕ → ℕ → Type 0
IsMore done more a = (x : ℕ) → has x more ≡ (nat_eq x a || has x done)

pub which : (done more : List ℕ) (a x : ℕ) → IsMore done more a → has x more ≡ true → (x ≡ a) ⊎ (has x done ≡ true)
which done more a x is h = elim (or_cases (nat_eq x a) (has x done) (sym (is x) ∙ h)) [ inl same ↦ inl (eqb-true x a same) | inr old ↦ inr old ]

pub is_in : (done more : List ℕ) (a : ℕ) → IsMore done more a → has a more ≡ true
is_in done more a is = is a ∙ or_left (nat_eq a a) (has a done) (eq-eqb a a refl)

stays_in : (done more : List ℕ) (a x : ℕ) → IsMore done more a → has x done ≡ true → has x more ≡ true
stays_in done more a x is h = is x ∙ or_right (nat_eq x a) (has x done) h

-- the new one is converted
least_loaded : (types : List TypeDesc) (pairs : List Pair) (g : Graph) (done more : List ℕ) (a : ℕ) (old : Option Refused) → IsMore done more a
    → reason_in types pairs g a ≡ None → IsLeast types pairs g done old → IsLeast types pairs g more old
least_loaded types pairs g done more a None is none l = λ x h. elim (which done more a x is h) [
  | inl same ↦ ap (reason_in types pairs g) same ∙ none
  | inr there ↦ l x there
]
least_loaded types pairs g done more a (Some r) is none l = (
  stays_in done more a r.id is l.0,
  l.1,
  λ x reason h e. elim (which done more a x is h) [
    | inl same ↦ absurd (let never : None ≡ Some reason = sym (ap (reason_in types pairs g) same ∙ none) ∙ e in cc)
    | inr there ↦ l.2 x reason there e
  ],
)

-- it is not
least_refused : (types : List TypeDesc) (pairs : List Pair) (g : Graph) (done more : List ℕ) (a : ℕ) (reason : Reason) (old : Option Refused) → IsMore done more a
    → reason_in types pairs g a ≡ Some reason → IsLeast types pairs g done old → IsLeast types pairs g more (lower_of old (refused_as a reason))
least_refused types pairs g done more a reason None is why l = (
  is_in done more a is,
  why,
  λ x other h e. elim (which done more a x is h) [
    | inl same ↦ omega arith
    | inr there ↦ absurd (let never : None ≡ Some other = sym (l x there) ∙ e in cc)
  ],
)
least_refused types pairs g done more a reason (Some r) is why l = by (nat_lt r.id a) refl
  where
    by : (b : Bool) → nat_lt r.id a ≡ b → IsLeast types pairs g more (cond b (Some r) (Some (refused_as a reason)))
    by true e = let less : r.id < a = ltb-true r.id a e in (
      stays_in done more a r.id is l.0,
      l.1,
      λ x other h w. elim (which done more a x is h) [
        | inl same ↦ omega arith
        | inr there ↦ l.2 x other there w
      ],
    )
    by false e = let less : a ≤ r.id = ltb-false r.id a e in (
      is_in done more a is,
      why,
      λ x other h w. elim (which done more a x is h) [
        | inl same ↦ omega arith
        | inr there ↦ let least : r.id ≤ x = l.2 x other there w in omega arith
      ],
    )

pub least_more : (types : List TypeDesc) (pairs : List Pair) (g : Graph) (done more : List ℕ) (a : ℕ) (converted : Converted) (old : Option Refused) → IsMore done more a
    → reason_in types pairs g a ≡ reason_of converted → IsLeast types pairs g done old → IsLeast types pairs g more (refuses_with a converted old)
least_more types pairs g done more a (Converted.Loaded o) old is why l = least_loaded types pairs g done more a old is why l
least_more types pairs g done more a Converted.NoType old is why l = least_refused types pairs g done more a reasons.NoType old is why l
least_more types pairs g done more a Converted.WrongKind old is why l = least_refused types pairs g done more a reasons.WrongKind old is why l
