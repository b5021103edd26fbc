-- Lists that bind the same names, none of them twice, bind the same ids, so they keep the same instances.
use Rattle.std.proofs.Common.{◌≡◌, ℕ, Bool, true, false, cond, ◌||◌, List, [], ◌∷◌, Option, Some, None, inl, inr, refl, sym, ap, ◌∙◌}
use Rattle.std.specs.Prelude.{nat_eq, is_none}
use Rattle.std.specs.Str.{bytes_eq}
use Rattle.std.specs.List.{filter}
use Rattle.std.proofs.lemmas.Bool.{and_parts, eqb-true, eq-eqb, false_from_ne_true, or_cases, or_left, or_right}
use Rattle.std.proofs.lemmas.Slice.Eq.{bytes_eq-Decides}
use Rattle.graph_model.specs.Ids.{has}
use Rattle.session_model.specs.Answer.{Binding, id_in}
use Rattle.session_model.specs.Instances.{Instances, Held, graph_of, kept_refs, kept_instances}
use Rattle.session_model.proofs.Reached.{reached-same_starts}
use Rattle.session_model.proofs.SameIds.{same_answer}
use Rattle.session_model.specs.Sound.{are_distinct}
use Rattle.object_registry.specs.Bindings.{SameNames}
use Rattle.object_registry.specs.Registered.{bound_ids}

-- an id that a name is bound to
bound_has : (bs : List Binding) (name : List ℕ) (x : ℕ) → id_in bs name ≡ Some x → has x (bound_ids bs) ≡ true
bound_has [] name x e = absurd cc
bound_has (b ∷ bs) name x e = by (bytes_eq b.name name) e (bound_has bs name x)
  where
    by : (c : Bool) → cond c (Some b.id) (id_in bs name) ≡ Some x → (id_in bs name ≡ Some x → has x (bound_ids bs) ≡ true) → (nat_eq x b.id || has x (bound_ids bs)) ≡ true
    by true e ih = let is : x ≡ b.id = (cc) in or_left (nat_eq x b.id) (has x (bound_ids bs)) (eq-eqb x b.id is)
    by false e ih = or_right (nat_eq x b.id) (has x (bound_ids bs)) (ih e)

none_is : (o : Option ℕ) → is_none o ≡ true → o ≡ None
none_is None e = refl
none_is (Some x) e = absurd cc

-- and the name, where none stands twice
name_of : (bs : List Binding) → are_distinct bs ≡ true → (x : ℕ) → has x (bound_ids bs) ≡ true → (name : List ℕ) × (id_in bs name ≡ Some x)
name_of [] d x h = absurd cc
name_of (b ∷ bs) d x h = let parts = and_parts (is_none (id_in bs b.name)) (are_distinct bs) d in
    elim (or_cases (nat_eq x b.id) (has x (bound_ids bs)) h) [
      | inl same ↦ (b.name, rw ((bytes_eq-Decides b.name b.name).1 refl) (ap (λ (y : ℕ). Some y) (sym (eqb-true x b.id same))))
      | inr later ↦ let t = name_of bs parts.1 x later in
          let apart : bytes_eq b.name t.0 ≡ false = false_from_ne_true (bytes_eq b.name t.0) (λ e.
          let free : id_in bs t.0 ≡ None = ap (id_in bs) (sym ((bytes_eq-Decides b.name t.0).0 e)) ∙ none_is (id_in bs b.name) parts.0 in
          let taken = t.1 in
          absurd cc) in
          (t.0, rw apart t.1)
    ]

pub same_bound : (xs ys : List Binding) → are_distinct xs ≡ true → are_distinct ys ≡ true → SameNames xs ys → (x : ℕ) → has x (bound_ids xs) ≡ has x (bound_ids ys)
same_bound xs ys d e same x = same_answer (has x (bound_ids xs)) (has x (bound_ids ys))
    (λ h. let t = name_of xs d x h in bound_has ys t.0 x (sym (same t.0) ∙ t.1))
    (λ h. let t = name_of ys e x h in bound_has xs t.0 x (same t.0 ∙ t.1))

pub kept_by_same_names : (is : Instances) (xs ys : List Binding) → are_distinct xs ≡ true → are_distinct ys ≡ true → SameNames xs ys
    → kept_instances is (bound_ids xs) ≡ kept_instances is (bound_ids ys)
kept_by_same_names is xs ys d e same =
    ap (λ (kept : List ℕ). filter (λ (h : Held). has h.id kept) is) (reached-same_starts (graph_of kept_refs is) (bound_ids xs) (bound_ids ys) (same_bound xs ys d e same))
