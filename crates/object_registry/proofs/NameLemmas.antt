-- The entries of the table of names, as bindings.
use Rattle.std.proofs.Common.{◌≡◌, ℕ, String, string_bytes, Bool, true, false, cond, not, List, [], ◌∷◌, Option, Some, None, refl, sym, ap, ◌∙◌}
use Rattle.std.specs.declared.cmp.Ordering.TheVariants.{Less}
use Rattle.std.specs.Ordering.{nat_cmp}
use Rattle.std.specs.Cmp.Lexicographic.{slice_cmp}
use Rattle.std.specs.String.{string_cmp}
use Rattle.std.specs.Str.{bytes_eq}
use Rattle.std.specs.List.{AllByRecursion}
use Rattle.std.specs.List.Sorted.{IsStrictlySortedBy}
use Rattle.std.specs.Map.{keys_of, values_of, lookup}
use Rattle.std.specs.BTreeMap.{is_at}
use Rattle.std.proofs.lemmas.Bool.Decides.{same_from_decides}
use Rattle.std.proofs.lemmas.Map.Keys.{sorted_head, sorted_tail}
use Rattle.std.proofs.lemmas.Map.Text.{is_eq-slice_cmp}
use Rattle.std.proofs.lemmas.Slice.Eq.{bytes_eq-Decides}
use Rattle.session_model.specs.Answer.{Binding, id_in}
use Rattle.session_model.specs.Sound.{are_distinct}
use Rattle.object_registry.specs.Bindings.{unbound}
use Rattle.object_registry.specs.Entries.{bindings_of}
use Rattle.object_registry.specs.Registered.{bound_ids}

pub bytes_eq-swap : (a b : List ℕ) → bytes_eq a b ≡ bytes_eq b a
bytes_eq-swap a b = let d = bytes_eq-Decides b a in same_from_decides (bytes_eq a b) (bytes_eq b a) (bytes_eq-Decides a b) (λ e. sym (d.0 e), λ e. d.1 (sym e))

abbrev pub is_text : {Y : Type 0} → List ℕ → String Y → Bool
is_text name = is_at (λ k. slice_cmp nat_cmp name (string_bytes k))

pub id_in-bindings : {Y : Type 0} (es : List (String Y × ℕ)) (name : List ℕ) → id_in (bindings_of es) name ≡ lookup (is_text name) es
id_in-bindings [] name = refl
id_in-bindings (e ∷ es) name = rw (is_eq-slice_cmp name (string_bytes e.0), bytes_eq-swap (string_bytes e.0) name, id_in-bindings es name) refl

pub id_in-unbound : (bs : List Binding) (name q : List ℕ) → id_in (unbound name bs) q ≡ cond (bytes_eq name q) None (id_in bs q)
id_in-unbound [] name q = elim (bytes_eq name q) as (λ b. ◌≡◌ {A = Option ℕ} None (cond b None None)) [ true ↦ refl | false ↦ refl ]
id_in-unbound (b ∷ bs) name q = by (bytes_eq b.name name) refl (bytes_eq b.name q) refl (id_in-unbound bs name q)
  where
    by : (x : Bool) → bytes_eq b.name name ≡ x → (y : Bool) → bytes_eq b.name q ≡ y → id_in (unbound name bs) q ≡ cond (bytes_eq name q) None (id_in bs q)
        → id_in (cond (not x) (b ∷ unbound name bs) (unbound name bs)) q ≡ cond (bytes_eq name q) None (cond y (Some b.id) (id_in bs q))
    by true e true f ih =
        let same : name ≡ q = sym ((bytes_eq-Decides b.name name).0 e) ∙ (bytes_eq-Decides b.name q).0 f in
        let is = (bytes_eq-Decides name q).1 same in ih ∙ rw is refl
    by true e false f ih = ih
    by false e true f ih =
        let same : b.name ≡ q = (bytes_eq-Decides b.name q).0 f in
        let apart : bytes_eq name q ≡ false = ap (bytes_eq name) (sym same) ∙ (bytes_eq-swap name b.name ∙ e) in
        rw (f, apart) refl
    by false e false f ih = rw f ih

none_below : {Y : Type 0} (x : String Y) (es : List (String Y × ℕ)) → AllByRecursion (λ y. string_cmp x y ≡ Less) (keys_of es) → lookup (is_text (string_bytes x)) es ≡ None
none_below x [] all = refl
none_below x (e ∷ es) all = rw all.0 (none_below x es all.1)

pub are_distinct-sorted : {Y : Type 0} (es : List (String Y × ℕ)) → IsStrictlySortedBy string_cmp (keys_of es) → are_distinct (bindings_of es) ≡ true
are_distinct-sorted [] s = refl
are_distinct-sorted (e ∷ es) s =
    rw (id_in-bindings es (string_bytes e.0), none_below e.0 es (sorted_head string_cmp e.0 (keys_of es) s)) (are_distinct-sorted es (sorted_tail string_cmp e.0 (keys_of es) s))

pub bound_ids-bindings : {Y : Type 0} (es : List (String Y × ℕ)) → bound_ids (bindings_of es) ≡ values_of es
bound_ids-bindings [] = refl
bound_ids-bindings (e ∷ es) = ap (λ (ids : List ℕ). e.1 ∷ ids) (bound_ids-bindings es)
