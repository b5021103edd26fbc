-- An image of a whole disk comes from an image before, by a step in one file.
use Rattle.std.proofs.Common.{inl, inr, ◌≡◌, ◌≢◌, ℕ, ◌==◌, if◌then◌else◌, Bool, IsTrue, List, refl, sym, ◌∙◌, subst}
use Rattle.std.proofs.lemmas.Bool.{cases_Bool, eqb-true, eq-eqb, ne_eqb, cond-true, cond-false, true≢false}
use Rattle.store_io.specs.Disk.{Follows}
use Rattle.store_io.specs.Whole.{IsImage, StepsIn}

pub with_file : (ℕ → List ℕ) → ℕ → List ℕ → ℕ → List ℕ
with_file image file bytes f = if f == file then bytes else image f

pub there_is : (image : ℕ → List ℕ) (file : ℕ) (bytes : List ℕ) → with_file image file bytes file ≡ bytes
unfolding with_file
there_is image file bytes = cond-true (file == file) bytes (image file) (eq-eqb file file refl)

pub other_is : (image : ℕ → List ℕ) (file : ℕ) (bytes : List ℕ) (f : ℕ) → f ≢ file → with_file image file bytes f ≡ image f
unfolding with_file
other_is image file bytes f ne = cond-false (f == file) bytes (image f) (ne_eqb f file ne)

pub image_before : (step : List ℕ → List ℕ → Type 0) (file : ℕ) (old new : ℕ → List ℕ → Bool) → Follows step (old file) (new file) → ((f : ℕ) → f ≢ file → new f ≡ old f)
    → (image : ℕ → List ℕ) → IsImage new image → (was : ℕ → List ℕ) × IsImage old was × StepsIn step file was image
image_before step file old new follows others image left =
    let from = follows (image file) (left file) in
    let was = with_file image file from.0 in (
      was,
      before,
      record {
        there = subst (λ (l : List ℕ). step l (image file)) (sym (there_is image file from.0)) from.2;
        others = λ f ne. sym (other_is image file from.0 f ne);
      },
    )
  where
    before : (f : ℕ) → IsTrue (old f (with_file image file (follows (image file) (left file)).0 f))
    before f =
        let from = follows (image file) (left file) in
        elim (cases_Bool (f == file)) [
          | inl here ↦
              let is : f ≡ file = eqb-true f file here in
              subst (λ (g : ℕ). IsTrue (old g (with_file image file from.0 g))) (sym is) (subst (λ (l : List ℕ). IsTrue (old file l)) (sym (there_is image file from.0)) from.1)
          | inr there ↦
              let ne : f ≢ file = λ e. absurd (true≢false (sym (eq-eqb f file e) ∙ there)) in
              subst (λ (l : List ℕ). IsTrue (old f l)) (sym (other_is image file from.0 f ne)) (subst (λ (p : List ℕ → Bool). IsTrue (p (image f))) (others f ne) (left f))
        ]

-- one more image of one file
pub image_with : (leaves : ℕ → List ℕ → Bool) (image : ℕ → List ℕ) (file : ℕ) (bytes : List ℕ) → IsImage leaves image → IsTrue (leaves file bytes) → IsImage leaves (with_file image file bytes)
image_with leaves image file bytes left here f = elim (cases_Bool (f == file)) [
  | inl same ↦
      let is : f ≡ file = eqb-true f file same in
      subst (λ (g : ℕ). IsTrue (leaves g (with_file image file bytes g))) (sym is) (subst (λ (l : List ℕ). IsTrue (leaves file l)) (sym (there_is image file bytes)) here)
  | inr other ↦
      let ne : f ≢ file = λ e. absurd (true≢false (sym (eq-eqb f file e) ∙ other)) in
      subst (λ (l : List ℕ). IsTrue (leaves f l)) (sym (other_is image file bytes f ne)) (left f)
]
