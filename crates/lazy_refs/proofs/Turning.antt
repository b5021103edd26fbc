-- What the parts of a call change.
use Rattle.std.proofs.Common.{◌≡◌, false, List, [], ◌∷◌, ◌++◌, Result, Ok, Err, refl, sym, ap, ◌∙◌, subst}
use Rattle.std.specs.Prelude.{IfOk}
use Rattle.graph_model.specs.Ids.{has, insert}
use Rattle.session_model.specs.Instances.{Instances}
use Rattle.session_model.specs.Loading.{Converted}
use Rattle.lazy_refs.specs.Walks.{Progress, IsAsFar, Takes, Turns, lower_of, of_reason, refused_as}
use Rattle.lazy_refs.specs.declared.step.LoadStep.{LoadStep}
use Rattle.lazy_refs.specs.declared.step.Reason.{Reason}
use Rattle.lazy_refs.specs.declared.step.Reason.TheVariants as reasons

pub if_ok : {T E : Type 0} (P Q : T → Type 0) (r : Result T E) → ((x : T) → P x → Q x) → IfOk r P → IfOk r Q
if_ok P Q (Ok x) f h = f x h
if_ok P Q (Err e) f h = h

pub nothing_more : {A : Type 0} (xs : List A) → xs ≡ xs ++ []
nothing_more [] = refl
nothing_more {A} (x ∷ xs) = ap (λ (ys : List A). x ∷ ys) (nothing_more xs)

pub takes_from : (instances : Instances) (converted : Converted) (old old' new : Progress) → old ≡ old' → Takes instances converted old new → Takes instances converted old' new
takes_from instances converted old old' new e t = subst (λ (p : Progress). Takes instances converted p new) e t

pub takes_refused : (instances : Instances) (reason : Reason) (old new : Progress) → new.asked ≡ old.asked → (has old.asked old.done ≡ false → new.done ≡ insert old.asked old.done)
    → new.waiting ≡ old.waiting → new.loaded ≡ old.loaded → new.refused ≡ lower_of old.refused (refused_as old.asked reason) → Takes instances (of_reason reason) old new
takes_refused instances reasons.NoType old new a d w l r = record { asked = a; done = d; waiting = w ∙ nothing_more old.waiting; loaded = l ∙ nothing_more old.loaded; refused = r }
takes_refused instances reasons.WrongKind old new a d w l r = record { asked = a; done = d; waiting = w ∙ nothing_more old.waiting; loaded = l ∙ nothing_more old.loaded; refused = r }

pub turns_as_far : (instances : Instances) (converted : Converted) (old between new : Progress) (step : LoadStep) → IsAsFar old between → Turns instances converted between new step → Turns instances converted old new step
turns_as_far instances converted old between new step far t = record {
  between = t.between;
  takes = takes_along (sym far) (as_far t.takes);
  goes_on = t.goes_on;
}
  where
    there : Progress
    there = record old { mappings = between.mappings }

    as_far : Takes instances converted between t.between → Takes instances converted there t.between
    as_far k = takes_from instances converted between there t.between far k

    takes_along : there ≡ between → Takes instances converted there t.between → Takes instances converted old t.between
    takes_along e k = record { asked = k.asked; done = k.done; waiting = k.waiting; loaded = k.loaded; refused = k.refused }
