use Rattle.std.proofs.Common.{◌≡◌, ℕ, ◌-◌, ◌^◌, false, List, take, length-take, sym, ap, subst, ◌∙◌, arith}
use Rattle.transactions_file.specs.Files.{IsRising, IsAt, is_live, without}
use Rattle.transactions_file.proofs.Rising.{rising_without}
use Rattle.transactions_file.proofs.Fronts.{without_front, listed}
use Rattle.transactions_file.proofs.Places.{without_dead}
use Rattle.transactions_file.proofs.files.FileList.remove.Goals as goal

pub invariant_of-self : goal.invariant_of-self
invariant_of-self c =
    let at = subst (λ l. IsAt (take c.self.inside.used l) c.args.file c.in-Some.place) c.deref.ensures.value c.in-Some.ensures.found in
    let is = ap (take (c.self.inside.used - 1)) c.remove.ensures.items
    ∙ without_front c.self.inside.places.items c.self.inside.used c.args.file c.in-Some.place c.self.invariant.rising at (omega (arith, c.self.invariant.within)) in
    record {
      within = omega (arith, c.remove.ensures.len, c.self.invariant.within);
      rising = subst (IsRising 0 (2 ^ 64)) (sym is) (rising_without 0 (2 ^ 64) c.args.file (take c.self.inside.used c.self.inside.places.items) c.self.invariant.rising);
    }

pub returns-in-Some : goal.returns-in-Some
returns-in-Some c =
    let at = subst (λ l. IsAt (take c.self.inside.used l) c.args.file c.in-Some.place) c.deref.ensures.value c.in-Some.ensures.found in
    let is = ap (take (c.self.inside.used - 1)) c.remove.ensures.items
    ∙ without_front c.self.inside.places.items c.self.inside.used c.args.file c.in-Some.place c.self.invariant.rising at (omega (arith, c.self.invariant.within)) in
    listed _ _ _ _ (is ∙ ap (λ f. without f.pairs c.args.file) c.self.view_is) (omega (arith, c.remove.ensures.len, ap (λ f. f.spare) c.self.view_is, at.within, length-take c.self.inside.used c.self.inside.places.items))

pub returns-in-None : goal.returns-in-None
returns-in-None c =
    let dead = subst (λ l. is_live (take c.self.inside.used l) c.args.file ≡ false) c.deref.ensures.value c.in-None.ensures.absent in
    sym c.self.view_is ∙ listed _ _ _ _ (sym (without_dead _ c.args.file dead) ∙ ap (λ f. without f.pairs c.args.file) c.self.view_is) (ap (λ f. f.spare) c.self.view_is)
