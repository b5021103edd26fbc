use Rattle.std.proofs.Common.{◌≡◌, ℕ, ◌^◌, false, List, take, set, sym, ap, subst, ◌∙◌}
use Rattle.transactions_file.specs.Files.{IsRising, IsAt, is_live, set_length}
use Rattle.transactions_file.proofs.Rising.{rising_set}
use Rattle.transactions_file.proofs.Fronts.{set_front, listed}
use Rattle.transactions_file.proofs.Lengths.{dead_set}
use Rattle.transactions_file.proofs.files.FileList.set_length.Goals as goal

pub invariant_of-self : goal.invariant_of-self
invariant_of-self c =
    let at = subst (λ l. IsAt (take c.self.inside.used l) c.args.file c.in-Some.place) c.deref.ensures.value c.in-Some.ensures.found in
    let is = set_front c.self.inside.places.items c.self.inside.used c.args.file c.in-Some.place c.args.length c.index_mut.result.now c.self.invariant.rising at c.index_mut.ensures.value in
    record {
      within = c.self.invariant.within;
      rising = subst (IsRising 0 (2 ^ 64)) (sym is) (rising_set 0 (2 ^ 64) c.args.file c.args.length (take c.self.inside.used c.self.inside.places.items) c.self.invariant.rising);
    }

pub returns-in-Some : goal.returns-in-Some
returns-in-Some c =
    let at = subst (λ l. IsAt (take c.self.inside.used l) c.args.file c.in-Some.place) c.deref.ensures.value c.in-Some.ensures.found in
    let is = set_front c.self.inside.places.items c.self.inside.used c.args.file c.in-Some.place c.args.length c.index_mut.result.now c.self.invariant.rising at c.index_mut.ensures.value in
    listed _ _ _ _ (is ∙ ap (λ f. set_length f.pairs c.args.file c.args.length) c.self.view_is) (ap (λ f. f.spare) c.self.view_is)

pub returns-in-None : goal.returns-in-None
returns-in-None c =
    let dead = subst (λ l. is_live (take c.self.inside.used l) c.args.file ≡ false) c.deref.ensures.value c.in-None.ensures.absent in
    sym c.self.view_is ∙ listed _ _ _ _ (sym (dead_set _ c.args.file c.args.length dead) ∙ ap (λ f. set_length f.pairs c.args.file c.args.length) c.self.view_is) (ap (λ f. f.spare) c.self.view_is)
