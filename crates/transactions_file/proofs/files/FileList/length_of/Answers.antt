use Rattle.std.proofs.Common.{◌≡◌, ℕ, ◌^◌, Some, take, sym, ap, subst, ◌∙◌}
use Rattle.transactions_file.specs.Files.{IsAt, length_of}
use Rattle.transactions_file.proofs.Fronts.{length_front}
use Rattle.transactions_file.proofs.files.FileList.length_of.Goals as goal

pub returns-in-Some : goal.returns-in-Some
returns-in-Some c =
    let at = subst (λ l. IsAt (take c.self.inside.used l) c.args.file c.in-Some.place) c.deref.ensures.value c.in-Some.ensures.found in
    sym (length_front c.self.inside.places.items c.self.inside.used c.args.file c.in-Some.place c.index.result.now c.self.invariant.rising at c.index.ensures) ∙ ap (λ f. length_of f.pairs c.args.file) c.self.view_is
