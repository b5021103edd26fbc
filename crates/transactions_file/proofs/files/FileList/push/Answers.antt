use Rattle.std.proofs.Common.{◌≡◌, ℕ, List, sym, ap, subst, arith}
use Rattle.transactions_file.specs.Files.{IsRising}
use Rattle.transactions_file.proofs.Fronts.{push_front}
use Rattle.transactions_file.proofs.files.FileList.push.Goals as goal

pub invariant_of-self : goal.invariant_of-self
invariant_of-self c =
    let pairs = ap (λ f. f.pairs) c.self.view_is in
    let spare = ap (λ f. f.spare) c.self.view_is in
    record {
      within = omega (arith, spare, c.requires.spare);
      rising = push_front c.self.inside.places.items c.self.inside.used c.args.file (omega (arith, spare, c.requires.spare)) (subst (IsRising 0 c.args.file) (sym pairs) c.requires.above) (omega arith);
    }
