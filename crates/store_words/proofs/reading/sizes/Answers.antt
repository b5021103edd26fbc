use Rattle.std.proofs.Common.{[], IfSome, subst, sym}
use Rattle.std.proofs.lemmas.Option.{IfSome_then}
use Rattle.store_words.specs.Grammar.{GiveSizes}
use Rattle.store_words.proofs.LentWords.{no_words, three_words}
use Rattle.store_words.proofs.Taken.{sizes_only}
use Rattle.store_words.proofs.reading.sizes.Goals as goal

pub returns-in-empty-clause-spelled : goal.returns-in-empty-clause-spelled
returns-in-empty-clause-spelled c =
    subst (λ ws. GiveSizes ws c.default.result) (sym (no_words c.args.words.now c.in-empty.len_below))
    (subst (GiveSizes []) (sym c.default.ensures) GiveSizes.default)

pub returns-in-len3-clause-spelled : goal.returns-in-len3-clause-spelled
returns-in-len3-clause-spelled c =
    subst (λ ws. IfSome c.given_sizes.result (GiveSizes ws)) (sym (three_words c.args.words.now c.in-len3.len_at_least c.in-len3.len_below))
    (IfSome_then c.given_sizes.result c.given_sizes.ensures.spelled (λ sizes are. GiveSizes.given _ _ _ sizes are))

pub returns-in-len3-clause-only : goal.returns-in-len3-clause-only
returns-in-len3-clause-only c = λ sizes give.
    sizes_only _ _ _ c.given_sizes.result c.given_sizes.ensures.only sizes
    (subst (λ ws. GiveSizes ws sizes) (three_words c.args.words.now c.in-len3.len_at_least c.in-len3.len_below) give)
