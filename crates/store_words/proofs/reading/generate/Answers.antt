use Rattle.std.proofs.Common.{rules, ◌≡◌, Some}
use Rattle.store_words.proofs.LentWords.{two_words}
use Rattle.store_words.proofs.Taken.{found_holds, generate_taken, pair_only}
use Rattle.store_words.proofs.reading.generate.Goals as goal

pub returns : goal.returns
returns c =
    let pair : c.lines.result ≡ Some (c.in_ok-lines.lines, c.in_ok-lines.number) = search rules in
    generate_taken _ _ _ (c.in_ok-lines.lines, c.in_ok-lines.number) (two_words c.args.words.now c.in-len2.len_at_least c.in-len2.len_below)
    (found_holds _ _ _ pair c.lines.ensures.spelled) (pair_only _ _ _ pair c.lines.ensures.only)
