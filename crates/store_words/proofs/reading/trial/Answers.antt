use Rattle.std.proofs.Common.{rules, ◌≡◌, Some, None, IsErr}
use Rattle.store_words.specs.declared.plan.Plan.TheVariants as plan
use Rattle.store_words.proofs.LentWords.{four_words}
use Rattle.store_words.proofs.Taken.{found_holds, kept_as, only_found, pair_only, trial_refused, trial_taken}
use Rattle.store_words.proofs.reading.trial.Goals as goal

pub returns-in_err-lines : goal.returns-in_err-lines
returns-in_err-lines c =
    let none : c.lines.result ≡ None = search rules in
    let err : IsErr c.from_residual-in_err-lines.result = search rules in
    trial_refused _ _ _ _ _ _ (four_words c.args.words.now c.in-len4.len_at_least c.in-len4.len_below)
    (λ a b are. let is = c.lines.ensures.only a b are in absurd cc) err

pub returns : goal.returns
returns c =
    let count : c.channel_count.result ≡ Some c.in_ok-channels.channels = search rules in
    let pair : c.lines.result ≡ Some (c.in_ok-lines.lines, c.in_ok-lines.number) = search rules in
    kept_as (λ dir. plan.Trial dir c.in_ok-channels.channels c.in_ok-lines.lines c.in_ok-lines.number) c.in_ok-new.ensures
    (trial_taken _ _ _ _ _ c.in_ok-channels.channels (c.in_ok-lines.lines, c.in_ok-lines.number)
    (four_words c.args.words.now c.in-len4.len_at_least c.in-len4.len_below)
    (found_holds _ _ _ count c.channel_count.ensures.spelled) (only_found _ _ _ count c.channel_count.ensures.only)
    (found_holds _ _ _ pair c.lines.ensures.spelled) (pair_only _ _ _ pair c.lines.ensures.only))
