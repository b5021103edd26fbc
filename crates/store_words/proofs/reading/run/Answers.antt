use Rattle.std.proofs.Common.{rules, ◌≡◌, Some}
use Rattle.store_words.specs.declared.plan.Plan.TheVariants as plan
use Rattle.store_words.proofs.LentWords.{two_and_more}
use Rattle.store_words.proofs.Taken.{found_holds, kept_as, only_found, run_taken}
use Rattle.store_words.proofs.reading.run.Goals as goal

pub returns : goal.returns
returns c =
    let count : c.channel_count.result ≡ Some c.in_ok-channels.channels = search rules in
    let give : c.sizes.result ≡ Some c.in_ok-sizes.sizes = search rules in
    kept_as (λ dir. plan.Run dir c.in_ok-channels.channels c.in_ok-sizes.sizes) c.in_ok-new.ensures
    (run_taken _ _ _ _ c.in_ok-channels.channels c.in_ok-sizes.sizes (two_and_more c.args.words.now c.in-len2-up.len_at_least)
    (found_holds _ _ _ count c.channel_count.ensures.spelled) (only_found _ _ _ count c.channel_count.ensures.only)
    (found_holds _ _ _ give c.sizes.ensures.spelled) (only_found _ _ _ give c.sizes.ensures.only))
