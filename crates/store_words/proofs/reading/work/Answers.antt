use Rattle.std.proofs.Common.{rules, ◌≡◌, Some}
use Rattle.store_words.specs.declared.plan.Plan.TheVariants as plan
use Rattle.store_words.proofs.LentWords.{three_and_more}
use Rattle.store_words.proofs.Taken.{found_holds, kept_as, only_found, work_taken}
use Rattle.store_words.proofs.reading.work.Goals as goal

pub returns : goal.returns
returns c =
    let count : c.channel_count.result ≡ Some c.in_ok-channels.channels = search rules in
    let some : c.number.result ≡ Some c.in_ok-workers.workers = search rules in
    let give : c.sizes.result ≡ Some c.in_ok-sizes.sizes = search rules in
    kept_as (λ dir. plan.Work dir c.in_ok-channels.channels c.in_ok-workers.workers c.in_ok-sizes.sizes) c.in_ok-new.ensures
    (work_taken _ _ _ _ _ c.in_ok-channels.channels c.in_ok-workers.workers c.in_ok-sizes.sizes (three_and_more c.args.words.now c.in-len3-up.len_at_least)
    (found_holds _ _ _ count c.channel_count.ensures.spelled) (only_found _ _ _ count c.channel_count.ensures.only)
    (found_holds _ _ _ some c.number.ensures.spelled) (only_found _ _ _ some c.number.ensures.only)
    (found_holds _ _ _ give c.sizes.ensures.spelled) (only_found _ _ _ give c.sizes.ensures.only))
