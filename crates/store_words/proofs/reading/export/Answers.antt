use Rattle.std.proofs.Common.{rules, ◌≡◌, Some}
use Rattle.store_words.specs.declared.plan.Plan.TheVariants as plan
use Rattle.store_words.proofs.LentWords.{two_words}
use Rattle.store_words.proofs.Taken.{export_taken, found_holds, kept_as, only_found}
use Rattle.store_words.proofs.reading.export.Goals as goal

pub returns : goal.returns
returns c =
    let count : c.channel_count.result ≡ Some c.in_ok-channels.channels = search rules in
    kept_as (λ dir. plan.Export dir c.in_ok-channels.channels) c.in_ok-new.ensures
    (export_taken _ _ _ c.in_ok-channels.channels (two_words c.args.words.now c.in-len2.len_at_least c.in-len2.len_below)
    (found_holds _ _ _ count c.channel_count.ensures.spelled) (only_found _ _ _ count c.channel_count.ensures.only))
