use Rattle.std.proofs.Common.{rules, arith, refl}
use Rattle.store_words.proofs.number.channel_count.Goals as goal

pub returns-in-4-clause-spelled : goal.returns-in-4-clause-spelled
returns-in-4-clause-spelled c = record { digits = search rules; among = (2, omega arith, refl) }

pub returns-in-8-clause-spelled : goal.returns-in-8-clause-spelled
returns-in-8-clause-spelled c = record { digits = search rules; among = (3, omega arith, refl) }

pub returns-in-16-clause-spelled : goal.returns-in-16-clause-spelled
returns-in-16-clause-spelled c = record { digits = search rules; among = (4, omega arith, refl) }

pub returns-in-32-clause-spelled : goal.returns-in-32-clause-spelled
returns-in-32-clause-spelled c = record { digits = search rules; among = (5, omega arith, refl) }
