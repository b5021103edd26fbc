-- The line of a damaged disk, or a front of it.
use Rattle.std.proofs.Common.{codes, take, drop, sym}
use Rattle.std.proofs.lemmas.List.{take-append-drop}
use Rattle.store_run.proofs.run.put_damage.Goals as goal

pub returns-in-Err-clause-front : goal.returns-in-Err-clause-front
returns-in-Err-clause-front g c told =
    let text = codes "damaged 0 header\n" in
    let failed = c.in-Err.ensures.err told in
    (take failed.0 text, failed.2, record { rest = drop failed.0 text; split = sym (take-append-drop failed.0 text) })
