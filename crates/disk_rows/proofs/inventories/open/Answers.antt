use Rattle.std.proofs.Common.{ℕ, List, sym, subst}
use Rattle.store_io.specs.MemDisk.{disk_reads}
use Rattle.gated_log.specs.Reading.{IsReading}
use Rattle.disk_rows.proofs.inventories.open.Goals as goal

-- beginning to read changed no byte
pub next-requires-clause-reading : goal.next-requires-clause-reading
next-requires-clause-reading c told =
    let opening = c.in_ok-opening.opening in
    subst (λ (file : ℕ). IsReading opening (disk_reads c.begin.new.disk file)) (sym c.in_ok-opening.ensures.file.0)
    (subst (λ (reads : ℕ → List ℕ). IsReading opening (reads 0)) (sym (c.begin.ensures.reads told)) (c.in_ok-opening.ensures.reading told))
