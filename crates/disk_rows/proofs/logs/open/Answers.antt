-- Nothing is written before the end, so the file stays as it was.
use Rattle.std.proofs.Common.{◌≡◌, ◌∙◌, refl, subst}
use Rattle.store_io.specs.MemDisk.{disk_reads}
use Rattle.gated_log.specs.Of.{IsOf}
use Rattle.gated_log.proofs.Records.{reading_at}
use Rattle.disk_rows.proofs.logs.open.Goals as goal

pub records-init : goal.records-init
records-init c = record {
  file = c.in_ok-opening.ensures.file.0;
  window = c.requires;
  reading = reading_at _ _ _ (λ i. c.begin.ensures.reads refl i 0) (c.in_ok-opening.ensures.reading refl);
}

pub returns : goal.returns
returns c =
    let file : c.next.new.self.file ≡ 0 = c.next.ensures.file ∙ c.records.invariant.file in
    (c.in_ok-finish.ensures.file.0 ∙ file, subst (λ f. IsOf c.in_ok-finish.field-0 (disk_reads c.finish.new.disk f)) file (c.in_ok-finish.ensures.of_disk refl))
