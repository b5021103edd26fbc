-- After a sync what is read is the only image.
use Rattle.std.proofs.Common.{◌≡◌, ◌∙◌, length, ap, refl, rules}
use Rattle.store_io.specs.Image.{closed}
use Rattle.store_io.proofs.Images.{image-closed}
use Rattle.store_io.proofs.mem_file.MemFile.sync.Goals as goal

pub invariant_of-self : goal.invariant_of-self
invariant_of-self c =
    let m = c.args.self.now in
    let long : c.len-self.result ≡ length m.bytes.items = search rules in
    let is_closed = c.in_ok-kept.ensures ∙ ap closed c.deref-2.ensures.value in
    record {
      read_left = image-closed c.len-self.result c.in_ok-kept.kept.items m.bytes.items m.bytes.items long is_closed refl;
      synced_left = image-closed c.len-self.result c.in_ok-kept.kept.items m.bytes.items c.in_ok-synced.synced.items long is_closed (c.in_ok-synced.ensures.items ∙ c.deref.ensures.value);
    }
