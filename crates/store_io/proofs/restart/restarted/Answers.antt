-- The picked image is the only one of the new file.
use Rattle.std.proofs.Common.{◌≡◌, ◌∙◌, length, ap, refl, rules}
use Rattle.store_io.specs.Image.{closed}
use Rattle.store_io.proofs.Images.{image-closed}
use Rattle.store_io.proofs.restart.restarted.Goals as goal

pub invariant_of-result : goal.invariant_of-result
invariant_of-result c =
    let bytes = c.in_ok-bytes.bytes.items in
    let long : c.len-least.result ≡ length bytes = search rules in
    let is_closed = c.in_ok-kept.ensures ∙ ap closed c.deref-2.ensures.value in
    record {
      read_left = image-closed c.len-least.result c.in_ok-kept.kept.items bytes bytes long is_closed refl;
      synced_left = image-closed c.len-least.result c.in_ok-kept.kept.items bytes c.in_ok-synced.synced.items long is_closed (c.in_ok-synced.ensures.items ∙ c.deref.ensures.value);
    }
