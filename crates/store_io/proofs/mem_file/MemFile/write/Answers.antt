-- A write opens its places, so what is read and what was synced stay images.
use Rattle.std.proofs.Common.{◌++◌, length, take, drop, ap, ◌∙◌, arith}
use Rattle.store_io.specs.Image.{opened}
use Rattle.store_io.proofs.Images.{image-length, image-written, image-opened}
use Rattle.store_io.proofs.mem_file.MemFile.write.Goals as goal

pub open_places-requires : goal.open_places-requires
open_places-requires c =
    let m = c.args.self.now in
    let long = image-length m.least m.kept.items m.bytes.items m.read_left in
    omega (arith, long.1, ap length c.deref-2.ensures.value)

pub invariant_of-self : goal.invariant_of-self
invariant_of-self c =
    let m = c.args.self.now in
    let long = image-length m.least m.kept.items m.bytes.items m.read_left in
    let written = c.in_ok-next.ensures ∙ ap (λ l. take c.args.at l ++ (c.args.bytes.now ++ drop (length c.args.bytes.now) (drop c.args.at l))) c.deref.ensures.value in
    let open_now = c.in_ok-kept.ensures ∙ ap (λ l. opened l c.args.at (length c.args.bytes.now)) c.deref-2.ensures.value in
    record {
      read_left = image-written m.least c.args.at m.kept.items c.in_ok-kept.kept.items m.bytes.items c.args.bytes.now c.in_ok-next.next.items m.read_left c.requires written open_now;
      synced_left = image-opened m.least c.args.at (length c.args.bytes.now) m.kept.items c.in_ok-kept.kept.items m.synced.items m.synced_left (omega (arith, long.1)) open_now;
    }
