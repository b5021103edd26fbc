-- A cut opens the places behind it, so what is read and what was synced stay images.
use Rattle.std.proofs.Common.{◌≡◌, true, min, subst, sym, arith, rules}
use Rattle.store_io.specs.Image.{is_image}
use Rattle.store_io.proofs.Images.{image-length, image-cut, image-opened_from}
use Rattle.store_io.proofs.mem_file.MemFile.cut.Goals as goal

pub open_rest-requires : goal.open_rest-requires
open_rest-requires c =
    let m = c.args.self.now in
    let long = image-length m.least m.kept.items m.bytes.items m.read_left in
    omega (arith, long.1)

pub invariant_of-self : goal.invariant_of-self
invariant_of-self c =
    let m = c.args.self.now in
    let least : c.min-self.result ≡ min m.least c.args.len = search rules in
    record {
      read_left = subst (λ n. is_image n c.open_rest.new.kept.items c.truncate.new.self.items ≡ true) (sym least) (image-cut m.least c.args.len m.kept.items _ m.bytes.items _ m.read_left c.requires c.truncate.ensures.items c.open_rest.ensures);
      synced_left = subst (λ n. is_image n c.open_rest.new.kept.items m.synced.items ≡ true) (sym least) (image-opened_from m.least c.args.len m.kept.items _ m.synced.items m.synced_left c.open_rest.ensures);
    }
