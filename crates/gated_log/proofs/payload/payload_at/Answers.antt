-- What is read behind the length is the payload.
use Rattle.std.proofs.Common.{◌≡◌, ◌+◌, ◌≤◌, ◌++◌, ℕ, List, length, take, drop, ap, sym, ◌∙◌, arith, length-take, length-drop}
use Rattle.std.specs.Int.{w32, to_le_bytes}
use Rattle.std.proofs.lemmas.List.{take_at}
use Rattle.gated_log.specs.Log.{sized}
use Rattle.gated_log.proofs.Records.{record_at}
use Rattle.gated_log.proofs.payload.payload_at.Goals as goal

pub returns-in_ok-read-in-Some-clause-some : goal.returns-in_ok-read-in-Some-clause-some
returns-in_ok-read-in-Some-clause-some g c told =
    let at = c.args.at in
    let size = c.in-Some.size in
    let file = c.args.file in
    let window = c.args.window.now in
    let bytes = g.D.Disk.reads c.args.disk.now file in
    let fits = rw c.in-Some.is at c.in_ok-size.ensures.fits in
    let spelled : take 4 (drop at bytes) ≡ to_le_bytes w32 size = rw c.in-Some.is at (c.in_ok-size.ensures.spelled told) in
    let room : length (take size window) ≡ size = omega (arith, length-take size window, fits.1, c.requires.window) in
    let within : at + 5 + size ≤ length bytes = omega (arith, fits.2, c.requires.length told) in
    let payload : c.read.new.buf ≡ take size (drop (at + 4) bytes) =
    c.in_ok-read-in-Some.ensures.value told
    ∙ ap (λ (n : ℕ). take n (drop (at + 4) (g.D.Disk.reads c.size_at.new.disk file))) room
    ∙ ap (λ r. take size (drop (at + 4) (r file))) (c.size_at.ensures.reads told) in
    let exact : length c.read.new.buf ≡ size = omega (arith, within, ap length payload, length-take size (drop (at + 4) bytes), length-drop (at + 4) bytes) in
    let front : take size (c.read.new.buf ++ drop size window) ≡ take size (drop (at + 4) bytes) = take_at c.read.new.buf (drop size window) size exact ∙ payload in
    record_at bytes at size spelled within ∙ ap (λ (l : List ℕ). sized l ++ drop (at + (4 + size)) bytes) (sym front)
