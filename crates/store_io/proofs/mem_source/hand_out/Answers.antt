-- What is left is what was handed out, and the rest.
use Rattle.std.proofs.Common.{◌≡◌, ◌+◌, ◌-◌, ◌≤◌, ◌++◌, ℕ, List, length, take, drop, ap, sym, ◌∙◌, arith, take-append-drop, length-take}
use Rattle.std.proofs.lemmas.List.{take_at, drop-drop}
use Rattle.store_io.proofs.mem_source.hand_out.Goals as goal

handed : (bytes part buf : List ℕ) (from n : ℕ) → n ≤ length buf → part ≡ take (from + n - from) (drop from bytes) → length part ≡ length (take n buf)
    → drop from bytes ≡ take n (part ++ drop n buf) ++ drop (from + n) bytes
handed bytes part buf from n room is long =
    let exact : length part ≡ n = omega (arith, long, length-take n buf) in
    let same : from + n - from ≡ n = omega arith in
    sym (take-append-drop n (drop from bytes))
    ∙ ap (λ (l : List ℕ). l ++ drop n (drop from bytes)) (sym (is ∙ ap (λ (k : ℕ). take k (drop from bytes)) same) ∙ sym (take_at part (drop n buf) n exact))
    ∙ ap (λ (l : List ℕ). take n (part ++ drop n buf) ++ l) (drop-drop n from bytes)

pub returns : goal.returns
returns c = handed c.args.bytes.now c.copy_from_slice.new.self c.args.buf.now c.args.from c.args.n c.requires.room c.copy_from_slice.ensures.after c.copy_from_slice.ensures.len
