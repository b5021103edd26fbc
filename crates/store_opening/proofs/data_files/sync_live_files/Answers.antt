-- The live files are synced one by one.
use Rattle.std.proofs.Common.{◌≡◌, ◌∙◌, ◌+◌, ℕ, List, true, sym, subst, arith}
use Rattle.transactions_file.specs.Files.{IsRising, is_live}
use Rattle.store_opening.proofs.LiveFiles.{all_synced, file_below}
use Rattle.store_opening.proofs.data_files.sync_live_files.Goals as goal

pub overflow_cast-file : goal.overflow_cast-file
overflow_cast-file g c =
    let s = c.args.inventory.now.state in
    let items = c.as_slice-file-items.result.now in
    let pairs : items ≡ s.files = c.as_slice-file-items.ensures ∙ c.files-2.ensures.files in
    let sound = c.files-2.ensures.sound in
    let below = file_below 2 (s.created + 1) items c.files.file-index (0, 0) (subst (IsRising 2 (s.created + 1)) (sym pairs) sound.rising) c.files-test.true in
    omega (arith, below, sound.created)

pub returns-clause-synced : goal.returns-clause-synced
returns-clause-synced g c tells file live =
    let items = c.as_slice-file-items.result.now in
    let pairs : items ≡ c.args.inventory.now.state.files = c.as_slice-file-items.ensures ∙ c.files-2.ensures.files in
    all_synced (g.D.Disk.reads c.args.disk.now) (g.D.Disk.leaves c.files.disk) items (λ i below. c.files.invariant.synced tells i (omega (arith, below, c.files-test.false))) file
    (subst (λ (l : List (ℕ × ℕ)). is_live l file ≡ true) (sym pairs) live)
