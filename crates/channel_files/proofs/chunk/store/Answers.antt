use Rattle.std.proofs.Common.{inl, inr, ◌≡◌, ◌≢◌, ℕ, List, [], ◌∷◌, ◌++◌, length, Err, ap, ◌∙◌, sym, subst, rules}
use Rattle.channel_files.specs.Chunks.{content_of}
use Rattle.channel_files.specs.Images.{EachAsRead}
use Rattle.channel_files.specs.Shows.{Shows}
use Rattle.channel_files.specs.Faults.{UnlessFault}
use Rattle.channel_files.specs.Heads.{chunk_of, place_of, with_head, full_record}
use Rattle.channel_files.proofs.Allowed.{nothing, chunk_long}
use Rattle.channel_files.proofs.Appended.{each_shows}
use Rattle.channel_files.proofs.Refusals.{unless_fault}
use Rattle.channel_files.proofs.chunk.store.Goals as goal

pub returns-then-number-clause-shows : goal.returns-then-number-clause-shows
returns-then-number-clause-shows g c told each image left =
    inl (each_shows c.args.transactions.now (g.D.Disk.reads c.args.disk.now) (g.D.Disk.leaves c.args.disk.now) (c.requires.of_disk told) each image left)

pub returns-in_err-store_nothing-clause-as_read : goal.returns-in_err-store_nothing-clause-as_read
returns-in_err-store_nothing-clause-as_read g c told each =
    let t = c.args.transactions.now in
    let t1 = c.store_nothing.new.transactions in
    let d0 = c.args.disk.now in
    let d1 = c.store_nothing.new.disk in
    let ensures = c.in_err-store_nothing.ensures in
    let same : Err c.in_err-store_nothing.field-0.0 ≡ c.from_residual.result = search rules in
    let P = EachAsRead t1 (g.D.Disk.reads d1) (g.D.Disk.leaves d1) in
    subst (λ r. UnlessFault r P) same
    (unless_fault P (d1 ≡ d0) (t1 ≡ t) (Err c.in_err-store_nothing.field-0.0) (full_record t.log.length) ensures.full ensures.not_full ensures.err
    (λ d e. subst (λ t. EachAsRead t (g.D.Disk.reads d1) (g.D.Disk.leaves d1)) (sym e) (subst (λ d. EachAsRead t (g.D.Disk.reads d) (g.D.Disk.leaves d)) (sym d) each)) tt)

pub returns-in_err-store_nothing-clause-shows : goal.returns-in_err-store_nothing-clause-shows
returns-in_err-store_nothing-clause-shows g c told each image left =
    let t = c.args.transactions.now in
    let s = t.inventory.state in
    let content = content_of (g.D.Disk.reads c.args.disk.now) in
    let none : length c.args.chunk.now ≡ 0 = search rules in
    elim (c.store_nothing.ensures.shows told each image left) [
      | inl old ↦ inl old
      | inr new ↦
          inr (subst (λ (bytes : List ℕ). Shows t.log.header c.args.number c.args.next_id c.args.number s.next_id (content ++ chunk_of c.args.number (place_of (with_head s c.args.maximum (length bytes)) (length bytes)) bytes ∷ []) image)
          (sym (nothing c.args.chunk.now none)) new)
    ]

pub returns-then-is_empty-clause-shows : goal.returns-then-is_empty-clause-shows
returns-then-is_empty-clause-shows g c told each image left =
    let t = c.args.transactions.now in
    let s = t.inventory.state in
    let content = content_of (g.D.Disk.reads c.args.disk.now) in
    let none : length c.args.chunk.now ≡ 0 = search rules in
    elim (c.store_nothing.ensures.shows told each image left) [
      | inl old ↦ inl old
      | inr new ↦
          inr (subst (λ (bytes : List ℕ). Shows t.log.header c.args.number c.args.next_id c.args.number s.next_id (content ++ chunk_of c.args.number (place_of (with_head s c.args.maximum (length bytes)) (length bytes)) bytes ∷ []) image)
          (sym (nothing c.args.chunk.now none)) new)
    ]

pub returns-then-is_empty-clause-content : goal.returns-then-is_empty-clause-content
returns-then-is_empty-clause-content g c told =
    let s = c.args.transactions.now.inventory.state in
    let content = content_of (g.D.Disk.reads c.args.disk.now) in
    let none : length c.args.chunk.now ≡ 0 = search rules in
    c.in_ok-store_nothing.ensures.content told
    ∙ ap (λ (bytes : List ℕ). content ++ chunk_of c.args.number (place_of (with_head s c.args.maximum (length bytes)) (length bytes)) bytes ∷ []) (sym (nothing c.args.chunk.now none))

pub store_behind_head-requires-clause-some : goal.store_behind_head-requires-clause-some
store_behind_head-requires-clause-some g c =
    let some : length c.args.chunk.now ≢ 0 = search rules in
    chunk_long c.args.chunk.now c.requires.whole some

pub store_in_new_head-requires-clause-some : goal.store_in_new_head-requires-clause-some
store_in_new_head-requires-clause-some g c =
    let some : length c.args.chunk.now ≢ 0 = search rules in
    chunk_long c.args.chunk.now c.requires.whole some

pub returns-then-head_has_room-clause-as_read : goal.returns-then-head_has_room-clause-as_read
returns-then-head_has_room-clause-as_read g c told each =
    let t = c.args.transactions.now in
    let t1 = c.store_behind_head.new.transactions in
    let d0 = c.args.disk.now in
    let d1 = c.store_behind_head.new.disk in
    let ensures = c.store_behind_head.ensures in
    let P = EachAsRead t1 (g.D.Disk.reads d1) (g.D.Disk.leaves d1) in
    unless_fault P (d1 ≡ d0) (t1 ≡ t) c.store_behind_head.result (full_record t.log.length) ensures.full ensures.not_full ensures.err
    (λ d e. subst (λ t. EachAsRead t (g.D.Disk.reads d1) (g.D.Disk.leaves d1)) (sym e) (subst (λ d. EachAsRead t (g.D.Disk.reads d) (g.D.Disk.leaves d)) (sym d) each)) (ensures.as_read told each)
