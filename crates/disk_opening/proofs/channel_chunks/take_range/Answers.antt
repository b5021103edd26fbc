-- The walk goes over the range.
use Rattle.std.proofs.Common.{◌++◌, ℕ, List, subst, sym}
use Rattle.std.proofs.lemmas.Result.{on_ok_weaker}
use Rattle.channel_files.specs.Chunks.{Range, chunk_at}
use Rattle.channel_files.specs.Table.{occurrences_of}
use Rattle.channel.specs.ChunkRule.{IsRightRange}
use Rattle.disk_opening.specs.Indexes.{IsIndexOf}
use Rattle.disk_opening.specs.Ranges.{range_in}
use Rattle.disk_opening.proofs.ChunksRead.{walked_range}
use Rattle.disk_opening.proofs.channel_chunks.take_range.Goals as goal

pub returns-clause-right : goal.returns-clause-right
returns-clause-right g c tells =
    let over = walked_range c.args.range c.in-Some.end (c.in-Some.ensures).1 in
    on_ok_weaker c.take_in.result
    (λ right. subst (λ (r : ℕ → List ℕ). IsRightRange c.args.channels c.args.channel c.args.next_id r (range_in c.args.range)) (c.len.ensures.reads tells)
    (subst (λ (r : Range). IsRightRange c.args.channels c.args.channel c.args.next_id (g.D.Disk.reads c.len.new.self) r) over (right c.args.range.number)))
    (c.take_in.ensures.right tells)

pub returns-clause-index : goal.returns-clause-index
returns-clause-index g c tells =
    let over = walked_range c.args.range c.in-Some.end (c.in-Some.ensures).1 in
    on_ok_weaker c.take_in.result
    (λ index os have. subst (λ (r : ℕ → List ℕ). IsIndexOf c.take_in.new.index.contents (os ++ occurrences_of (chunk_at r (range_in c.args.range)))) (c.len.ensures.reads tells)
    (subst (λ (r : Range). IsIndexOf c.take_in.new.index.contents (os ++ occurrences_of (chunk_at (g.D.Disk.reads c.len.new.self) r))) over (index c.args.range.number os have)))
    (c.take_in.ensures.index tells)

pub returns-clause-bad : goal.returns-clause-bad
returns-clause-bad g c tells file at is right =
    let over = walked_range c.args.range c.in-Some.end (c.in-Some.ensures).1 in
    c.take_in.ensures.bad tells file at c.args.range.number is
    (subst (λ (r : Range). IsRightRange c.args.channels c.args.channel c.args.next_id (g.D.Disk.reads c.len.new.self) r) (sym over)
    (subst (λ (r : ℕ → List ℕ). IsRightRange c.args.channels c.args.channel c.args.next_id r (range_in c.args.range)) (sym (c.len.ensures.reads tells)) right))
