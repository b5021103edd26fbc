use Rattle.std.proofs.Common.{sym, subst, ◌∙◌}
use Rattle.data_file.specs.Chunks.{IsChunk}
use Rattle.channel.proofs.Chunks.{chunk_is_whole}
use Rattle.channel.proofs.part.Part.chunk.Goals as goal

pub returns-clause-bytes : goal.returns-clause-bytes
returns-clause-bytes c = rw (← c.self.view_is) (c.as_slice.ensures.value ∙ c.self.invariant.bytes_are)

pub returns-clause-whole : goal.returns-clause-whole
returns-clause-whole c =
    subst IsChunk (sym (c.as_slice.ensures.value ∙ c.self.invariant.bytes_are)) (chunk_is_whole _ c.self.invariant.part.entities)

pub returns-clause-part : goal.returns-clause-part
returns-clause-part c = rw (← c.self.view_is) c.self.invariant.part
