-- One chunk more or less.
use Rattle.std.proofs.Common.{◌-◌, length}
use Rattle.channel_files.specs.Chunks.{content_of}
use Rattle.channel_files.specs.Heads.{chunk_of}
use Rattle.channel_files.proofs.WholeChunks.{whole_same, whole_with, whole_front}
use Rattle.channel_files.proofs.laws.chunks_stay_whole.Goals as goal

pub returns : goal.returns
returns c = record {
  same = λ old new whole same. whole_same (content_of old) (content_of new) whole same;
  stored = λ old new number place chunk whole is same. whole_with (content_of old) (content_of new) (chunk_of number place chunk) whole is same;
  dropped = λ old new whole same. whole_front (content_of old) (content_of new) (length (content_of old) - 1) whole same;
}
