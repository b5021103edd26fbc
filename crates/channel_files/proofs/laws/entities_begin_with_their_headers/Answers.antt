-- The bytes at the place are the entity's, and their front is its header.
use Rattle.std.proofs.Common.{sym, ◌∙◌}
use Rattle.channel_files.specs.Chunks.{content_of}
use Rattle.channel_files.proofs.TableEntries.{own_id, table_id}
use Rattle.channel_files.proofs.FoundEntities.{found_there, header_there, length_told}
use Rattle.channel_files.proofs.laws.entities_begin_with_their_headers.Goals as goal

pub returns : goal.returns
returns c = record {
  whole = λ reads number id o whole is. (found_there reads number id o whole is).entity;
  header = λ reads number id o whole is. header_there reads o (found_there reads number id o whole is);
  id = λ reads number id o is. sym (own_id number id (content_of reads) o is) ∙ table_id number id (content_of reads) o is;
  length = λ reads number id o whole is. length_told o.bytes (found_there reads number id o whole is).entity;
}
