-- Each chunk lies in a live file, and its entities in it.
use Rattle.std.proofs.Common.{arith}
use Rattle.channel_files.specs.Chunks.{content_of}
use Rattle.channel_files.proofs.FoundEntities.{found_in_live, found_there}
use Rattle.channel_files.proofs.TableEntries.{table_id}
use Rattle.channel_files.proofs.laws.entities_stand_in_their_files.Goals as goal

pub returns : goal.returns
returns c = record {
  live = λ t reads number id o d is. (found_in_live t reads number id o d is).live;
  within = λ t reads number id o d is. (found_in_live t reads number id o d is).within;
  read = λ t reads number id o d is.
      let found = found_in_live t reads number id o d is in
      omega (arith, found.within, d.long o.file);
  bytes = λ reads number id o whole is. (found_there reads number id o whole is).same;
  id = λ reads number id o is. table_id number id (content_of reads) o is;
}
