use Rattle.disk_rows.proofs.OneEntity.{is_chunk}
use Rattle.disk_rows.proofs.files.a_chunk_is_stored.Goals as goal

pub store_chunk-requires-clause-whole : goal.store_chunk-requires-clause-whole
store_chunk-requires-clause-whole g c = is_chunk
