-- A new key goes where the search for it ends.
use Rattle.oid_table.proofs.SlotLemmas.{count-fill}
use Rattle.oid_table.proofs.ReachLemmas.{IsReached-fill}
use Rattle.oid_table.proofs.ContentsLemmas.{contents_of-set_new, Lacks-from_get}
use Rattle.oid_table.proofs.probing.put_new.Goals as goal

pub unreachable-requires : goal.unreachable-requires
unreachable-requires g c = Lacks-from_get _ c.args.key c.requires.new _ c.in-Ok.ensures.searched

pub returns-clause-reached : goal.returns-clause-reached
returns-clause-reached g c = IsReached-fill _ _ _ c.args.value c.requires.reached c.in-Err.ensures.searched.0

pub returns-clause-contents : goal.returns-clause-contents
returns-clause-contents g c = let free = c.in-Err.ensures.searched.0 in contents_of-set_new _ c.in-Err.place _ c.args.value free.empty c.in-Err.ensures.searched.1

pub returns-clause-count : goal.returns-clause-count
returns-clause-count g c = let free = c.in-Err.ensures.searched.0 in count-fill _ c.in-Err.place _ c.args.value free.empty
