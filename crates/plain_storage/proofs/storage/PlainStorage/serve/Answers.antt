-- Each ask is served as its own function says.
use Rattle.plain_storage.proofs.storage.PlainStorage.serve.Goals as goal

pub returns-in-Look-clause-served : goal.returns-in-Look-clause-served
returns-in-Look-clause-served g c types = rw c.in-Look.is (c.look.ensures.served types)

pub returns-in-Hold-clause-served : goal.returns-in-Hold-clause-served
returns-in-Hold-clause-served g c types = rw c.in-Hold.is (rw c.as_slice.ensures at (c.hold.ensures.served types))

pub returns-in-Release-clause-served : goal.returns-in-Release-clause-served
returns-in-Release-clause-served g c types = rw c.in-Release.is (rw c.as_slice-in-Release.ensures at (c.release.ensures.served types))

pub returns-in-Store-clause-served : goal.returns-in-Store-clause-served
returns-in-Store-clause-served g c types = rw c.in-Store.is (c.store.ensures.served types)

pub returns-in-Store-clause-keeps : goal.returns-in-Store-clause-keeps
returns-in-Store-clause-keeps g c told types next_types keeps next = c.store.ensures.keeps told types next_types keeps (rw c.in-Store.is at next)

pub returns-in-KeepType-clause-served : goal.returns-in-KeepType-clause-served
returns-in-KeepType-clause-served g c types = rw c.in-KeepType.is (rw c.as_slice-in-KeepType.ensures at (c.keep.ensures.served types))

pub returns-in-Collect-clause-served : goal.returns-in-Collect-clause-served
returns-in-Collect-clause-served g c types = rw c.in-Collect.is (c.collect.ensures.served types)
