pub mod Numbers
pub mod Finds
pub mod EntryLemmas
pub mod NameLemmas
pub mod EdgeLemmas
pub mod ReleasedLemmas
pub mod SameBound
pub mod RefLemmas
