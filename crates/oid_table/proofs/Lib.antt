pub mod DistanceLemmas
pub mod GapLemmas
pub mod PourLemmas
pub mod ReachLemmas
pub mod SlotLemmas
pub mod TableLemmas
pub mod ContentsLemmas
