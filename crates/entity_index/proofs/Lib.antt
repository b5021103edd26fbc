pub mod SparseLemmas
pub mod TallyLemmas
pub mod TotalLemmas
