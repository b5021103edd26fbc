pub mod NameSets
pub mod LatestOnes
pub mod RecordLists
