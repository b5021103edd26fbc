-- Lemmas on the chunks of a channel and the images of its disk.
pub mod Within
pub mod Changes
pub mod Appended
pub mod Written
pub mod Tables
pub mod Allowed
pub mod Refusals
pub mod OtherFiles
pub mod AtOk
pub mod NumbersInFront
pub mod WholeEntities
pub mod EntitiesStand
pub mod TableEntries
pub mod FoundEntities
pub mod WholeChunks
pub mod FileOne
pub mod LiveFiles
