mod Taking
mod LeftOut
mod Passing
mod ReadFiles
mod FaultsSaid
mod PassedTypes
mod ChunksRead
mod LowFiles
pub mod RowsStand
pub mod DiskLists
mod EntitiesRead
mod SearchSteps
mod KeySets
mod HomeRows
