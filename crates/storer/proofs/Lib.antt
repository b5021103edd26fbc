pub mod BigRecords
pub mod TakenIds
pub mod GatheredRecords
pub mod KnownTypes
pub mod Validity
