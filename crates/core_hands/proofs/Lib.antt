pub mod Sets
pub mod Transit
