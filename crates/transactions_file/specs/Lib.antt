pub mod Files
pub mod Inventory
pub mod Kept
pub mod Transactions
