pub mod Numbers
pub mod OpenStores
pub mod Held
