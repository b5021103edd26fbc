pub mod ValueReading
pub mod Forms
pub mod Spellings
pub mod Sizes
pub mod DefaultKinds
