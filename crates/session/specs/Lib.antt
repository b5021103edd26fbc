pub mod Sessions
pub mod BrokenSteps
pub mod Dealing
pub mod Fitting
pub mod LoadSteps
pub mod StoreAsks
pub mod SteadySession
