pub mod StepCalls
pub mod Refused
pub mod IdLists
