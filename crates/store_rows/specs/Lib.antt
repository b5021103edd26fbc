-- What examples of a session say of it.
pub mod Ready
