-- What the contracts of a gated log cite.
pub mod Log
pub mod Of
pub mod Reading
pub mod State
