-- Lemmas on what tests store.
pub mod OneEntity
