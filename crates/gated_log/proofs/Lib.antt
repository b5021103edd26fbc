-- Lemmas on the bytes of a log.
pub mod Steps
pub mod Payloads
pub mod Records
pub mod CutShortLogs
