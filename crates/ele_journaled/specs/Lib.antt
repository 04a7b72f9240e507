pub mod JournalState
pub mod Keeps
pub mod FilesStay
pub mod Example
