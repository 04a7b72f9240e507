pub mod When
pub mod Reason
