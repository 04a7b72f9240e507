pub mod Reason
pub mod ReasonText
pub mod ReasonFound
pub mod Hints
pub mod PolicyDetail
