pub mod Builders
pub mod Simple
pub mod OfClap
pub mod Spelled
pub mod Asked
pub mod Asking
pub mod Kept
