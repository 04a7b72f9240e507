mod Basics
mod Prelude
pub mod Cuts
pub mod PolicyDetail
pub mod Unknown
pub mod WhyBad
