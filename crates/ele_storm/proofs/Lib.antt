pub mod Paths
pub mod Works
pub mod Counts
pub mod Sizes
pub mod Weaving
pub mod Halving
pub mod Audits
