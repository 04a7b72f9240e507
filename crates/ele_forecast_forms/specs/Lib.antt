pub mod Compared
pub mod OverTime
pub mod Parts
pub mod Json
pub mod Csv
