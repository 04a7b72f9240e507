pub mod Compared
pub mod Names
pub mod ComparedTable
pub mod ComparedCsv
pub mod ComparedJson
