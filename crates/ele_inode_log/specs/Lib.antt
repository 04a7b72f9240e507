pub mod Rows
pub mod LogInside
