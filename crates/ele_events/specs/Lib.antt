pub mod Does
pub mod Reads
pub mod Place
pub mod HaltText
