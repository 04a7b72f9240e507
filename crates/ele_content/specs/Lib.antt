pub mod Content
pub mod Place
