pub mod Adding
pub mod Book
pub mod OnlyAt
pub mod Shown
pub mod Sums
