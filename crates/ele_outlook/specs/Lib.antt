pub mod Input
pub mod Parts
pub mod Against
pub mod Suggested
pub mod Reading
pub mod Told
pub mod Unplaced
pub mod Foretold
