pub mod Alone
pub mod Change
pub mod Fate
pub mod Keys
