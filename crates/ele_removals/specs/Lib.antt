pub mod Removals
pub mod RemovalText
pub mod Expiring
pub mod ExpiringText
