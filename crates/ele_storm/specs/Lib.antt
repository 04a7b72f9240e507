pub mod Audited
pub mod Halves
pub mod Rounds
pub mod Storm
pub mod Work
pub mod Making
