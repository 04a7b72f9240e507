pub mod Clean
pub mod Legal
pub mod Pass
pub mod PassIsOfWorld
pub mod Past
pub mod Reached
pub mod Reply
pub mod Sound
