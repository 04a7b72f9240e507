pub mod Chain
pub mod LongerChain
pub mod OneChain
