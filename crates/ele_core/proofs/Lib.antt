-- the world after a call is reached, as its contract says what the call does
pub mod Reached
-- how a pass ends
pub mod Passes
