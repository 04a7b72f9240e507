-- the newest row
pub mod Newest
-- a word around a mark
pub mod Cuts
