-- the words that proofs here use
mod Words
-- one row more, and the row that shows that a part fails
pub mod Rows
-- numbers as a set
pub mod NumberSets
-- a binary search
pub mod Searches
-- the lives of a name, one after another
pub mod NameLives
-- walks up to the root
pub mod Climbs
-- versions one after the other
pub mod Placed
-- current versions
pub mod Currents
-- contents in slots
pub mod Contents
-- the bytes at places
pub mod KnownBytes
-- numbers that rise
pub mod Rising
-- contents that are read, and those of rows
pub mod OneContent
-- all parts together
pub mod Start
-- a fault, and no world
pub mod NoStart
