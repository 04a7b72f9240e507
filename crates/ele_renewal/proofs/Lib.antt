-- the words that proofs here use
mod Words
-- how many pass a test, beside another
pub mod Ranks
-- the order of fresh numbers
pub mod Fresh
-- each part of a well-formed world
pub mod Directories
pub mod Files
pub mod Cells
pub mod Homes
pub mod Versions
pub mod Lives
pub mod Groups
pub mod Contents
-- all parts together
pub mod Start
-- binary searches
pub mod Searches
-- the first holders of blocks
pub mod Firsts
-- what is read of the past
pub mod Leads
pub mod Found
pub mod Past
-- what policies see, and what is due
pub mod Views
pub mod Scans
-- which marks hold versions, and what becomes of these
pub mod Marked
pub mod Fates
-- what files use
pub mod Blocks
-- which names are restorable
pub mod Returning
