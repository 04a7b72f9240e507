-- an event that doesn't count changes nothing
mod Uncounted
-- which files keep a world with its journal
pub mod Kept
-- the law of all of it
pub mod FilesStay
-- a store by hand
pub mod Examples
