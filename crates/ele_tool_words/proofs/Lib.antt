-- zones, and how they are read
mod Zones
-- fractions, and what follows them
mod Fractions
-- dates and times of day
mod Locals
-- the forms of a time
mod Times
-- times by the clock of a place
mod ByClocks
-- clocks
mod Clocks
-- lengths of time, and their units
pub mod Lengths
-- words around a slash
pub mod Slashes
-- rungs, one after another
pub mod RungLists
-- the words of policies
pub mod Words
