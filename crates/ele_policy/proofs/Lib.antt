-- from when on a policy lets a version go, and that it goes as before beside fewer
mod Waits
-- the earliest of moments
pub mod Earliest
-- spans lie in wider ones
mod Nesting
-- ladders in their fields
mod Rungs
-- the text of a ladder
mod Pairs
-- why a version goes
mod Causes
