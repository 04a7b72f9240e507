-- a history with an entry more; what runs and legal entries are, one list of them after another
pub mod Growth
-- entries that keep the headline
mod Promised
-- clean events in a row
pub mod Passes
-- what a pass is of the world
pub mod PassOfWorld
-- a history whose entries are folded into its base
pub mod Trims
