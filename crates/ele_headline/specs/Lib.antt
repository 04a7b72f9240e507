pub mod HeldStays
pub mod OnlyDueLeave
pub mod PassLeavesKept
pub mod ReadsAsClosed
pub mod RestorableLists
pub mod ScanLists
pub mod Headline
