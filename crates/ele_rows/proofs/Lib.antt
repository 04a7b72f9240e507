-- the words that proofs here use
mod Basics
-- rows of rising keys, parted at a key
pub mod Parted
-- the element that has so many after it, in chunks
mod Backs
-- values by serial number
pub mod Serials
-- the groups of an index
pub mod Groups
-- chunks as one list, for the functions of src/seam.rt
mod Seams
-- rows and the column of their heads, for the functions of src/chunk.rt
pub mod Headings
-- the same and the lemmas of lists, for answers
mod Words
pub mod Steps
