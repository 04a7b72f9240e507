-- the bytes of the words of a line
pub mod Known
-- dates, one after another
mod Dates
-- marks of versions
mod Marks
-- plans, one after another
mod Plans
-- what is folded of the items of a list that are left, and the numbers of ranges
pub mod Folds
-- what is put of a text, with a list in its middle
pub mod Lines
