mod Basics
-- what a writer holds and what is held for it, piece after piece
pub mod Known
-- joined words, and the lines of a list one after another
pub mod Lists
