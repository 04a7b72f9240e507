-- a word around its colon
mod Colons
-- spans in text
mod SpanLists
-- the best of some weighed policies
mod Bests
-- lists that loops make
mod Steps
-- the versions of closings
mod Rows
-- rows of a suggestion
mod RowTexts
