-- output that is written and flushed
mod Known
-- the labels and sizes of lines
mod Detailed
-- the lines of an input
mod Lines
-- the lines of another text
mod OtherLines
-- a line that is passed over
mod Passed
-- the first tab of a text
mod Tabs
-- forecasts of lines
mod ToldOf
-- the tables of plans, and their moments
mod Tables
