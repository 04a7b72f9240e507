mod Ranges
-- a version that is tied to none
mod Ties
-- the bars of a strip
mod Bars
-- the bars of those that both keep, and of others
mod Groups
