-- the depths of rows by the spans that were begun last
pub mod Depths
-- the rows that are kept, one at a time
pub mod KeptRows
