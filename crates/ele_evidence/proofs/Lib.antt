mod Basics
-- the first line, and the event that it asks for
mod FirstLine
mod Texts
-- a text that is checked row by row
mod RowByRow
