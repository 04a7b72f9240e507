-- the amounts of one more moment
mod Rows
