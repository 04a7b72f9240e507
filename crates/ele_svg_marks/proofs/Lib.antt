-- the items of ranges and lists that are left
pub mod Known
-- what is drawn of the items of a list that are left
pub mod Walk
