-- a line that isn't put
pub mod Words
-- moments in equal steps, and what is counted at each
pub mod Steps
-- texts with a comma between each two
pub mod Commas
