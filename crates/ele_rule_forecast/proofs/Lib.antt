-- two lists side by side, and the numbers of kept versions
mod Verdicts
-- texts with a comma between each two
mod Commas
