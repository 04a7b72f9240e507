-- moments from now on, and at a time of day
mod Sums
