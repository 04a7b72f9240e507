-- the words and lemmas that proofs here use
mod Words
-- a version with a next one
mod Followed
-- why a version without a ripe moment stays, by its age
mod Ages
-- the version of a closing
mod Lives
-- closings that never fall
mod Rising
-- the versions that stay at a moment
mod Kept
-- the forecasts of one version after another
mod Told
