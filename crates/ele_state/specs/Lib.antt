pub mod Shown
pub mod Full
pub mod Home
pub mod Told
pub mod Queued
pub mod Tracked
pub mod Inside
pub mod Source
