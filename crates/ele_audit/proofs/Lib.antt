mod Basics
mod Lengths
mod Clocks
mod Copies
pub mod Gathers
mod Lines
mod VersionMeant
pub mod Numbered
mod Sees
mod Tells
pub mod StoryLines
mod Texts
