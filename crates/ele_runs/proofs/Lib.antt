mod Words
mod Basics
pub mod Asked
pub mod Blocks
pub mod Courses
pub mod Ends
pub mod FrontOfOutput
pub mod InTime
pub mod Joins
mod Led
pub mod Limits
pub mod Notes
pub mod Outcomes
pub mod OneAnswer
pub mod OneOutput
pub mod OnePass
pub mod Pieces
pub mod PlainOutput
pub mod Questions
pub mod Ran
pub mod RepliesKeepHeadline
pub mod SomeAnswer
pub mod SomeOutput
pub mod SomePass
pub mod TallyCounts
pub mod VersionInfo
pub mod Within
