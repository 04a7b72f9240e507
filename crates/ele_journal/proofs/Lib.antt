pub mod EventForms
pub mod Changes
pub mod Journals
pub mod Starts
pub mod Steps
pub mod Differing
pub mod Changed
pub mod Noticed
