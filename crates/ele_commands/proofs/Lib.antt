mod Basics
pub mod Words
