mod Prelude
mod Basics
pub mod Commands
pub mod Letters
pub mod Behind
pub mod Words
pub mod Decided
pub mod Dates
pub mod Moments
pub mod PathWords
pub mod PairWords
pub mod Policies
pub mod PolicyBack
pub mod PlainWords
pub mod PlainValues
pub mod JoinedWords
pub mod EventBack
pub mod Values
pub mod Laws
pub mod PathMeanings
pub mod PolicyMeanings
pub mod WordMeanings
pub mod EveryLine
pub mod LineLaws
