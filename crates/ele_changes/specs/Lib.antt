pub mod BothMoments
pub mod Changes
pub mod Names
