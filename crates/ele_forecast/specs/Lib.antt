pub mod FileOf
pub mod ForecastOf
pub mod Stays
pub mod Followed
pub mod StaysBehind
