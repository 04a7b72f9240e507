pub mod Lists
pub mod Ends
pub mod Keys
pub mod Last
