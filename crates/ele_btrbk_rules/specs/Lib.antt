pub mod Numbers
pub mod Firsts
pub mod Begun
pub mod Why
pub mod Schedule
pub mod Items
