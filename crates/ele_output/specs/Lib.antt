pub mod Front
pub mod Line
pub mod Outlet
pub mod Prints
pub mod WriteFault
