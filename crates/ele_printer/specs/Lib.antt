pub mod HistoryText
pub mod LineFault
pub mod Printed
pub mod Why
