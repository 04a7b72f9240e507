-- `HeldRows`, `HeldStays`, `ScanOrder` and `Restores` are for the laws of `ele_world` too.
mod Words
pub mod HeldRows
pub mod HeldStays
mod ReadsBack
pub mod ScanOrder
pub mod Restores
pub mod Answered
