pub mod Command
pub mod EventText
pub mod Parts
pub mod Pieces
pub mod Value
pub mod Word
