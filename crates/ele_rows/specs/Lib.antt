pub mod Piece
pub mod Chunks
pub mod Tally
pub mod Index
pub mod Serial
