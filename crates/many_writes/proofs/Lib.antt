pub mod Zips
pub mod Moves
