pub mod Unions
pub mod Made
pub mod Works
pub mod Pieces
pub mod Whole
