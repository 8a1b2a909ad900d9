pub mod Meanings
pub mod Parts
pub mod Queries
