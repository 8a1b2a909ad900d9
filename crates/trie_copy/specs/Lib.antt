pub mod Writes
pub mod Changes
pub mod Removals
