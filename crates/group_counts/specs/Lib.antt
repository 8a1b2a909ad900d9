pub mod Counts
pub mod Groups
pub mod Joining
pub mod Sums
