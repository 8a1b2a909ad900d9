pub mod Additions
pub mod Stamps
pub mod Sums
