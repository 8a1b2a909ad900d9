pub mod Crossing
pub mod Keeping
pub mod Lending
pub mod Moments
pub mod Placing
pub mod Tallies
