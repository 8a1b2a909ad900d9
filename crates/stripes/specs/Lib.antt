pub mod Moments
pub mod Stripes
