pub mod Covering
pub mod Partials
pub mod Crossing
