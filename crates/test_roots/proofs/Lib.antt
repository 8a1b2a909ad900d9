pub mod Bounds
pub mod Puts
