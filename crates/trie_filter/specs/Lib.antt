pub mod Few
pub mod Passing
