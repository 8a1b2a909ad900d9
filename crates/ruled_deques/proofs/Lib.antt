pub mod Rules
pub mod Steps
pub mod Drains
pub mod Sharings
pub mod Crossing
