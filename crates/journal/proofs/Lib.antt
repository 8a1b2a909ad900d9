pub mod Refusing
pub mod Foresight
pub mod Limits
pub mod Runs
pub mod Beside
pub mod Openers
pub mod Events
pub mod Crossing
