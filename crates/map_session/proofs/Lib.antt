pub mod Histories
pub mod Making
pub mod Moments
pub mod Refusals
pub mod Turns
pub mod Updated
pub mod Yielding
