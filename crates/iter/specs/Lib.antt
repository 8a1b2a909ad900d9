pub mod Intervals
pub mod Walks
pub mod Subtries
pub mod Stacks
pub mod Bunches
