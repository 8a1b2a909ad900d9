pub mod Counting
pub mod Equality
pub mod Finding
pub mod Keeping
pub mod Making
pub mod Walks
