pub mod Drawn
pub mod Removals
pub mod Removing
