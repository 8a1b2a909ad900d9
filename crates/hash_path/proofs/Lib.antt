pub mod Weights
pub mod Spelling
pub mod Positions
pub mod WordLaws
