pub mod BothClauses
pub mod Deciding
pub mod Gone
