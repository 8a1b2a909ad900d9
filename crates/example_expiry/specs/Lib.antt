pub mod Initials
pub mod Leases
pub mod Outlooks
