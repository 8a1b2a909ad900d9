pub mod Sip
pub mod Seeded
