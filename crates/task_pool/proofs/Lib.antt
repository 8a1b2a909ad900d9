pub mod Asked
pub mod Halving
pub mod Reporting
pub mod Places
pub mod Balances
pub mod Crossing
