pub mod Chosen
pub mod LowDigits
pub mod Underway
pub mod Left
