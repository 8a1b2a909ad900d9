pub mod Prefixes
pub mod Written
pub mod Spelled
pub mod Fillings
pub mod Packed
