pub mod Prefixes
pub mod Counting
pub mod Values
pub mod Turning
pub mod AllDigits
