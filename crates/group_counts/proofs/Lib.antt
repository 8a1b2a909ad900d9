pub mod Lists
pub mod Places
pub mod Totals
pub mod Joins
pub mod Counting
pub mod Naming
pub mod Folds
