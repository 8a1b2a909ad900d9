pub mod Outlooks
mod Sums
mod Together
