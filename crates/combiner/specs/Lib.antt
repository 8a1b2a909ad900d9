pub mod Unions
pub mod Bulks
pub mod Monoids
pub mod Numbers
pub mod NumberLaws
pub mod Pairs
