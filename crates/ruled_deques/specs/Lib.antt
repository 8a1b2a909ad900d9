pub mod Rule
pub mod Counts
pub mod EndsView
