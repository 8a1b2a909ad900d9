pub mod Journals
pub mod Answers
pub mod Tokens
pub mod Kept
