pub mod Verdicts
pub mod Answers
pub mod Reading
pub mod ReplyParts
pub mod Images
pub mod Runs
