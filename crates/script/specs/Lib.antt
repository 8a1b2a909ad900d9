pub mod Lines
pub mod Grammar
pub mod Statements
pub mod Faults
pub mod Scripts
pub mod Replies
