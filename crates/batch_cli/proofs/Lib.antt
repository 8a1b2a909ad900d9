pub mod Filing
pub mod Lines
pub mod RunOf
pub mod Statuses
