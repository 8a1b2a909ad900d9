pub mod Deciding
pub mod Keeping
pub mod Seeing
pub mod Telling
