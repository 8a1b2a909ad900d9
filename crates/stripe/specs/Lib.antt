pub mod Contents
pub mod Rules
pub mod Told
pub mod Updates
