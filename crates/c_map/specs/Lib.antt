pub mod Stored
pub mod States
pub mod Limits
pub mod Outcomes
pub mod Pages
pub mod Fillings
pub mod Numbers
pub mod Texts
