pub mod Numbers
pub mod ClientSteps
pub mod Sizes
