pub mod Live
pub mod Kept
pub mod Results
