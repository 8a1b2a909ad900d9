pub mod Covers
pub mod WorkerLemmas
pub mod Workings
