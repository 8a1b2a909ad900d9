pub mod Boards
pub mod WorkerValues
pub mod Views
