pub mod Parts
pub mod RowLaws
pub mod Rows
pub mod Small
