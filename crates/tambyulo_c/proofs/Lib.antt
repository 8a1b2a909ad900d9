pub mod Steps
pub mod RowLaws
