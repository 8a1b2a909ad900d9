pub mod Folds
pub mod FoldLaws
pub mod Queries
pub mod Program
pub mod Laws
