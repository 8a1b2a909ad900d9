pub mod ChildAt
pub mod EachPut
pub mod MergedRoots
pub mod MergedRows
pub mod StampTests
pub mod MergedPairs
