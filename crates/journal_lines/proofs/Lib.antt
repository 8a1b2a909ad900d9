pub mod LineLemmas
pub mod NewlineLemmas
pub mod ReadLemmas
pub mod LineEnds
