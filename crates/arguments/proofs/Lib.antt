pub mod NumberLemmas
pub mod BehindLemmas
