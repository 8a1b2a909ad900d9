pub mod CallLemmas
pub mod WordLemmas
pub mod FieldLemmas
pub mod HeardLemmas
pub mod TextLemmas
