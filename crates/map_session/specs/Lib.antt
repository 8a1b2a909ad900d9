pub use Rattle.trie_shape.specs.Map
pub use Rattle.bulk_ops.specs.Meanings
pub use Rattle.stripe.specs.Rules
pub use Rattle.stripe.specs.Updates
pub mod Fullness
pub mod Iterables
pub mod Sessions
