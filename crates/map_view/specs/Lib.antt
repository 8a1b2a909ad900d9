pub use Rattle.trie_shape.specs.Map
pub use Rattle.bulk_ops.specs.Meanings
pub use Rattle.bulk_ops.specs.Queries
pub use Rattle.bulk_work.specs.Summaries
pub use Rattle.stripe.specs.Rules
pub mod Questions
