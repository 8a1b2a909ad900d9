pub use Rattle.trie_shape.specs.Map
pub mod Commands
pub mod Contents
pub mod Puts
pub mod Changes
pub mod Exchanges
pub mod TreeCode
