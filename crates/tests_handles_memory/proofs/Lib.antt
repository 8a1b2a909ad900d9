pub mod CallsKeep
