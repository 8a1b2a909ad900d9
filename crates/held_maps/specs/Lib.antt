pub mod HeldMaps
pub mod Commands
pub mod Targets
