pub use Rattle.script_runs.specs.Events
pub mod Filing
pub use Rattle.script_runs.specs.Runs
pub use Rattle.program_io.specs.CommandLine
pub mod Audits
pub use Rattle.script_runs.specs.Legality
