-- What the clauses of a table that threads share cite, and the types that a proof over them names.
pub use Rattle.versions.specs.Commands
pub use Rattle.versions.specs.Contents
pub use Rattle.handles.specs.Machine
pub use Rattle.handles.specs.Views
pub use Rattle.handles.specs.Laws
pub use Rattle.handles.specs.declared.call.Call
pub use Rattle.handles.specs.declared.call_reply.CallReply
pub use Rattle.handles.specs.declared.limits.Limits
pub use Rattle.journal.specs.Answers
pub use Rattle.journal.specs.Journals
pub use Rattle.journal.specs.Tokens
pub use Rattle.locked_map.specs.Bulks
pub use Rattle.locked_map.specs.Closings
pub use Rattle.locked_map.specs.Getting
pub use Rattle.locked_map.specs.Seats
pub use Rattle.locked_map.specs.Tickets
