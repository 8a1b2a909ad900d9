use Rattle.std.proofs.Common.{◌≡◌, ℕ, ◌<◌, get_or}
use Rattle.std.specs.Prelude.{None, Some, true}
use Rattle.handles.specs.Machine.{job_at, room}
use Rattle.journal.specs.Tokens.{entries_of}
use Rattle.locked_map.specs.Seats.{AboveFloors, pairs}
use Rattle.journal.specs.Journals.{own}
use Rattle.locked_map.proofs.closing.are_borne_out.Given as goal

-- the seats so far have their numbers, the journal bears their lists out, and their marks hold
abbrev pub invariant-loop-seat : goal.invariant-loop-seat
invariant-loop-seat g l = (l.number ≡ l.seat-index)
    × ((k : ℕ) (s : _) → k < l.seat-index → (own k 0 (entries_of l.tokens.items) ≡ pairs (get_or l.seat-items k s).list) × AboveFloors (get_or l.seat-items k s).list)
    × ((k : ℕ) (s : _) → k < l.seat-index → (get_or l.seat-items k s).full ≡ true → room l.table < 2)
    × ((k : ℕ) (s : _) → k < l.seat-index → (j : ℕ) → (get_or l.seat-items k s).unknown ≡ Some j → job_at l.table j ≡ None)
