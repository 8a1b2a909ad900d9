use denote.Text.{Utf8}
use denote.Shadow.{shadow}
use Rattle.example_expiry.proofs.initials.InitialsDisplay.fmt.Given as goal

abbrev pub invariant-loop-byte : goal.invariant-loop-byte
invariant-loop-byte g l = (goal.iterator-loop-byte g).can_next l.byte-iterator × (goal.iterator-loop-byte g).is_finite l.byte-iterator × shadow (Utf8 l.between)
