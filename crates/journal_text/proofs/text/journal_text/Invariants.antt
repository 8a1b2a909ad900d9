use Rattle.std.proofs.Common.{◌≡◌, ◌++◌}
use Rattle.journal_text.specs.Entries.{text_of_journal}
use Rattle.journal_text.proofs.TextLemmas.{text_from}
use Rattle.journal_text.proofs.text.journal_text.Given as goal

-- the text so far, and the lines that are left
abbrev pub invariant-loop-place : goal.invariant-loop-place
invariant-loop-place l = l.text.items ++ text_from l.place l.journal ≡ text_of_journal l.journal
