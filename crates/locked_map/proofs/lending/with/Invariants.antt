use Rattle.locked_map.proofs.lending.with.Given as goal

-- the vector that was just made
abbrev pub ghosts-lent : goal.ghosts-lent
ghosts-lent g a = record { table = a.entries }
