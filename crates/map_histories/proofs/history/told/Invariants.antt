use Rattle.map_histories.proofs.history.told.Given as goal

-- what the front has seen
abbrev pub ghosts-by_sessions : goal.ghosts-by_sessions
ghosts-by_sessions g a = record { since = a.front.now }
