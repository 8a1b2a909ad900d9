use Rattle.locked_map.proofs.clients.with_clients.Given as goal

-- the vector that was just made
abbrev pub ghosts-run_in : goal.ghosts-run_in
ghosts-run_in g a = record { table = a.entries }
