use Rattle.link_queue.proofs.serving.serve_beside.Given as goal

-- the ledger that was just made
abbrev pub ghosts-serve_under : goal.ghosts-serve_under
ghosts-serve_under g a = record { ledger = a.unnamed }
