use Rattle.bench_vault.proofs.loads.Load.serve.Given as goal

-- how many connections are left
abbrev pub decreases-loop-connection : goal.decreases-loop-connection
decreases-loop-connection g l = goal.left-loop-connection g l
