-- What is told of links that are made and hung up.
use Rattle.std.specs.Prelude.{ℕ, ◌+◌, ◌-◌, List, [], ◌∷◌, ◌++◌}

-- the records of those that were hung up, in that order, and how many are out: made and not hung up
pub record Links (T : Type 0) : Type 0 where
  pub log : List T
  pub out : ℕ

-- no record, and nothing out
abbrev pub nothing_out : {T : Type 0} → Links T
nothing_out = record { log = []; out = 0 }

-- one more is out
abbrev pub one_out : {T : Type 0} → Links T → Links T
one_out links = record links { out = links.out + 1 }

-- one that was out is hung up, and this is its record
abbrev pub one_in : {T : Type 0} → Links T → T → Links T
one_in links entry = record { log = links.log ++ entry ∷ []; out = links.out - 1 }

-- the log has one more record, and what is out is as before
abbrev pub logged : {T : Type 0} → Links T → T → Links T
logged links entry = record links { log = links.log ++ entry ∷ [] }
