-- The parts of a batch that many workers read.
use Rattle.std.specs.Prelude.{All, ℕ, ◌+◌, ◌<◌, ◌≤◌, List, drop, length, slice_index_or}
use Rattle.fixity.specs.steps.Runs.{RunsTo}
use Rattle.fixity.specs.declared.shares.Front.{Front}
use Rattle.fixity.specs.declared.shares.Share.{Share}
use Rattle.fixity.specs.declared.workers.Worker.{Worker}

-- the groups of the share stand where it begins, the first of them with the batch's number and as many more as stand before it
abbrev pub ShareStands : List ℕ → ℕ → List ℕ → Share → Type 0
ShareStands namespace number bytes share = RunsTo namespace (number + share.before) (drop share.at bytes) share.groups share.len

-- so it is with each share that a worker has read
abbrev pub HasRead : List ℕ → ℕ → List ℕ → Worker → Type 0
HasRead namespace number bytes worker = All (λ (share : Share). ShareStands namespace number bytes share) worker.read.items

-- and with each worker
abbrev pub HaveRead : List ℕ → ℕ → List ℕ → List Worker → Type 0
HaveRead namespace number bytes workers = (i : ℕ) (w : Worker) → i < length workers → HasRead namespace number bytes (slice_index_or workers i w)

-- groups from this number on stand at the front of the bytes
pub record IsFront (namespace : List ℕ) (number : ℕ) (bytes : List ℕ) (front : Front) : Type 0 where
  pub stands : RunsTo namespace number bytes front.groups front.len
  pub inside : front.len ≤ length bytes
