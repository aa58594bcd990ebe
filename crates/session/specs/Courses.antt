-- The rounds of one connection, one after the other.
use Rattle.std.specs.Prelude.{◌≡◌, ℕ, ◌+◌, Bool, true, false, ◌||◌, List, [], ◌∷◌, ◌++◌, IsTrue}
use Rattle.std.specs.List.{flat_map}
use Rattle.archive_shelf.specs.Contents.{Shows}
use Rattle.request_answer.specs.Traces.{Terms, View, LeadsView}
use Rattle.request_answer.specs.Rounds.{Round, IsRound, closes_outcome, origin_fault, disk_fault, is_from_shown}

-- Lawful rounds, from this view of the archive to that, each of which leads to the next. An answer that is taken from the entries that are shown knows the
-- captures of the book that was left before it. Only the last round may close, by its outcome or for want of memory.
abbrev pub IsCourse : Terms → ℕ → View → List Round → View → Type 0
IsCourse terms served was [] is = LeadsView terms was is
IsCourse terms served was (r ∷ rounds) is =
    IsRound terms served r × LeadsView terms was r.traces.before
    × (IsTrue terms.tells → IsTrue (is_from_shown r.outcome) → Shows terms.alone was.book r.traces.before.shown)
    × ((r.lacked || closes_outcome served r.outcome) ≡ true → rounds ≡ []) × IsCourse terms (served + 1) r.traces.after rounds is

-- how many faults rounds met: of the dialer with its links, and of the disk
abbrev pub origin_faults : List Round → ℕ
origin_faults [] = 0
origin_faults (r ∷ rounds) = origin_fault r.outcome + origin_faults rounds

abbrev pub disk_faults : List Round → ℕ
disk_faults [] = 0
disk_faults (r ∷ rounds) = disk_fault r.outcome + disk_faults rounds

-- all answers
abbrev pub course_text : List Round → List ℕ
course_text rounds = flat_map (λ r. r.interim ++ r.text) rounds

-- all bytes taken
abbrev pub course_wire : List Round → List ℕ
course_wire rounds = flat_map (λ r. r.wire) rounds

-- some round closes the connection, by its outcome or for want of memory
abbrev pub is_closed : ℕ → List Round → Bool
is_closed served [] = false
is_closed served (r ∷ rounds) = (r.lacked || closes_outcome served r.outcome) || is_closed (served + 1) rounds

-- some round ran out of memory
abbrev pub lacks : List Round → Bool
lacks [] = false
lacks (r ∷ rounds) = r.lacked || lacks rounds
