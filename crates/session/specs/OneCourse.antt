-- A course leaves no choice. The same bytes of a client, the same answers of the clock and the same transcripts of links, over the same
-- archive, are answered in one way. What may differ is named by what is asked of both courses here, and by nothing else.
use Rattle.std.specs.Prelude.{◌≡◌, ◌⊎◌, ℕ, ◌-◌, ◌^◌, ◌<◌, true, false, List, [], ◌∷◌, ◌++◌, IsTrue, ⊤}
use Rattle.capture.specs.declared.book.Book.{Book}
use Rattle.capture.specs.declared.site.Site.{Site}
use Rattle.index_entry.specs.OfBook.{AreEntries}
use Rattle.outside.specs.declared.gate.Heard.{Heard}
use Rattle.request_answer.specs.Gains.{gains_of}
use Rattle.request_answer.specs.Requests.{IsUndecided}
use Rattle.request_answer.specs.Rounds.{Round, IsRound, disk_fault}
use Rattle.session.specs.Courses.{IsCourse, course_text, course_wire, lacks, is_closed}
use Rattle.session.specs.Stopping.{Course, Ends}
use Rattle.request_answer.specs.Traces.{Terms, View, IsConsistentView}
use Rattle.session.specs.declared.served.Served.{Served}

-- A lawful round, for which there was memory, and in which the disk didn't fail.
pub record RoundWentWell (terms : Terms) (served : ℕ) (r : Round) : Type 0 where
  pub lawful : IsRound terms served r
  pub memory : r.lacked ≡ false
  pub disk : disk_fault r.outcome ≡ 0

-- Nothing was free: there was memory for each answer, no count of faults rose, and nothing that could be answered is left over, since
-- the last answer closes, or since what is left is no request and isn't refused. A count in 64 bits stands still at its last value.
pub record WentWell (terms : Terms) (was : View) (c : Course) (is : View) : Type 0 where
  pub lawful : IsCourse terms c.served was c.rounds is
  pub memory : lacks c.rounds ≡ false
  pub dialer : is.dialer_faults ≡ was.dialer_faults
  pub dialer_counts : was.dialer_faults < 2 ^ 64 - 1
  pub disk : is.disk_faults ≡ was.disk_faults
  pub disk_counts : was.disk_faults < 2 ^ 64 - 1
  pub all : (is_closed c.served c.rounds ≡ true) ⊎ IsUndecided terms.site c.rest

-- Both are behind as many requests; the client gave them the same bytes, the clock the same times, and the links to origins took and
-- gave the same.
pub record AreGivenTheSame (a b : Course) : Type 0 where
  pub served : a.served ≡ b.served
  pub bytes : course_wire a.rounds ++ a.rest ≡ course_wire b.rounds ++ b.rest
  pub times : (gains_of a.rounds).times ≡ (gains_of b.rounds).times
  pub transcripts : (gains_of a.rounds).transcripts ≡ (gains_of b.rounds).transcripts

-- The same was decided, with the same refusal or the same response, and the same text was written; and the book behind it is the same,
-- with what was stored in it.
pub record IsSameRound (a b : Round) : Type 0 where
  pub outcome : a.outcome ≡ b.outcome
  pub interim : a.interim ≡ b.interim
  pub text : a.text ≡ b.text
  pub book : a.traces.after.book ≡ b.traces.after.book

-- round for round
abbrev pub AreSameRounds : List Round → List Round → Type 0
AreSameRounds [] [] = ⊤
AreSameRounds (a ∷ rounds) (b ∷ others) = IsSameRound a b × AreSameRounds rounds others
AreSameRounds [] (b ∷ others) = ⊥
AreSameRounds (a ∷ rounds) [] = ⊥

-- The same was answered, up to an answer that closes or up to the same rest, and the same archive is left.
pub record AreOneCourse (a b : Course) (is other : View) : Type 0 where
  pub rounds : AreSameRounds a.rounds b.rounds
  pub text : course_text a.rounds ≡ course_text b.rounds
  pub closed : is_closed a.served a.rounds ≡ is_closed b.served b.rounds
  pub rest : is_closed a.served a.rounds ≡ false → a.rest ≡ b.rest
  pub book : is.book ≡ other.book
  pub shown : is.shown ≡ other.shown

-- alone over a disk that is told, where what is shown are the entries of the book
abbrev pub CoursesLeaveNoChoice : Type 0
CoursesLeaveNoChoice =
    (terms : Terms) (was : View) (a b : Course) (is other : View)
    → IsTrue terms.alone → IsTrue terms.tells → IsConsistentView terms was
    → WentWell terms was a is → WentWell terms was b other → AreGivenTheSame a b → AreOneCourse a b is other

-- Also in company: rounds that were decided by the same view, in which the entries of some book are shown, are the same.
abbrev pub RoundsLeaveNoChoice : Type 0
RoundsLeaveNoChoice =
    (terms : Terms) (served : ℕ) (a b : Round) (later : Book)
    → IsTrue terms.tells → RoundWentWell terms served a → RoundWentWell terms served b
    → a.traces.before ≡ b.traces.before → AreEntries later a.traces.before.shown
    → a.wire ≡ b.wire → a.traces.times ≡ b.traces.times → a.traces.transcripts ≡ b.traces.transcripts → IsSameRound a b

-- Two such connections end alike, and the same was written to their clients, where memory sufficed and no link to a client failed.
abbrev pub CoursesEndOneWay : Type 0
CoursesEndOneWay =
    (site : Site) (a b : Course) (is other : View) (result end : Served) (then now also : Heard)
    → AreOneCourse a b is other → lacks a.rounds ≡ false → lacks b.rounds ≡ false
    → Ends result site a then now → Ends end site b then also → now.faults ≡ 0 → also.faults ≡ 0
    → (result ≡ end) × (now.written ≡ also.written)
