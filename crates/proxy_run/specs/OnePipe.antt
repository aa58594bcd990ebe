-- What `pipe` answers is told by what it is given: over one disk whose book is known the same bytes, times and transcripts are answered in one way.
use Rattle.std.specs.Prelude.{◌≡◌, ◌≢◌, ℕ, ◌-◌, ◌^◌, ◌<◌, List, length, IsTrue, Option, Some}
use Rattle.archive_core.specs.Holdings.{contents_of}
use Rattle.archive_reopening.specs.Known.{told_at}
use Rattle.archive_shelf.specs.declared.depth.Depth.TheVariants.{Checkpoints}
use Rattle.capture.specs.declared.book.Book.{Book}
use Rattle.proxy_run.specs.Complete.{IsSteady}
use Rattle.command.specs.Objects.{Kinds, Objects}
use Rattle.proxy_run.specs.Pipes.{HasServed, Pipes}
use Rattle.command.specs.declared.status.Status.{Status}
use Rattle.command.specs.declared.status.Status.TheVariants.{Memory}

module _ {D G L P N M C O : Type 0} (kinds : Kinds D G L P N M C O) where
  module _ {known : Option Book} {namespace : List ℕ} {was is : Objects D G (N × C) O} {status : Status} where
    -- A connection was served. Its client's link didn't fail, nor did the dialer, with its links, or the disk; the clock told its answers;
    -- and memory sufficed.
    pub record PipesWell (piped : Pipes kinds known (Some namespace) was is status) : Type 0 where
      pub served : HasServed kinds was is piped.before piped.after piped.said
      pub client : served.one.heard.faults ≡ 0
      pub dialer : IsSteady (kinds.dialers.faults was.crew.0) (kinds.dialers.faults is.crew.0)
      pub disk : IsSteady (kinds.disks.faults was.disk) (kinds.disks.faults is.disk)
      pub clock : length (kinds.clocks.answers is.crew.1) < 2 ^ 64 - 1
      pub memory : status ≢ Memory

  module _ {known : Option Book} {namespace : List ℕ} {was is other : Objects D G (N × C) O} {status end : Status}
      {piped : Pipes kinds known (Some namespace) was is status} {also : Pipes kinds known (Some namespace) was other end} where
    -- the clients gave the same bytes, the clocks the same answers, and the links to origins took and gave the same
    pub record AreGivenTheSame (a : PipesWell piped) (b : PipesWell also) : Type 0 where
      pub bytes : a.served.one.heard.given ≡ b.served.one.heard.given
      pub times : kinds.clocks.answers is.crew.1 ≡ kinds.clocks.answers other.crew.1
      pub transcripts : (kinds.dialers.links is.crew.0).log ≡ (kinds.dialers.links other.crew.0).log

    -- the same was written to the clients, the same archive is left, and the status is the same
    pub record AnswerTheSame (a : PipesWell piped) (b : PipesWell also) : Type 0 where
      pub written : a.served.one.heard.written ≡ b.served.one.heard.written
      pub seen : piped.after.book ≡ also.after.book
      pub shown : (contents_of piped.after).shown ≡ (contents_of also.after).shown
      pub status_is : status ≡ end

  abbrev pub PipesLeaveNoChoice : Type 0
  PipesLeaveNoChoice =
      (known : Option Book) (namespace : List ℕ) (was is other : Objects D G (N × C) O) (status end : Status)
      (piped : Pipes kinds known (Some namespace) was is status) (also : Pipes kinds known (Some namespace) was other end) (a : PipesWell piped)
      (b : PipesWell also) → IsTrue (told_at Checkpoints kinds.disks.tells known) → IsTrue kinds.clocks.tells → AreGivenTheSame a b → AnswerTheSame a b
