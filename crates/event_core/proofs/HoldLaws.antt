-- What the disk that a run leaves holds of the captures that replies acknowledged.
use Rattle.std.proofs.Common.{◌≡◌, List, [], ◌∷◌, ◌++◌, length, take, drop, refl, sym, ap, subst, ⊎_elim}
use Rattle.capture.specs.Captures.{captures}
use Rattle.capture.specs.declared.book.Book.{Book}
use Rattle.capture.specs.declared.limits.Limits.{Limits}
use Rattle.disk_model.specs.Device.{reading_of}
use Rattle.disk_model.specs.Image.{Image}
use Rattle.event_core.proofs.AcknowledgedLaws.{acknowledged_stay, either_stands, within_stands}
use Rattle.event_core.specs.Acknowledged.{Acknowledged, StandFrom, StandIn, acknowledged, acknowledged_by}
use Rattle.event_core.specs.Machine.{State}
use Rattle.event_core.specs.Running.{DisksHoldWhatIsAcknowledged, HoldsOne, IsLeftByNext, RunPart, RunSo, RunsTo}
use Rattle.event_core.specs.declared.event.Event.{Event}
use Rattle.event_core.specs.declared.event.Event.TheVariants as events
use Rattle.event_core.specs.declared.reply.Reply.{Reply}
use Rattle.event_core.specs.declared.run.RanEnd.{RanEnd}
use Rattle.event_core.specs.declared.run.RanEnd.TheVariants as ends

-- events without a reply acknowledge nothing
acknowledged_first : (list : List Event) (replies : List Reply) → acknowledged (take (length replies) list) replies ≡ acknowledged list replies
acknowledged_first [] [] = refl
acknowledged_first [] (reply ∷ replies) = refl
acknowledged_first (event ∷ list) [] = refl
acknowledged_first (event ∷ list) (reply ∷ replies) =
    ap (λ (more : List Acknowledged). acknowledged_by event reply ++ more) (acknowledged_first list replies)

-- the files stand for a book that has these
abbrev pub Holds : Image → List Acknowledged → Type 0
Holds image list = HoldsOne image (λ book. StandFrom 0 (captures book) list)

so_holds : (limits : Limits) (start : State) (list : List Event) (replies : List Reply) (image : Image) → RunSo limits start list replies image
    → Holds image (acknowledged list replies)
so_holds limits start list replies image so =
    let stand = acknowledged_stay limits start so.is list replies so.runs in record {
      book = so.holds.book;
      stands = so.holds.stands;
      allowed = either_stands (acknowledged list replies) so.is stand so.holds.book so.holds.allowed;
    }

next_stands : (limits : Limits) (was : State) (list : List Acknowledged) → StandIn was list → (rest : List Event) (book : Book)
    → IsLeftByNext limits was rest book → StandFrom 0 (captures book) list
next_stands limits was list stand [] book left = absurd left
next_stands limits was list stand (events.Stop choice ∷ later) book left = either_stands list was stand book left
next_stands limits was list stand (events.StopWithin taken calls choice ∷ later) book left = within_stands list was stand limits taken book left
next_stands limits was list stand (events.Store taken ∷ later) book left = absurd left
next_stands limits was list stand (events.Roll born ∷ later) book left = absurd left
next_stands limits was list stand (events.Bring number ∷ later) book left = absurd left
next_stands limits was list stand (events.ByDate key time ∷ later) book left = absurd left
next_stands limits was list stand (events.Map key ∷ later) book left = absurd left
next_stands limits was list stand (events.Settle ∷ later) book left = absurd left

part_holds : (limits : Limits) (start : State) (list : List Event) (replies : List Reply) (image : Image) → RunPart limits start list replies image
    → Holds image (acknowledged (take (length replies) list) replies)
part_holds limits start list replies image part =
    let first : List Event = take (length replies) list in
    let stand = acknowledged_stay limits start part.is first replies part.runs in record {
      book = part.holds.book;
      stands = part.holds.stands;
      allowed = next_stands limits part.is (acknowledged first replies) stand (drop (length replies) list) part.holds.book part.holds.allowed;
    }

none_holds : (list : List Event) (replies : List Reply) (image : Image) (P : Book → Type 0) → replies ≡ [] → HoldsOne image P
    → Holds image (acknowledged list replies)
none_holds list replies image P none holds =
    subst (λ (l : List Reply). Holds image (acknowledged list l)) (sym none)
    (record { book = holds.book; stands = holds.stands; allowed = by list })
  where
    by : (l : List Event) → StandFrom 0 (captures holds.book) (acknowledged l [])
    by [] = tt
    by (event ∷ later) = tt

runs_hold : (limits : Limits) (start : State) (list : List Event) (replies : List Reply) (end : RanEnd) (image : Image)
    → RunsTo limits start list replies end image → Holds image (acknowledged list replies)
runs_hold limits start list replies ends.All image so = so_holds limits start list replies image so
runs_hold limits start list replies (ends.NotOpened fault) image un = ⊎_elim
    (λ none. none_holds list replies image _ none.0 none.1)
    (λ part. subst (Holds image) (acknowledged_first list replies) (part_holds limits start list replies image part))
    un.ran
runs_hold limits start list replies ends.Memory image lacks =
    subst (Holds image) (acknowledged_first list replies) (so_holds limits start (take (length replies) list) replies image lacks.1)

pub disks_hold : DisksHoldWhatIsAcknowledged
disks_hold limits start list ran run = runs_hold limits start list ran.replies ran.end (reading_of ran.disk) run
