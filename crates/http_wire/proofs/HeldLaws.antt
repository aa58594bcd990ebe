-- What is held of a body, and what stands first in the stream with it.
use Rattle.std.proofs.Common.{◌≡◌, ℕ, Bool, true, false, List, [], ◌++◌, length, Option, Some, None, Ok, Err, inl, inr, refl, sym, ap, subst}
use Rattle.std.specs.Prelude.{Result}
use Rattle.std.proofs.lemmas.List.{append-nil}
use Rattle.capture.specs.First.{Side, HoldsBody}
use Rattle.capture.specs.declared.framing.Framing.{Framing}
use Rattle.capture.specs.declared.framing.MessageFault.{MessageFault}
use Rattle.capture.specs.declared.framing.MessageFault.TheVariants as message_fault
use Rattle.http_head.specs.FrontLaws.{HeadsStay}
use Rattle.http_head.specs.declared.head.WireFault.{WireFault}
use Rattle.http_head.specs.declared.head.WireFault.TheVariants.{Malformed, HeadTooLong, BodyTooLong, CodingRefused, EndedEarly, Memory}
use Rattle.http_wire.specs.Answers.{Reaches, LeavesAt, IsWholeNow}
use Rattle.http_wire.specs.HeldBodies.{held_bytes, held_standing, closed_standing, standing_of, fault_of, GoesOn, Agrees, IsClosed, IsBegun, HoldsAt, HoldsFault, Holds}
use Rattle.http_wire.specs.Reading as standing
use Rattle.http_wire.specs.Reading.{EndsWithHead, HasFault, IsUndecided, IsEnded, Stands, fault_in}
use Rattle.http_wire.specs.declared.held.Held.{Held}
use Rattle.http_wire.specs.declared.held.Held.TheVariants.{Before, Open, Closed}
use Rattle.http_wire.specs.declared.progress.Fed.{Fed}
use Rattle.http_wire.specs.declared.progress.Progress.{Progress}
use Rattle.http_wire.specs.declared.progress.Progress.TheVariants as progress
use Rattle.http_wire.proofs.StandingLaws.{body_fault, whole_too, undecided_behind, undecided_front, holds_message, needs_body, cut_needs}

-- a body of which nothing has come
pub begun_goes_on : (side : Side) (front : List ℕ) (framing : Framing) (h : Held) → EndsWithHead side front framing → IsBegun framing h
    → GoesOn side front h
begun_goes_on side front framing Before ends begun = absurd begun
begun_goes_on side front framing (Open body) ends begun =
    (subst (EndsWithHead side front) (sym (ap (λ b. b.framing) begun.0)) ends, begun.1)
begun_goes_on side front framing (Closed closed) ends begun = (
  subst (EndsWithHead side front) (sym (ap (λ c. c.framing) begun.0)) ends,
  subst (λ c. IsClosed c.cut c.framing c.wire) (sym begun.0) (whole_too framing [] 0 begun.1),
)

pub begun_leaves : (framing : Framing) (h : Held) → IsBegun framing h → LeavesAt progress.Head (held_standing h)
begun_leaves framing Before begun = absurd begun
begun_leaves framing (Open body) begun = inl refl
begun_leaves framing (Closed closed) begun = inr (ap (λ c. closed_standing c.cut) begun.0)

-- what is held after an answer says it
pub held_reaches : HeadsStay → (side : Side) (front : List ℕ) (framing : Framing) (p : Progress) (h : Held) → EndsWithHead side front framing
    → HoldsAt framing p h → Reaches side p (front ++ held_bytes h)
held_reaches stay side front framing progress.More Before ends holds = absurd holds
held_reaches stay side front framing progress.More (Open body) ends holds =
    undecided_behind stay side front body.stream body.framing (subst (EndsWithHead side front) (sym holds.0) ends) holds.1
held_reaches stay side front framing progress.More (Closed closed) ends holds = absurd holds
held_reaches stay side front framing progress.Head h ends holds = absurd holds
held_reaches stay side front framing progress.Whole Before ends holds = absurd holds
held_reaches stay side front framing progress.Whole (Open body) ends holds = absurd holds
held_reaches stay side front framing progress.Whole (Closed closed) ends holds =
    holds_message stay side false front closed.wire framing ends holds.2

open_is_not_whole : standing.Open ≡ standing.Whole → ⊥
open_is_not_whole e = cc

-- a body without a byte is whole with its head, in a stream that goes on
pub begun_whole : HeadsStay → (side : Side) (front : List ℕ) (framing : Framing) (h : Held) → EndsWithHead side front framing → IsBegun framing h
    → IsWholeNow side (front ++ held_bytes h) (held_standing h)
begun_whole stay side front framing Before ends begun = absurd begun
begun_whole stay side front framing (Open body) ends begun = λ e. absurd (open_is_not_whole e)
begun_whole stay side front framing (Closed closed) ends begun = λ _.
    holds_message stay side false front closed.wire framing ends
    (subst (λ (w : List ℕ). HoldsBody framing false w (length w)) (sym (ap (λ c. c.wire) begun.0)) begun.1)

-- what is whole after an answer is so in a stream that goes on
pub held_whole : HeadsStay → (side : Side) (front : List ℕ) (framing : Framing) (p : Progress) (h : Held) → EndsWithHead side front framing
    → HoldsAt framing p h → IsWholeNow side (front ++ held_bytes h) (held_standing h)
held_whole stay side front framing progress.More Before ends holds = absurd holds
held_whole stay side front framing progress.More (Open body) ends holds = λ e. absurd (open_is_not_whole e)
held_whole stay side front framing progress.More (Closed closed) ends holds = absurd holds
held_whole stay side front framing progress.Head h ends holds = absurd holds
held_whole stay side front framing progress.Whole Before ends holds = absurd holds
held_whole stay side front framing progress.Whole (Open body) ends holds = absurd holds
held_whole stay side front framing progress.Whole (Closed closed) ends holds = λ _.
    holds_message stay side false front closed.wire framing ends holds.2

-- what is held after an answer goes on
pub held_goes_on : (side : Side) (front : List ℕ) (framing : Framing) (p : Progress) (h : Held) → EndsWithHead side front framing
    → HoldsAt framing p h → GoesOn side front h
held_goes_on side front framing progress.More Before ends holds = absurd holds
held_goes_on side front framing progress.More (Open body) ends holds = (subst (EndsWithHead side front) (sym holds.0) ends, holds.1)
held_goes_on side front framing progress.More (Closed closed) ends holds = absurd holds
held_goes_on side front framing progress.Head h ends holds = absurd holds
held_goes_on side front framing progress.Whole Before ends holds = absurd holds
held_goes_on side front framing progress.Whole (Open body) ends holds = absurd holds
held_goes_on side front framing progress.Whole (Closed closed) ends holds = (
  subst (EndsWithHead side front) (sym holds.0) ends,
  subst (λ b. IsClosed b closed.framing closed.wire) (sym holds.1)
      (whole_too closed.framing closed.wire (length closed.wire)
      (subst (λ f. HoldsBody f false closed.wire (length closed.wire)) (sym holds.0) holds.2)),
)

-- no message's fault is an early end
no_early_end : (due : MessageFault) → EndedEarly ≡ fault_in due → ⊥
no_early_end message_fault.Malformed e = cc
no_early_end message_fault.HeadTooLong e = cc
no_early_end message_fault.BodyTooLong e = cc
no_early_end message_fault.CodingRefused e = cc

-- what is held after a fault shows it
held_fault : HeadsStay → (side : Side) (front : List ℕ) (framing : Framing) (fault : WireFault) (h : Held) → EndsWithHead side front framing
    → HoldsFault framing fault h → HasFault side fault (front ++ held_bytes h)
held_fault stay side front framing Memory h ends holds = tt
held_fault stay side front framing Malformed Before ends holds = absurd holds
held_fault stay side front framing Malformed (Open body) ends holds =
    body_fault stay side front body.stream framing holds.1.0 Malformed ends holds.1.1 holds.1.2
held_fault stay side front framing Malformed (Closed closed) ends holds = absurd holds
held_fault stay side front framing HeadTooLong Before ends holds = absurd holds
held_fault stay side front framing HeadTooLong (Open body) ends holds =
    body_fault stay side front body.stream framing holds.1.0 HeadTooLong ends holds.1.1 holds.1.2
held_fault stay side front framing HeadTooLong (Closed closed) ends holds = absurd holds
held_fault stay side front framing BodyTooLong Before ends holds = absurd holds
held_fault stay side front framing BodyTooLong (Open body) ends holds =
    body_fault stay side front body.stream framing holds.1.0 BodyTooLong ends holds.1.1 holds.1.2
held_fault stay side front framing BodyTooLong (Closed closed) ends holds = absurd holds
held_fault stay side front framing CodingRefused Before ends holds = absurd holds
held_fault stay side front framing CodingRefused (Open body) ends holds =
    body_fault stay side front body.stream framing holds.1.0 CodingRefused ends holds.1.1 holds.1.2
held_fault stay side front framing CodingRefused (Closed closed) ends holds = absurd holds
held_fault stay side front framing EndedEarly Before ends holds = absurd holds
held_fault stay side front framing EndedEarly (Open body) ends holds =
    absurd (no_early_end holds.1.0 holds.1.2)
held_fault stay side front framing EndedEarly (Closed closed) ends holds = absurd holds

pub agrees_behind : HeadsStay → (side : Side) (front : List ℕ) (framing : Framing) (came : Result Fed WireFault) (h : Held)
    → EndsWithHead side front framing → Holds framing came h → Agrees side front h (fault_of came)
agrees_behind stay side front framing (Ok fed) h ends holds = held_goes_on side front framing fed.progress h ends holds
agrees_behind stay side front framing (Err fault) h ends holds = held_fault stay side front framing fault h ends holds

-- ---- what a reader has come to

closed_stands : HeadsStay → (side : Side) (front wire : List ℕ) (framing : Framing) (cut : Bool) → EndsWithHead side front framing
    → IsClosed cut framing wire → Stands side (front ++ wire) (closed_standing cut)
closed_stands stay side front wire framing false ends closed = holds_message stay side true front wire framing ends closed
closed_stands stay side front wire framing true ends closed = needs_body stay side true front wire framing ends (cut_needs framing wire closed)

pub agrees_stand : HeadsStay → (side : Side) (front : List ℕ) (h : Held) (fault : Option WireFault) → Agrees side front h fault
    → Stands side (front ++ held_bytes h) (standing_of fault h)
agrees_stand stay side front h (Some fault) agrees = agrees
agrees_stand stay side front Before None agrees =
    subst (IsUndecided side false) (sym (append-nil front)) (undecided_front side front agrees)
agrees_stand stay side front (Open body) None agrees = undecided_behind stay side front body.stream body.framing agrees.0 agrees.1
agrees_stand stay side front (Closed closed) None agrees =
    closed_stands stay side front closed.wire closed.framing closed.cut agrees.0 agrees.1

pub closed_ends : (cut : Bool) → IsEnded (closed_standing cut)
closed_ends false = inl refl
closed_ends true = inr refl
