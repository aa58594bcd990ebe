use Rattle.std.proofs.Common.{Err, Some, ap}
use Rattle.capture.specs.First.{Responses}
use Rattle.http_head.proofs.FrontLaws.{heads_stay}
use Rattle.http_wire.specs.HeldBodies.{held_bytes}
use Rattle.http_wire.specs.Parts.{ResponseAgrees}
use Rattle.http_wire.proofs.Exits.{at_fault}
use Rattle.http_wire.proofs.HeldLaws.{begun_leaves, begun_whole}
use Rattle.http_wire.proofs.ResponseLaws.{unread_front, refused_head, head_without_memory, begun_agrees, ends_told}
use Rattle.http_wire.proofs.response.parts.ResponseParts.read_front.Goals as goal

pub returns-in_err-head-clause-agrees : goal.returns-in_err-head-clause-agrees
returns-in_err-head-clause-agrees c =
    at_fault (λ f. ResponseAgrees c.args.answers_head c.args.self.now f) _ c.from_residual.result c.from_residual.ensures.1
    (unread_front c.args.answers_head c.args.self.now _ (ap held_bytes c.requires.before) c.requires.none c.requires.ends c.in_err-head.ensures.faults
    (λ is. rw c.text.ensures at (c.in_err-head.ensures.malformed (ap (λ e. Err e) is))))

pub returns-in_err-framing-clause-agrees : goal.returns-in_err-framing-clause-agrees
returns-in_err-framing-clause-agrees c =
    at_fault (λ f. ResponseAgrees c.args.answers_head (record { front = c.args.self.now.front; head = Some c.in_ok-head.head; held = c.args.self.now.held }) f) _
    c.from_residual-in_err-framing.result c.from_residual-in_err-framing.ensures.1
    (refused_head c.args.answers_head heads_stay c.args.self.now.front c.args.self.now.held c.in_ok-head.head _
    (ap held_bytes c.requires.before) c.requires.ends (rw c.text.ensures at c.in_ok-head.ensures.ok) c.in_err-framing.ensures)

pub returns-in_err-held-clause-agrees : goal.returns-in_err-held-clause-agrees
returns-in_err-held-clause-agrees c =
    at_fault (λ f. ResponseAgrees c.args.answers_head (record { front = c.args.self.now.front; head = Some c.in_ok-head.head; held = c.args.self.now.held }) f) _
    c.from_residual-in_err-held.result c.from_residual-in_err-held.ensures.1
    (head_without_memory c.args.answers_head heads_stay c.args.self.now.front c.args.self.now.held c.in_ok-head.head
    (ap held_bytes c.requires.before) c.requires.ends (rw c.text.ensures at c.in_ok-head.ensures.ok))

pub returns-clause-agrees : goal.returns-clause-agrees
returns-clause-agrees c =
    begun_agrees c.args.answers_head heads_stay c.args.self.now.front c.in_ok-held.held c.in_ok-head.head c.in_ok-framing.framing
    c.requires.ends (rw c.text.ensures at c.in_ok-head.ensures.ok) c.in_ok-framing.ensures c.in_ok-held.ensures

pub returns-clause-tells : goal.returns-clause-tells
returns-clause-tells c = (
  c.in_ok-framing.framing,
  ends_told c.args.answers_head c.args.self.now.front c.in_ok-head.head c.in_ok-framing.framing c.requires.ends (rw c.text.ensures at c.in_ok-head.ensures.ok)
      c.in_ok-framing.ensures,
)

pub returns-clause-leaves : goal.returns-clause-leaves
returns-clause-leaves c = begun_leaves c.in_ok-framing.framing c.in_ok-held.held c.in_ok-held.ensures

pub returns-clause-whole : goal.returns-clause-whole
returns-clause-whole c =
    begun_whole heads_stay (Responses c.args.answers_head) c.args.self.now.front c.in_ok-framing.framing c.in_ok-held.held
    (ends_told c.args.answers_head c.args.self.now.front c.in_ok-head.head c.in_ok-framing.framing c.requires.ends (rw c.text.ensures at c.in_ok-head.ensures.ok) c.in_ok-framing.ensures) c.in_ok-held.ensures
