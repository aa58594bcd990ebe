-- What came of a request's body.
use Rattle.std.proofs.Common.{◌∙◌, refl}
use Rattle.outside.specs.Gate.{heard_of}
use Rattle.session.proofs.ReadLaws.{behind, body_broke, ended_behind_head, faulty_behind, held_begins, still_owed, taken_whole}
use Rattle.request_answer.proofs.WireLaws.{rose_above}
use Rattle.session.proofs.SayLaws.{nothing_said}
use Rattle.session.proofs.reading.read_body.Goals as goal

pub returns-in-Whole-clause-reads : goal.returns-in-Whole-clause-reads
returns-in-Whole-clause-reads g c t site from head aim some h =
    let grown = c.receive_request.new.reader.stream in
    taken_whole site from (record { heard = heard_of (g.L.Link.traffic c.args.client.now) (g.L.Link.faults c.args.client.now); pending = c.args.window.now }) c.args.reader.now.stream grown head aim
    (record { heard = heard_of (g.L.Link.traffic c.receive_request.new.link) (g.L.Link.faults c.receive_request.new.link); pending = c.receive_request.new.window }) (heard_of (g.L.Link.traffic c.take.new.client) (g.L.Link.faults c.take.new.client)) c.receive_request.new.window c.take.result h
    (held_begins grown c.receive_request.new.reader.standing c.receive_request.new.reader.head head c.holds_its_head.ensures (c.in-Whole.ensures.heads.1 ∙ some))
    (c.in-Whole.ensures.accounts t) (nothing_said _ _ _ _ (c.in-Whole.ensures.gives t)) refl c.take.ensures.message c.take.ensures.same (c.take.ensures.gives_up t)

pub returns-in-Broken-clause-reads : goal.returns-in-Broken-clause-reads
returns-in-Broken-clause-reads g c t site from head aim some h =
    let grown = c.receive_request.new.reader.stream in
    body_broke site from (record { heard = heard_of (g.L.Link.traffic c.args.client.now) (g.L.Link.faults c.args.client.now); pending = c.args.window.now }) c.args.reader.now.stream grown c.receive_request.new.window head aim
    (heard_of (g.L.Link.traffic c.receive_request.new.link) (g.L.Link.faults c.receive_request.new.link)) h
    (held_begins grown c.receive_request.new.reader.standing c.receive_request.new.reader.head head c.holds_its_head-in-Broken.ensures (c.in-Broken.ensures.heads ∙ some))
    c.in-Broken.ensures.brings.2 c.in-Broken.ensures.brings.0 (c.in-Broken.ensures.accounts t) (nothing_said _ _ _ _ (c.in-Broken.ensures.gives t))
    (rose_above (g.L.Link.faults c.args.client.now) (g.L.Link.faults c.receive_request.new.link) c.in-Broken.ensures.counts.1)

pub returns-in-Refused-clause-reads : goal.returns-in-Refused-clause-reads
returns-in-Refused-clause-reads g c t site from head aim some h =
    let grown = c.receive_request.new.reader.stream in
    c.turn_away.ensures.ends t site from _
    (still_owed site c.args.reader.now.head c.receive_request.new.reader.head head aim some (c.in-Refused.ensures.heads c.requires.held) h.aimed)
    (faulty_behind site from (record { heard = heard_of (g.L.Link.traffic c.args.client.now) (g.L.Link.faults c.args.client.now); pending = c.args.window.now }) c.args.reader.now.stream grown head aim
    (heard_of (g.L.Link.traffic c.receive_request.new.link) (g.L.Link.faults c.receive_request.new.link)) h (c.in-Refused.ensures.accounts t) (nothing_said _ _ _ _ (c.in-Refused.ensures.gives t)))

pub returns-in-EndedInside-clause-reads : goal.returns-in-EndedInside-clause-reads
returns-in-EndedInside-clause-reads g c t site from head aim some h =
    let reader = c.receive_request.new.reader in
    ended_behind_head site from (record { heard = heard_of (g.L.Link.traffic c.args.client.now) (g.L.Link.faults c.args.client.now); pending = c.args.window.now })
    c.args.reader.now.stream reader.stream c.receive_request.new.window reader.standing reader.head c.args.reader.now.head head aim
    (heard_of (g.L.Link.traffic c.receive_request.new.link) (g.L.Link.faults c.receive_request.new.link)) h
    c.in-EndedInside.ensures.brings.1 c.holds_its_head-in-EndedInside.ensures some c.in-EndedInside.ensures.heads
    c.in-EndedInside.ensures.brings.2 c.in-EndedInside.ensures.brings.0 (c.in-EndedInside.ensures.accounts t)
    (nothing_said _ _ _ _ (c.in-EndedInside.ensures.gives t)) (c.in-EndedInside.ensures.meets_end t)
    (c.in-EndedInside.ensures.counts ∙ c.requires.no_fault)

pub returns-in-Whole-clause-behind : goal.returns-in-Whole-clause-behind
returns-in-Whole-clause-behind g c =
    behind c.receive_request.new.reader.stream c.args.reader.now.head c.receive_request.new.reader.head c.receive_request.new.reader.standing c.take.result
    c.holds_its_head.ensures c.in-Whole.ensures.heads.1 c.take.ensures.message
