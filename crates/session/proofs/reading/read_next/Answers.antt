-- What came of a client's link.
use Rattle.std.proofs.Common.{◌∙◌}
use Rattle.outside.specs.Gate.{heard_of}
use Rattle.session.proofs.ReadLaws.{broke_without, ended_before_head, ended_between, faulty_first, held_lacks, open_is_whole, read_first}
use Rattle.request_answer.proofs.WireLaws.{rose_above}
use Rattle.session.proofs.SayLaws.{nothing_said}
use Rattle.session.proofs.reading.read_next.Goals as goal

pub returns-in-Head-clause-reads : goal.returns-in-Head-clause-reads
returns-in-Head-clause-reads g c t =
    c.read_on.ensures.reads t (record { heard = heard_of (g.L.Link.traffic c.args.client.now) (g.L.Link.faults c.args.client.now); pending = c.args.window.now })
    (read_first (record { heard = heard_of (g.L.Link.traffic c.args.client.now) (g.L.Link.faults c.args.client.now); pending = c.args.window.now }) c.receive_request.new.reader.stream
    (record { heard = heard_of (g.L.Link.traffic c.receive_request.new.link) (g.L.Link.faults c.receive_request.new.link); pending = c.receive_request.new.window })
    (rw c.requires.empty at (c.in-Head.ensures.accounts t)) (nothing_said _ _ _ _ (c.in-Head.ensures.gives t)))

pub returns-in-Ended-clause-reads : goal.returns-in-Ended-clause-reads
returns-in-Ended-clause-reads g c t =
    ended_between c.args.site.now (record { heard = heard_of (g.L.Link.traffic c.args.client.now) (g.L.Link.faults c.args.client.now); pending = c.args.window.now })
    c.receive_request.new.reader.stream c.receive_request.new.window (heard_of (g.L.Link.traffic c.receive_request.new.link) (g.L.Link.faults c.receive_request.new.link))
    c.in-Ended.ensures.between.1 c.in-Ended.ensures.brings (rw c.requires.empty at (c.in-Ended.ensures.accounts t)) (nothing_said _ _ _ _ (c.in-Ended.ensures.gives t))
    (c.in-Ended.ensures.meets_end t) (c.in-Ended.ensures.counts ∙ c.requires.no_fault)

pub returns-in-Broken-clause-reads : goal.returns-in-Broken-clause-reads
returns-in-Broken-clause-reads g c t =
    let reader = c.receive_request.new.reader in
    broke_without c.args.site.now (record { heard = heard_of (g.L.Link.traffic c.args.client.now) (g.L.Link.faults c.args.client.now); pending = c.args.window.now })
    reader.stream c.receive_request.new.window (heard_of (g.L.Link.traffic c.receive_request.new.link) (g.L.Link.faults c.receive_request.new.link))
    (held_lacks reader.stream reader.standing reader.head c.holds_its_head-in-Broken.ensures
    (rw c.requires.empty at c.in-Broken.ensures.heads) (open_is_whole reader.standing c.in-Broken.ensures.brings.1))
    c.in-Broken.ensures.brings.2 c.in-Broken.ensures.brings.0 (rw c.requires.empty at (c.in-Broken.ensures.accounts t)) (nothing_said _ _ _ _ (c.in-Broken.ensures.gives t))
    (rose_above (g.L.Link.faults c.args.client.now) (g.L.Link.faults c.receive_request.new.link) c.in-Broken.ensures.counts.1)

pub returns-in-EndedInside-clause-reads : goal.returns-in-EndedInside-clause-reads
returns-in-EndedInside-clause-reads g c t =
    let reader = c.receive_request.new.reader in
    ended_before_head c.args.site.now (record { heard = heard_of (g.L.Link.traffic c.args.client.now) (g.L.Link.faults c.args.client.now); pending = c.args.window.now })
    reader.stream c.receive_request.new.window reader.standing reader.head
    (heard_of (g.L.Link.traffic c.receive_request.new.link) (g.L.Link.faults c.receive_request.new.link))
    c.in-EndedInside.ensures.brings.1 c.holds_its_head.ensures (rw c.requires.empty at c.in-EndedInside.ensures.heads)
    c.in-EndedInside.ensures.brings.2 c.in-EndedInside.ensures.brings.0 (rw c.requires.empty at (c.in-EndedInside.ensures.accounts t))
    (nothing_said _ _ _ _ (c.in-EndedInside.ensures.gives t)) (c.in-EndedInside.ensures.meets_end t) (c.in-EndedInside.ensures.counts ∙ c.requires.no_fault)

pub returns-in-Refused-clause-reads : goal.returns-in-Refused-clause-reads
returns-in-Refused-clause-reads g c t =
    c.turn_back.ensures.ends t (record { heard = heard_of (g.L.Link.traffic c.args.client.now) (g.L.Link.faults c.args.client.now); pending = c.args.window.now })
    (faulty_first (record { heard = heard_of (g.L.Link.traffic c.args.client.now) (g.L.Link.faults c.args.client.now); pending = c.args.window.now }) c.receive_request.new.reader.stream
    (heard_of (g.L.Link.traffic c.receive_request.new.link) (g.L.Link.faults c.receive_request.new.link))
    (rw c.requires.empty at (c.in-Refused.ensures.accounts t)) (nothing_said _ _ _ _ (c.in-Refused.ensures.gives t)))
