-- Bytes that are no message, by why they are none.
use Rattle.std.proofs.Common.{refl}
use Rattle.capture.specs.declared.framing.MessageFault.TheVariants as message_fault
use Rattle.capture.specs.declared.refusal.Refusal.TheVariants as refusals
use Rattle.outside.specs.Gate.{heard_of}
use Rattle.session.proofs.ReadLaws.{not_memory, out_of_memory, turned_away}
use Rattle.session.proofs.reading.turn_away.Goals as goal

pub returns-in-Malformed-clause-ends : goal.returns-in-Malformed-clause-ends
returns-in-Malformed-clause-ends g c t site from interim owed h =
    turned_away site from c.args.reader.now.stream interim c.args.reader.now.standing c.args.reader.now.head message_fault.Malformed refusals.Malformed
    c.is_for_head-answers_head.result (heard_of (g.L.Link.traffic c.args.client.now) (g.L.Link.faults c.args.client.now))
    (heard_of (g.L.Link.traffic c.refuse.new.client) (g.L.Link.faults c.refuse.new.client)) c.refuse.result
    (not_memory c.args.fault c.args.reader.now.standing c.requires.failed (λ e. let bad : ⊥ = cc (c.in-Malformed.is, e) in bad))
    c.is_for_head-answers_head.ensures.holds owed refl (rw c.in-Malformed.is at c.requires.faulty) h.accounts h.said
    c.is_for_head-answers_head.ensures.value (c.refuse.ensures.ends t)

pub returns-in-HeadTooLong-clause-ends : goal.returns-in-HeadTooLong-clause-ends
returns-in-HeadTooLong-clause-ends g c t site from interim owed h =
    turned_away site from c.args.reader.now.stream interim c.args.reader.now.standing c.args.reader.now.head message_fault.HeadTooLong refusals.HeadTooLong
    c.is_for_head-answers_head.result (heard_of (g.L.Link.traffic c.args.client.now) (g.L.Link.faults c.args.client.now))
    (heard_of (g.L.Link.traffic c.refuse-in-HeadTooLong.new.client) (g.L.Link.faults c.refuse-in-HeadTooLong.new.client)) c.refuse-in-HeadTooLong.result
    (not_memory c.args.fault c.args.reader.now.standing c.requires.failed (λ e. let bad : ⊥ = cc (c.in-HeadTooLong.is, e) in bad))
    c.is_for_head-answers_head.ensures.holds owed refl (rw c.in-HeadTooLong.is at c.requires.faulty) h.accounts h.said
    c.is_for_head-answers_head.ensures.value (c.refuse-in-HeadTooLong.ensures.ends t)

pub returns-in-BodyTooLong-clause-ends : goal.returns-in-BodyTooLong-clause-ends
returns-in-BodyTooLong-clause-ends g c t site from interim owed h =
    turned_away site from c.args.reader.now.stream interim c.args.reader.now.standing c.args.reader.now.head message_fault.BodyTooLong refusals.BodyTooLong
    c.is_for_head-answers_head.result (heard_of (g.L.Link.traffic c.args.client.now) (g.L.Link.faults c.args.client.now))
    (heard_of (g.L.Link.traffic c.refuse-in-BodyTooLong.new.client) (g.L.Link.faults c.refuse-in-BodyTooLong.new.client)) c.refuse-in-BodyTooLong.result
    (not_memory c.args.fault c.args.reader.now.standing c.requires.failed (λ e. let bad : ⊥ = cc (c.in-BodyTooLong.is, e) in bad))
    c.is_for_head-answers_head.ensures.holds owed refl (rw c.in-BodyTooLong.is at c.requires.faulty) h.accounts h.said
    c.is_for_head-answers_head.ensures.value (c.refuse-in-BodyTooLong.ensures.ends t)

pub returns-in-CodingRefused-clause-ends : goal.returns-in-CodingRefused-clause-ends
returns-in-CodingRefused-clause-ends g c t site from interim owed h =
    turned_away site from c.args.reader.now.stream interim c.args.reader.now.standing c.args.reader.now.head message_fault.CodingRefused refusals.CodingRefused
    c.is_for_head-answers_head.result (heard_of (g.L.Link.traffic c.args.client.now) (g.L.Link.faults c.args.client.now))
    (heard_of (g.L.Link.traffic c.refuse-in-CodingRefused.new.client) (g.L.Link.faults c.refuse-in-CodingRefused.new.client)) c.refuse-in-CodingRefused.result
    (not_memory c.args.fault c.args.reader.now.standing c.requires.failed (λ e. let bad : ⊥ = cc (c.in-CodingRefused.is, e) in bad))
    c.is_for_head-answers_head.ensures.holds owed refl (rw c.in-CodingRefused.is at c.requires.faulty) h.accounts h.said
    c.is_for_head-answers_head.ensures.value (c.refuse-in-CodingRefused.ensures.ends t)

pub returns-in-Memory-clause-ends : goal.returns-in-Memory-clause-ends
returns-in-Memory-clause-ends g c t site from interim owed h =
    rw c.give_up.ensures.ends (out_of_memory site from c.args.reader.now.stream interim c.args.reader.now.standing c.args.reader.now.head
    (heard_of (g.L.Link.traffic c.args.client.now) (g.L.Link.faults c.args.client.now))
    (heard_of (g.L.Link.traffic c.give_up.new.client) (g.L.Link.faults c.give_up.new.client))
    c.is_for_head-answers_head.ensures.holds owed h (c.give_up.ensures.tries t))
