-- What the reader tells of its bytes is what stands first in what the link gave further.
use Rattle.std.proofs.Common.{length, false, ap, subst, ◌∙◌}
use Rattle.capture.specs.First.{Responses, Message, IsFirst}
use Rattle.http_head.proofs.FrontLaws.{heads_stay, too_long_stays}
use Rattle.http_wire.specs.Messages.{IsResponse}
use Rattle.http_wire.specs.Reading.{EndsInside, HasFault, IsUndecided, Stands}
use Rattle.http_wire.specs.ResponseReading.{ResponseReading}
use Rattle.exchange.proofs.AccountLaws.{accounts_then}
use Rattle.http_wire.proofs.DecisionLaws.{messages_stay, refusals_stay}
use Rattle.exchange.proofs.ResponseLaws.{head_came, whole_answers, ended_answers, ended_inside_answers, broken_answers, refused_answers}
use Rattle.exchange.proofs.WithinLaws.{whole_within, ended_within}
use Rattle.exchange.proofs.fetching.next_response.Goals as goal

pub reading-smaller : goal.reading-smaller
reading-smaller g c =
    head_came c.reading.reader.head c.receive_response.new.reader.head c.in-Head.ensures.heads.0 c.in-Head.ensures.heads.1

pub returns-in-Whole-clause-answers : goal.returns-in-Whole-clause-answers
returns-in-Whole-clause-answers g c t =
    let ah = c.reading.invariant.answers_head in
    let stream = c.receive_response.new.reader.stream in
    let start = ap (λ (r : ResponseReading). r.stream) c.requires in
    let accounts = accounts_then _ _ _ _ _ _ (c.reading.invariant.accounts t) (c.in-Whole.ensures.accounts t) in
    let first = subst (λ a. IsFirst (Responses a) false stream (Message (length stream))) ah c.in-Whole.ensures.brings.1 in
    let response = subst (λ a. IsResponse a stream c.take.result) (c.receive_response.ensures.answers_head ∙ ah) c.take.ensures.message in
    whole_answers (messages_stay heads_stay) c.args.reader.now.answers_head
    (g.L.Link.traffic c.receive_response.new.link).ended (g.L.Link.traffic c.args.link.now).given c.args.reader.now.stream c.args.window.now
    (g.L.Link.traffic c.receive_response.new.link).given stream c.receive_response.new.window c.receive_response.new.reader.standing c.take.result
    start accounts c.in-Whole.ensures.brings.0 first response c.take.ensures.cut

pub returns-in-Ended-clause-answers : goal.returns-in-Ended-clause-answers
returns-in-Ended-clause-answers g c t =
    let ah = c.reading.invariant.answers_head in
    let stream = c.receive_response.new.reader.stream in
    let standing = c.receive_response.new.reader.standing in
    let start = ap (λ (r : ResponseReading). r.stream) c.requires in
    let accounts = accounts_then _ _ _ _ _ _ (c.reading.invariant.accounts t) (c.in-Ended.ensures.accounts t) in
    let stands = subst (λ a. Stands (Responses a) stream standing) ah c.in-Ended.ensures.stands in
    let response = subst (λ a. IsResponse a stream c.take-in-Ended.result) (c.receive_response.ensures.answers_head ∙ ah) c.take-in-Ended.ensures.message in
    ended_answers c.args.reader.now.answers_head
    (g.L.Link.traffic c.receive_response.new.link).ended (g.L.Link.traffic c.args.link.now).given c.args.reader.now.stream c.args.window.now
    (g.L.Link.traffic c.receive_response.new.link).given stream c.receive_response.new.window standing c.take-in-Ended.result
    start accounts c.in-Ended.ensures.brings stands response c.take-in-Ended.ensures.cut (c.in-Ended.ensures.meets_end t)

pub returns-in-Broken-clause-answers : goal.returns-in-Broken-clause-answers
returns-in-Broken-clause-answers g c t =
    let ah = c.reading.invariant.answers_head in
    let stream = c.receive_response.new.reader.stream in
    let start = ap (λ (r : ResponseReading). r.stream) c.requires in
    let accounts = accounts_then _ _ _ _ _ _ (c.reading.invariant.accounts t) (c.in-Broken.ensures.accounts t) in
    let undecided = subst (λ a. IsUndecided (Responses a) false stream) ah c.in-Broken.ensures.brings.2 in
    broken_answers c.args.reader.now.answers_head
    (g.L.Link.traffic c.receive_response.new.link).ended (g.L.Link.traffic c.args.link.now).given c.args.reader.now.stream c.args.window.now
    (g.L.Link.traffic c.receive_response.new.link).given stream c.receive_response.new.window
    start accounts c.in-Broken.ensures.brings.0 undecided

pub returns-in-EndedInside-clause-answers : goal.returns-in-EndedInside-clause-answers
returns-in-EndedInside-clause-answers g c t =
    let ah = c.reading.invariant.answers_head in
    let stream = c.receive_response.new.reader.stream in
    let start = ap (λ (r : ResponseReading). r.stream) c.requires in
    let accounts = accounts_then _ _ _ _ _ _ (c.reading.invariant.accounts t) (c.in-EndedInside.ensures.accounts t) in
    let inside = subst (λ a. EndsInside (Responses a) stream) ah c.in-EndedInside.ensures.brings.2 in
    ended_inside_answers c.args.reader.now.answers_head
    (g.L.Link.traffic c.receive_response.new.link).ended (g.L.Link.traffic c.args.link.now).given c.args.reader.now.stream c.args.window.now
    (g.L.Link.traffic c.receive_response.new.link).given stream c.receive_response.new.window
    start accounts c.in-EndedInside.ensures.brings.0 inside (c.in-EndedInside.ensures.meets_end t)

pub returns-in-Refused-clause-answers : goal.returns-in-Refused-clause-answers
returns-in-Refused-clause-answers g c t =
    let ah = c.reading.invariant.answers_head in
    let stream = c.receive_response.new.reader.stream in
    let fault = c.in-Refused.fault in
    let start = ap (λ (r : ResponseReading). r.stream) c.requires in
    let first = c.reading.invariant.accounts t in
    let second = c.in-Refused.ensures.accounts t in
    let has = subst (λ a. HasFault (Responses a) fault stream) ah c.in-Refused.ensures.brings.2 in
    refused_answers (refusals_stay heads_stay too_long_stays) c.args.reader.now.answers_head
    (g.L.Link.traffic c.receive_response.new.link).ended fault c.fault_of.result
    (g.L.Link.traffic c.args.link.now).given c.args.reader.now.stream c.args.window.now
    (g.L.Link.traffic c.receive_response.new.link).given stream c.receive_response.new.window
    start (λ done split. second done (first done split)) has c.fault_of.ensures

pub returns-in-Whole-clause-within : goal.returns-in-Whole-clause-within
returns-in-Whole-clause-within g c =
    whole_within c.receive_response.new.reader.answers_head c.reading.reader.answers_head false c.receive_response.new.reader.stream c.take.result
    c.take.ensures.message c.in-Whole.ensures.brings.1

pub returns-in-Ended-clause-within : goal.returns-in-Ended-clause-within
returns-in-Ended-clause-within g c =
    ended_within c.receive_response.new.reader.answers_head c.reading.reader.answers_head c.receive_response.new.reader.stream
    c.receive_response.new.reader.standing c.take-in-Ended.result c.take-in-Ended.ensures.message c.in-Ended.ensures.stands c.take-in-Ended.ensures.cut
