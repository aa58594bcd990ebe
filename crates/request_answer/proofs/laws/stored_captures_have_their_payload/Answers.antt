-- The law, by those of lower crates.
use Rattle.request_answer.proofs.PayloadLaws.{Storage, stored_payloads}
use Rattle.request_answer.proofs.laws.stored_captures_have_their_payload.Goals as goal

pub returns : goal.returns
returns c =
    let laws : Storage = record {
      storing = c.stored_captures_stand_behind.ensures.storing;
      behind = c.stored_captures_stand_behind.ensures.behind;
      grow = c.stored_captures_stand_behind.ensures.grows;
      payloads = c.growth_keeps_captures.ensures.payloads;
      one = c.captures_have_one_payload.ensures;
    } in
    stored_payloads laws
