use Rattle.std.proofs.Common.{List, ℕ, length, refl, sym, ap, subst, arith}
use Rattle.capture.specs.Target.{IsAcceptedAs}
use Rattle.http_head.specs.Heads.{HoldsResponse}
use Rattle.warc_scan.specs.steps.Responses.{IsAnswerOf, kept_by}
use Rattle.warc_scan.specs.Groups.{HasPayloadLen}
use Rattle.warc_scan.proofs.scan_group.group_of.Goals as goal

pub returns-clause-group : goal.returns-clause-group
returns-clause-group c =
    let found = c.args.read.found in
    let method = c.args.read.method in
    let answer = c.args.read.answer in
    let kept = kept_by answer.form answer.wire.now in
    let is = c.requires.messages.answer_is in
    let copied = c.requires.copies in
    let text = c.args.copies.head in
    record {
      number_is = refl;
      date = refl;
      target = copied.uri;
      digest = refl;
      same = copied.same;
      request_is = copied.request;
      request = c.requires.messages.request;
      answer =
          subst (λ k. IsAnswerOf method found.answer.now found.opening text k) (sym copied.kept)
          (subst (λ h. IsAnswerOf method found.answer.now found.opening h kept) (sym copied.head) is.is);
      payload_len =
          subst (λ k. HasPayloadLen method text k answer.payload_len) (sym copied.kept)
          (subst (λ h. HasPayloadLen method h kept answer.payload_len) (sym copied.head) is.payload_len);
      len = refl;
      first_len = refl;
      head_at = omega (arith, c.requires.found.places);
      body_at = omega (arith, ap length copied.head);
    }

pub returns-clause-parts : goal.returns-clause-parts
returns-clause-parts c = record {
  head = subst (λ (h : List ℕ). HoldsResponse h c.args.read.answer.parsed) (sym c.requires.copies.head) c.requires.messages.answer_is.parsed;
  target = subst (λ (u : List ℕ). IsAcceptedAs u c.args.read.found.opening.url) (sym c.requires.copies.uri) c.requires.found.target;
}
