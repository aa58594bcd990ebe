use Rattle.std.proofs.Common.{◌+◌, ◌-◌, length, refl, sym, ap, arith}
use Rattle.warc_scan.specs.steps.Responses.{kept_by}
use Rattle.warc_scan.specs.steps.Founds.{IsGroupIn}
use Rattle.warc_scan.specs.declared.group.Group.{Group}
use Rattle.warc_scan.proofs.TargetAscii.{revisited_target}
use Rattle.warc_scan.proofs.scan_outline.outline_of.Goals as goal

pub copy_revisited-requires : goal.copy_revisited-requires
copy_revisited-requires c = revisited_target c.args.found.now.opening.same c.requires.found.opening.refers

pub returns : goal.returns
returns c =
    let found = c.args.found.now in
    let answer = c.args.answer in
    let is = c.requires.messages.answer_is in
    let head_at = c.args.found.now.first_len - 4 - length found.answer.now in
    let group : Group = record {
      number = c.args.number;
      stored = record {
        method = c.args.method;
        uri = c.in_ok-uri.uri;
        date = found.opening.date;
        request = found.request.now;
        head = answer.head.now;
        kept = kept_by answer.form answer.wire.now;
      };
      digest = found.opening.digest;
      payload_len = answer.payload_len;
      same = c.in_ok-same.same;
      head_at = head_at;
      body_at = head_at + length answer.head.now;
      first_len = found.first_len;
      len = found.len;
    } in
    let made : IsGroupIn c.args.number found group = record {
      number_is = refl;
      date = refl;
      target = c.in_ok-uri.ensures;
      digest = refl;
      same = c.in_ok-same.ensures;
      request_is = refl;
      request = c.requires.messages.request;
      answer = is.is;
      payload_len = is.payload_len;
      len = refl;
      first_len = refl;
      head_at = omega (arith, c.requires.found.places);
      body_at = refl;
    } in (
      group,
      made,
      record {
        number_is = refl;
        method_is = refl;
        uri_is = refl;
        date_is = refl;
        head_is = is.parsed;
        cut_is = sym is.is.cut_is;
        digest_is = refl;
        payload_len_is = refl;
        same_is = refl;
        request_len = refl;
        wire_len = sym (ap length is.all);
        head_at_is = refl;
        body_at_is = refl;
        first_len_is = refl;
        len_is = refl;
      },
    )
