use Rattle.http_head.proofs.SectionLaws.{spans_section, no_section_of_other_len, no_section_without_room}
use Rattle.http_head.proofs.section.find_section.Goals as goal

pub returns-then-len-text-clause-spans : goal.returns-then-len-text-clause-spans
returns-then-len-text-clause-spans c =
    spans_section c.args.text.now c.parse_headers.new.headers c.in-Ok-Complete.len c.in-Ok-Complete.count
    (rw c.in-Ok-Complete.field-0-is at c.in-Ok-Complete.ensures.complete) c.if-len-text.true

pub returns-else-len-text-clause-none : goal.returns-else-len-text-clause-none
returns-else-len-text-clause-none c =
    no_section_of_other_len c.args.text.now _ c.parse_headers.new.headers c.in-Ok-Complete.len c.in-Ok-Complete.count
    (rw c.in-Ok-Complete.field-0-is at c.in-Ok-Complete.ensures.found) c.requires c.if-len-text.false

pub returns-in-Err-clause-none : goal.returns-in-Err-clause-none
returns-in-Err-clause-none c =
    no_section_without_room c.args.text.now _ c.in-Err.ensures.no_room c.requires
