use Rattle.std.proofs.Common.{ap, drop, ◌∙◌}
use Rattle.body_reader.proofs.ChunkTrailerSteps.{SectionEnd, many_lines_at, end_over_at, body_ends_at, no_section_at, told_section, told_none}
use Rattle.body_reader.proofs.chunks.trailer.judge_trailer.Goals as goal

pub returns-then-count_line_feeds : goal.returns-then-count_line_feeds
returns-then-count_line_feeds c =
    let end : SectionEnd c.args.text.now c.args.at c.args.start c.args.place c.split_at-2.result.1.now = record {
      byte = record { inside = c.requires.inside; stands = c.requires.stands };
      ends = c.requires.ends;
      short = c.requires.short;
      section_is = c.split_at-2.ensures.back ∙ ap (drop c.args.start) c.split_at.ensures.front;
    } in
    many_lines_at c.args.text.now c.args.at c.args.start c.args.place c.split_at-2.result.1.now end (rw c.count_line_feeds.ensures at c.if-count_line_feeds.true)

pub returns-then-at-eq-BODY_LIMIT : goal.returns-then-at-eq-BODY_LIMIT
returns-then-at-eq-BODY_LIMIT c =
    let end : SectionEnd c.args.text.now c.args.at c.args.start c.args.place c.split_at-2.result.1.now = record {
      byte = record { inside = c.requires.inside; stands = c.requires.stands };
      ends = c.requires.ends;
      short = c.requires.short;
      section_is = c.split_at-2.ensures.back ∙ ap (drop c.args.start) c.split_at.ensures.front;
    } in
    let few = rw c.count_line_feeds.ensures at c.if-count_line_feeds.false in
    end_over_at c.args.text.now c.args.at c.args.start c.args.place c.split_at-2.result.1.now end few c.if-at-eq-BODY_LIMIT.true

pub returns-in-true : goal.returns-in-true
returns-in-true c =
    let end : SectionEnd c.args.text.now c.args.at c.args.start c.args.place c.split_at-2.result.1.now = record {
      byte = record { inside = c.requires.inside; stands = c.requires.stands };
      ends = c.requires.ends;
      short = c.requires.short;
      section_is = c.split_at-2.ensures.back ∙ ap (drop c.args.start) c.split_at.ensures.front;
    } in
    let few = rw c.count_line_feeds.ensures at c.if-count_line_feeds.false in
    body_ends_at c.args.text.now c.args.at c.args.start c.args.place c.split_at-2.result.1.now end few c.if-at-eq-BODY_LIMIT.false
    (told_section c.split_at-2.result.1.now _ c.in_ok-is_section.ensures c.in-true.is)

pub returns-in-false : goal.returns-in-false
returns-in-false c =
    let end : SectionEnd c.args.text.now c.args.at c.args.start c.args.place c.split_at-2.result.1.now = record {
      byte = record { inside = c.requires.inside; stands = c.requires.stands };
      ends = c.requires.ends;
      short = c.requires.short;
      section_is = c.split_at-2.ensures.back ∙ ap (drop c.args.start) c.split_at.ensures.front;
    } in
    let few = rw c.count_line_feeds.ensures at c.if-count_line_feeds.false in
    no_section_at c.args.text.now c.args.at c.args.start c.args.place c.split_at-2.result.1.now end few c.if-at-eq-BODY_LIMIT.false
    (told_none c.split_at-2.result.1.now _ c.in_ok-is_section.ensures c.in-false.is)
