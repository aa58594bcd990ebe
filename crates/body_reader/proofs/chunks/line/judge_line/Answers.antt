use Rattle.body_reader.proofs.LineSteps.{line_at, none_at, never_at, other_len_at, big_at, trailer_at, data_at}
use Rattle.body_reader.proofs.chunks.line.judge_line.Goals as goal

pub returns-then-len-line : goal.returns-then-len-line
returns-then-len-line c =
    let l = line_at c.args.text.now c.args.at c.args.start c.split_at.result.0.now c.split_at-2.result.1.now c.requires.inside
    c.requires.stands c.requires.ends c.requires.room c.requires.short c.split_at.ensures.front c.split_at-2.ensures.back in
    let found = rw c.in-Ok-Complete.field-0-is at c.in-Ok-Complete.ensures.complete in
    other_len_at c.args.text.now c.args.at c.args.start c.split_at-2.result.1.now l c.in-Ok-Complete.len c.in-Ok-Complete.size found.0
    found.1 c.if-len-line.true

pub returns-then-at-size : goal.returns-then-at-size
returns-then-at-size c =
    let l = line_at c.args.text.now c.args.at c.args.start c.split_at.result.0.now c.split_at-2.result.1.now c.requires.inside
    c.requires.stands c.requires.ends c.requires.room c.requires.short c.split_at.ensures.front c.split_at-2.ensures.back in
    let found = rw c.in-Ok-Complete.field-0-is at c.in-Ok-Complete.ensures.complete in
    big_at c.args.text.now c.args.at c.args.start c.split_at-2.result.1.now l c.in-Ok-Complete.len c.in-Ok-Complete.size found.0
    found.1 c.if-len-line.false c.if-at-size.true

pub returns-then-size-eq0 : goal.returns-then-size-eq0
returns-then-size-eq0 c =
    let l = line_at c.args.text.now c.args.at c.args.start c.split_at.result.0.now c.split_at-2.result.1.now c.requires.inside
    c.requires.stands c.requires.ends c.requires.room c.requires.short c.split_at.ensures.front c.split_at-2.ensures.back in
    let found = rw c.in-Ok-Complete.field-0-is at c.in-Ok-Complete.ensures.complete in
    trailer_at c.args.text.now c.args.at c.args.start c.split_at-2.result.1.now l c.in-Ok-Complete.len c.in-Ok-Complete.size found.0
    found.1 c.if-len-line.false c.if-size-eq0.true

pub returns-else-size-eq0 : goal.returns-else-size-eq0
returns-else-size-eq0 c =
    let l = line_at c.args.text.now c.args.at c.args.start c.split_at.result.0.now c.split_at-2.result.1.now c.requires.inside
    c.requires.stands c.requires.ends c.requires.room c.requires.short c.split_at.ensures.front c.split_at-2.ensures.back in
    let found = rw c.in-Ok-Complete.field-0-is at c.in-Ok-Complete.ensures.complete in
    data_at c.args.text.now c.args.at c.args.start c.split_at-2.result.1.now l c.in-Ok-Complete.len c.in-Ok-Complete.size found.0
    found.1 c.if-len-line.false c.if-size-eq0.false c.if-at-size.false

pub returns-in-Ok-Partial : goal.returns-in-Ok-Partial
returns-in-Ok-Partial c =
    let l = line_at c.args.text.now c.args.at c.args.start c.split_at.result.0.now c.split_at-2.result.1.now c.requires.inside
    c.requires.stands c.requires.ends c.requires.room c.requires.short c.split_at.ensures.front c.split_at-2.ensures.back in
    none_at c.args.text.now c.args.at c.args.start c.split_at-2.result.1.now l
    (rw c.in-Ok-Partial.field-0-is at c.in-Ok-Partial.ensures.partial)

pub returns-in-Err : goal.returns-in-Err
returns-in-Err c =
    let l = line_at c.args.text.now c.args.at c.args.start c.split_at.result.0.now c.split_at-2.result.1.now c.requires.inside
    c.requires.stands c.requires.ends c.requires.room c.requires.short c.split_at.ensures.front c.split_at-2.ensures.back in
    never_at c.args.text.now c.args.at c.args.start c.split_at-2.result.1.now l c.in-Err.ensures.invalid
