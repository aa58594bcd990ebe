use Rattle.cdxj_line.specs.Parts.{line_of}
use Rattle.cdx_query.proofs.ItemLengths.{json_item, plain_item}
use Rattle.cdx_query.proofs.length.item_len.Goals as goal

pub returns-then-not-json : goal.returns-then-not-json
returns-then-not-json c = plain_item c.args.json c.args.entry.now (line_of c.parts-parts.result) c.line_len-line.result c.if-not-json.true c.parts-parts.ensures.line c.line_len-line.ensures

pub returns : goal.returns
returns c =
    json_item c.args.json c.args.entry.now (line_of c.parts-parts.result) c.line_len-line.result c.saturating_add.result c.saturating_add-2.result c.marks_in.result c.key_of.result.now
    c.if-not-json.false c.parts-parts.ensures.line c.line_len-line.ensures c.marks_in.ensures.value c.key_of.ensures.value c.saturating_add.ensures c.saturating_add-2.ensures
    (c.texts_have_no_blanks.ensures.time c.parts-parts.result.date c.parts-parts.ensures.in_range) c.key_of.ensures.no_space
