use Rattle.std.proofs.Common.{sym, ◌∙◌}
use Rattle.warc_reader.proofs.TableLaws.{kept_place, noted_key}
use Rattle.warc_reader.proofs.requests.note.Goals as goal

pub returns-then-contains_key : goal.returns-then-contains_key
returns-then-contains_key c = λ other.
    kept_place c.args.places.now c.args.id.now other c.args.at (sym c.contains_key.ensures ∙ c.if-contains_key.true)

pub returns : goal.returns
returns c = λ other.
    noted_key c.args.places.now c.insert.new.self c.args.id.now c.in_ok-key.key.items other c.args.at c.in_ok-key.ensures.items
    (sym c.contains_key.ensures ∙ c.if-contains_key.false) c.in_ok-insert.ensures.updates
