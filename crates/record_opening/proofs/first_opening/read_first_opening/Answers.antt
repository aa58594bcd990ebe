use Rattle.warc_text.specs.Lines.{length_lines}
use Rattle.record_opening.specs.FirstOpenings.{IsFirst, first_lines}
use Rattle.record_opening.specs.Openings.{opening_of}
use Rattle.record_opening.specs.Stops.{NoneStands}
use Rattle.record_opening.proofs.Exits.{at_exit}
use Rattle.record_opening.proofs.FirstLaws.{behind_both, length_before, none_told, opening_told_by, no_length, no_opening}
use Rattle.record_opening.proofs.first_opening.read_first_opening.Goals as goal

pub returns-in-Err-clause-err : goal.returns-in-Err-clause-err
returns-in-Err-clause-err c =
    no_opening c.args.namespace.now c.args.number c.args.bytes.now c.in-Err.stop
    (none_told c.args.namespace.now c.args.number c.args.bytes.now c.id_of-id.result c.id_of-id.ensures c.in-Err.stop c.in-Err.ensures.err)

pub returns-in_err-block_len-clause-err : goal.returns-in_err-block_len-clause-err
returns-in_err-block_len-clause-err c =
    at_exit (λ s. NoneStands IsFirst (first_lines c.args.namespace.now c.args.number) s c.args.bytes.now) _ c.from_residual.result c.from_residual.ensures.1
    (no_length c.args.namespace.now c.args.number c.args.bytes.now _ (opening_of c.in-Ok.opening) c.in-Ok.opening.rest.now c.in-Ok.ensures.right
    (opening_told_by c.args.namespace.now c.args.number c.args.bytes.now c.id_of-id.result c.id_of-id.ensures (opening_of c.in-Ok.opening) c.in-Ok.opening.rest.now c.in-Ok.ensures.ok)
    c.in_err-block_len.ensures.err)

pub returns-clause-ok : goal.returns-clause-ok
returns-clause-ok c =
    let o = opening_of c.in-Ok.opening in
    let front = opening_told_by c.args.namespace.now c.args.number c.args.bytes.now c.id_of-id.result c.id_of-id.ensures o c.in-Ok.opening.rest.now c.in-Ok.ensures.ok in
    let composed = behind_both c.args.bytes.now _ c.in-Ok.opening.rest.now (length_lines c.in_ok-block_len.block_len) c.in_ok-block_len.block.now front c.in_ok-block_len.ensures.ok.1 in
    record {
      stands = ((c.in-Ok.ensures.right, c.in_ok-block_len.ensures.ok.0), (c.in_ok-block_len.block.now, composed));
      block_at = length_before c.args.bytes.now _ c.in_ok-block_len.block.now composed;
      target = c.in-Ok.ensures.url;
    }
