use Rattle.std.proofs.lemmas.Result.{on_ok_weaker}
use Rattle.warc_text.proofs.InfoText.{composed}
use Rattle.warc_text.proofs.info.put_info.Goals as goal

pub returns : goal.returns
returns c =
    on_ok_weaker c.put_record_end.result
    (λ e. composed c.args.namespace.now c.args.volume c.args.born c.info_block_len.result c.args.out.now.items _ _ _ _ _
    (rw c.id_of-id.ensures at c.in_ok-put_opening.ensures) c.in_ok-put_content_line.ensures c.info_block_len.ensures.value
    c.in_ok-put_length_lines.ensures c.in_ok-put_info_block.ensures e)
    c.put_record_end.ensures
