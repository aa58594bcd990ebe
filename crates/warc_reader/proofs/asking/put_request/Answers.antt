use Rattle.warc_reader.specs.Requests.{made_end, made_front}
use Rattle.warc_reader.proofs.AskLaws.{on_ok_by, put_made}
use Rattle.warc_reader.proofs.asking.put_request.Goals as goal

pub returns : goal.returns
unfolding made_front made_end
returns c =
    on_ok_by _ _
    (put_made c.args.out.now.items c.args.uri.now c.put_all.new.out.items c.put_all-2.new.out.items c.put_all-3.new.out.items made_front made_end
    c.in_ok-put_all.ensures c.in_ok-put_all-2.ensures)
    c.put_all-3.result c.put_all-3.ensures
