-- Each piece is of ASCII.
use Rattle.std.proofs.Common.{◌^◌, ◌<◌, sym, subst, arith}
use Rattle.std.proofs.lemmas.Result.{on_ok_weaker}
use Rattle.std.specs.Str.{IsAscii}
use Rattle.replay_url.specs.declared.form.Form.{Form}
use Rattle.replay_url.specs.Forms.{CanBePut, address_text}
use Rattle.replay_url.proofs.AsciiLemmas.{memento_is_ascii, gate_is_ascii, map_is_ascii, number_is_ascii, piece_is_ascii, query_is_ascii}
use Rattle.replay_url.proofs.put.put_address.Goals as goal

pub returns-in-Memento-clause-ascii : goal.returns-in-Memento-clause-ascii
returns-in-Memento-clause-ascii c =
    let ascii = subst (λ (x : Form). IsAscii (address_text c.args.site.now.base x)) (sym c.in-Memento.is) (memento_is_ascii _ _ _ c.in-Memento.raw c.as_slice-base.ensures.ascii c.put_at_time.ensures.digits c.as_slice.ensures.ascii) in
    on_ok_weaker c.put_at_time.result (λ _. ascii) c.put_at_time.ensures.text

pub returns-in-Gate-clause-ascii : goal.returns-in-Gate-clause-ascii
returns-in-Gate-clause-ascii c =
    let ascii = subst (λ (x : Form). IsAscii (address_text c.args.site.now.base x)) (sym c.in-Gate.is) (gate_is_ascii _ _ c.as_slice-base.ensures.ascii c.as_slice-in-Gate.ensures.ascii) in
    on_ok_weaker c.put_gate.result (λ _. ascii) c.put_gate.ensures

pub returns-in-Map-clause-ascii : goal.returns-in-Map-clause-ascii
returns-in-Map-clause-ascii c =
    let ascii = subst (λ (x : Form). IsAscii (address_text c.args.site.now.base x)) (sym c.in-Map.is) (map_is_ascii _ _ c.as_slice-base.ensures.ascii c.as_slice-in-Map.ensures.ascii) in
    on_ok_weaker c.put_map.result (λ _. ascii) c.put_map.ensures

pub returns-in-Number-clause-ascii : goal.returns-in-Number-clause-ascii
returns-in-Number-clause-ascii c =
    let fits : c.in-Number.number < 2 ^ 64 = omega arith in
    let ascii = subst (λ (x : Form). IsAscii (address_text c.args.site.now.base x)) (sym c.in-Number.is) (number_is_ascii _ c.in-Number.number fits c.as_slice-base.ensures.ascii) in
    on_ok_weaker c.put_of_number.result (λ _. ascii) c.put_of_number.ensures

pub returns-in-Query-clause-ascii : goal.returns-in-Query-clause-ascii
returns-in-Query-clause-ascii c =
    let told : IsAscii c.in-Query.text = subst CanBePut c.in-Query.is c.requires in
    let ascii = subst (λ (x : Form). IsAscii (address_text c.args.site.now.base x)) (sym c.in-Query.is) (query_is_ascii _ c.in-Query.text c.as_slice-base.ensures.ascii told) in
    on_ok_weaker c.put_query.result (λ _. ascii) c.put_query.ensures

pub returns-in-Ship-clause-ascii : goal.returns-in-Ship-clause-ascii
returns-in-Ship-clause-ascii c =
    let fits : c.in-Ship.number < 2 ^ 64 = omega arith in
    let ascii = subst (λ (x : Form). IsAscii (address_text c.args.site.now.base x)) (sym c.in-Ship.is) (piece_is_ascii _ c.in-Ship.number fits c.as_slice-base.ensures.ascii) in
    on_ok_weaker c.put_piece.result (λ _. ascii) c.put_piece.ensures
