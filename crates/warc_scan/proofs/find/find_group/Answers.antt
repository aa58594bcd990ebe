use Rattle.std.proofs.Common.{◌-◌, [], length, take, refl, sym, subst}
use Rattle.std.proofs.lemmas.Result.{err_from_is_err_and}
use Rattle.warc_text.specs.Ids.{id_of}
use Rattle.warc_text.specs.Records.{request_opening}
use Rattle.warc_text.specs.declared.id.IdKind.TheVariants as ids
use Rattle.record_opening.specs.BlockParts.{AsksForBlock, HasBlock, RefusesBlock}
use Rattle.record_opening.specs.Openings.{opening_of, opening_text}
use Rattle.record_opening.specs.Stops.{Differs}
use Rattle.record_opening.proofs.FirstLaws.{none_told, opening_told_by}
use Rattle.warc_scan.proofs.FindLaws.{block_asks, first_front, found_in, no_block, no_opening, no_request, no_second_opening, opening_asks, parts_of, request_asks, second_front, second_opening_asks, second_told}
use Rattle.warc_scan.proofs.find.find_group.Goals as goal

pub returns-in-Err-clause-err : goal.returns-in-Err-clause-err
returns-in-Err-clause-err c = λ text group is.
    no_opening c.args.namespace.now c.args.number c.args.bytes.now c.in-Err.stop
    (none_told c.args.namespace.now c.args.number c.args.bytes.now c.id_of-id.result c.id_of-id.ensures c.in-Err.stop c.in-Err.ensures.err)
    text (parts_of c.args.namespace.now c.args.number text group is)

pub returns-in-Err-clause-asks : goal.returns-in-Err-clause-asks
returns-in-Err-clause-asks c =
    opening_asks c.args.namespace.now c.args.number c.args.bytes.now c.in-Err.stop
    (none_told c.args.namespace.now c.args.number c.args.bytes.now c.id_of-id.result c.id_of-id.ensures c.in-Err.stop c.in-Err.ensures.err)

pub returns-in_err-answer-clause-err : goal.returns-in_err-answer-clause-err
returns-in_err-answer-clause-err c =
    let exit = err_from_is_err_and c.from_residual.result c.from_residual.ensures.1 in
    let namespace = c.args.namespace.now in
    let number = c.args.number in
    let bytes = c.args.bytes.now in
    let id = c.id_of-id.result in
    let o = opening_of c.in-Ok.opening in
    let rest = c.in-Ok.opening.rest.now in
    let refused : RefusesBlock exit.0 (opening_text (id_of namespace ids.Response number) o) bytes =
    first_front namespace number bytes id [] c.id_of-id.ensures (λ f. RefusesBlock exit.0 f bytes) o rest c.in-Ok.ensures.ok
    (subst (λ s. RefusesBlock s (take (length bytes - length rest) bytes) bytes) (sym exit.2) c.in_err-answer.ensures.err) in
    rw exit.1 (λ text group is.
    no_block namespace number bytes rest exit.0 o c.in-Ok.ensures.right (opening_told_by namespace number bytes id c.id_of-id.ensures o rest c.in-Ok.ensures.ok)
    refused text (parts_of namespace number text group is))

pub returns-in_err-answer-clause-asks : goal.returns-in_err-answer-clause-asks
returns-in_err-answer-clause-asks c =
    let exit = err_from_is_err_and c.from_residual.result c.from_residual.ensures.1 in
    let namespace = c.args.namespace.now in
    let number = c.args.number in
    let bytes = c.args.bytes.now in
    let id = c.id_of-id.result in
    let o = opening_of c.in-Ok.opening in
    let rest = c.in-Ok.opening.rest.now in
    rw exit.1 (block_asks namespace number bytes exit.0 o c.in-Ok.ensures.right
    (first_front namespace number bytes id [] c.id_of-id.ensures (λ f. AsksForBlock f bytes exit.0) o rest c.in-Ok.ensures.ok
    (subst (λ s. AsksForBlock (take (length bytes - length rest) bytes) bytes s) (sym exit.2) c.in_err-answer.ensures.asks)))

pub returns-in_err-rest-clause-err : goal.returns-in_err-rest-clause-err
returns-in_err-rest-clause-err c =
    let exit = err_from_is_err_and c.from_residual-in_err-rest.result c.from_residual-in_err-rest.ensures.1 in
    let namespace = c.args.namespace.now in
    let number = c.args.number in
    let bytes = c.args.bytes.now in
    let id = c.id_of-id.result in
    let o = opening_of c.in-Ok.opening in
    let rest = c.in-Ok.opening.rest.now in
    let answer = c.in_ok-answer.answer in
    let request_id = c.id_of-request_id.result in
    let first : HasBlock (opening_text (id_of namespace ids.Response number) o) bytes answer =
    first_front namespace number bytes id [] c.id_of-id.ensures (λ f. HasBlock f bytes answer) o rest c.in-Ok.ensures.ok c.in_ok-answer.ensures.ok in
    rw exit.1 (λ text group is.
    no_second_opening namespace number bytes answer.rest.now exit.0 o answer.block.now c.in-Ok.ensures.right first.composed first.short
    (second_told namespace number bytes id request_id c.id_of-id.ensures c.id_of-request_id.ensures o (λ t. Differs exit.0 answer.rest.now t)
    (subst (λ s. Differs s answer.rest.now (request_opening request_id id o.date o.uri)) (sym exit.2) c.in_err-rest.ensures.err))
    text (parts_of namespace number text group is))

pub returns-in_err-rest-clause-asks : goal.returns-in_err-rest-clause-asks
returns-in_err-rest-clause-asks c =
    let exit = err_from_is_err_and c.from_residual-in_err-rest.result c.from_residual-in_err-rest.ensures.1 in
    let namespace = c.args.namespace.now in
    let number = c.args.number in
    let bytes = c.args.bytes.now in
    let id = c.id_of-id.result in
    let o = opening_of c.in-Ok.opening in
    let rest = c.in-Ok.opening.rest.now in
    let answer = c.in_ok-answer.answer in
    let request_id = c.id_of-request_id.result in
    let first : HasBlock (opening_text (id_of namespace ids.Response number) o) bytes answer =
    first_front namespace number bytes id [] c.id_of-id.ensures (λ f. HasBlock f bytes answer) o rest c.in-Ok.ensures.ok c.in_ok-answer.ensures.ok in
    rw exit.1 (second_opening_asks namespace number bytes answer.rest.now exit.0 o answer.block.now c.in-Ok.ensures.right first.composed
    (second_told namespace number bytes id request_id c.id_of-id.ensures c.id_of-request_id.ensures o (λ t. Differs exit.0 answer.rest.now t)
    (subst (λ s. Differs s answer.rest.now (request_opening request_id id o.date o.uri)) (sym exit.2) c.in_err-rest.ensures.err)))

pub returns-in_err-request-clause-err : goal.returns-in_err-request-clause-err
returns-in_err-request-clause-err c =
    let exit = err_from_is_err_and c.from_residual-in_err-request.result c.from_residual-in_err-request.ensures.1 in
    let namespace = c.args.namespace.now in
    let number = c.args.number in
    let bytes = c.args.bytes.now in
    let id = c.id_of-id.result in
    let o = opening_of c.in-Ok.opening in
    let rest = c.in-Ok.opening.rest.now in
    let answer = c.in_ok-answer.answer in
    let request_id = c.id_of-request_id.result in
    let first : HasBlock (opening_text (id_of namespace ids.Response number) o) bytes answer =
    first_front namespace number bytes id [] c.id_of-id.ensures (λ f. HasBlock f bytes answer) o rest c.in-Ok.ensures.ok c.in_ok-answer.ensures.ok in
    let behind = c.in_ok-rest.rest.now in
    rw exit.1 (λ text group is.
    no_request namespace number bytes answer.rest.now exit.0 o answer.block.now c.in-Ok.ensures.right first.composed first.short
    (second_front namespace number bytes id request_id c.id_of-id.ensures c.id_of-request_id.ensures o (λ f. RefusesBlock exit.0 f bytes)
    answer.block.now answer.rest.now behind first.composed c.in_ok-rest.ensures.ok
    (subst (λ s. RefusesBlock s (take (length bytes - length behind) bytes) bytes) (sym exit.2) c.in_err-request.ensures.err))
    text (parts_of namespace number text group is))

pub returns-in_err-request-clause-asks : goal.returns-in_err-request-clause-asks
returns-in_err-request-clause-asks c =
    let exit = err_from_is_err_and c.from_residual-in_err-request.result c.from_residual-in_err-request.ensures.1 in
    let namespace = c.args.namespace.now in
    let number = c.args.number in
    let bytes = c.args.bytes.now in
    let id = c.id_of-id.result in
    let o = opening_of c.in-Ok.opening in
    let rest = c.in-Ok.opening.rest.now in
    let answer = c.in_ok-answer.answer in
    let request_id = c.id_of-request_id.result in
    let first : HasBlock (opening_text (id_of namespace ids.Response number) o) bytes answer =
    first_front namespace number bytes id [] c.id_of-id.ensures (λ f. HasBlock f bytes answer) o rest c.in-Ok.ensures.ok c.in_ok-answer.ensures.ok in
    let behind = c.in_ok-rest.rest.now in
    rw exit.1 (request_asks namespace number bytes exit.0 o answer.block.now c.in-Ok.ensures.right
    (second_front namespace number bytes id request_id c.id_of-id.ensures c.id_of-request_id.ensures o (λ f. AsksForBlock f bytes exit.0)
    answer.block.now answer.rest.now behind first.composed c.in_ok-rest.ensures.ok
    (subst (λ s. AsksForBlock (take (length bytes - length behind) bytes) bytes s) (sym exit.2) c.in_err-request.ensures.asks)))

pub returns-clause-ok : goal.returns-clause-ok
returns-clause-ok c =
    let namespace = c.args.namespace.now in
    let number = c.args.number in
    let bytes = c.args.bytes.now in
    let id = c.id_of-id.result in
    let o = opening_of c.in-Ok.opening in
    let rest = c.in-Ok.opening.rest.now in
    let answer = c.in_ok-answer.answer in
    let request_id = c.id_of-request_id.result in
    let first : HasBlock (opening_text (id_of namespace ids.Response number) o) bytes answer =
    first_front namespace number bytes id [] c.id_of-id.ensures (λ f. HasBlock f bytes answer) o rest c.in-Ok.ensures.ok c.in_ok-answer.ensures.ok in
    let behind = c.in_ok-rest.rest.now in
    let request = c.in_ok-request.request in
    let second = second_front namespace number bytes id request_id c.id_of-id.ensures c.id_of-request_id.ensures o (λ f. HasBlock f bytes request)
    answer.block.now answer.rest.now behind first.composed c.in_ok-rest.ensures.ok c.in_ok-request.ensures.ok in
    found_in namespace number bytes _ answer.rest.now request.rest.now c.in-Ok.ensures.right c.in-Ok.ensures.url first.composed second.composed second.short refl refl
