use Rattle.message_body.proofs.MemberLaws.{IsCutList, last_member_at, first_member_at}
use Rattle.message_body.proofs.members.split_member.Goals as goal

pub returns-in-empty-clause-last : goal.returns-in-empty-clause-last
returns-in-empty-clause-last c =
    let cut : IsCutList c.args.list.now c.split_at.result.0.now c.split_at.result.1.now c.member_len.result =
    record { place = c.member_len.ensures.value; front = c.split_at.ensures.front; back = c.split_at.ensures.back } in
    last_member_at c.args.list.now c.split_at.result.0.now c.split_at.result.1.now c.trim_ows-trimmed.result.now c.member_len.result cut
    c.trim_ows-trimmed.ensures c.in-empty.len_below

pub returns-in-len1-up-clause-more : goal.returns-in-len1-up-clause-more
returns-in-len1-up-clause-more c =
    let cut : IsCutList c.args.list.now c.split_at.result.0.now c.split_at.result.1.now c.member_len.result =
    record { place = c.member_len.ensures.value; front = c.split_at.ensures.front; back = c.split_at.ensures.back } in
    first_member_at c.args.list.now c.split_at.result.0.now c.split_at.result.1.now c.trim_ows-trimmed.result.now c.member_len.result cut
    c.trim_ows-trimmed.ensures c.in-len1-up.len_at_least
