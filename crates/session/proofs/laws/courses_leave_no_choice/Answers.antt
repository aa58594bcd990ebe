-- The law, by those of lower crates.
use Rattle.session.proofs.OneCourseLaws.{Choosing, end_one_way, no_choice, round_no_choice}
use Rattle.session.proofs.laws.courses_leave_no_choice.Goals as goal

pub returns : goal.returns
returns c =
    let laws : Choosing = record {
      cutting = record {
        heads = c.fronts_stay.ensures.heads;
        too_long = c.fronts_stay.ensures.too_long;
        messages = c.decisions_stay.ensures.messages;
        refusals = c.decisions_stay.ensures.refusals;
        firsts = c.decisions_are_one.ensures.firsts;
        payloads = c.wires_have_one_payload.ensures.one;
      };
      answering = record {
        arrivals = c.decisions_are_one.ensures.arrivals;
        payloads = c.wires_have_one_payload.ensures.one;
        ways = c.captures_are_stored_one_way.ensures.one;
        entries = c.books_have_one_index.ensures.entries;
      };
      finding = record {
        payloads = c.captures_have_one_payload.ensures;
        groups = c.numbers_have_one_group.ensures;
        queries = c.texts_are_one_query.ensures;
        answers = c.queries_have_one_answer.ensures;
        splits = c.a_page_has_one_split.ensures;
      };
    } in
    record { one = no_choice laws; ends = end_one_way; rounds = round_no_choice laws }
