-- A query has one answer from the entries that are shown.
use Rattle.std.proofs.Common.{◌≡◌, List, sym, ap, ◌∙◌}
use Rattle.index_entry.specs.Facts.{Facts}
use Rattle.index_entry.specs.Order.{order}
use Rattle.index_entry.proofs.Members.{Among, among_from_contains, contains_from_among, same_from_members}
use Rattle.index_entry.proofs.Orders.{order_total}
use Rattle.cdx_query.specs.Answers.{AreMet, answer_text}
use Rattle.cdx_query.specs.Laws.{QueriesHaveOneAnswer}
use Rattle.cdx_query.specs.declared.query.Query.{Query}

-- what one list of entries holds, another holds too
met_too : (query : Query) (shown met other : List Facts) → AreMet query shown met → AreMet query shown other → (e : Facts) → Among met e → Among other e
met_too query shown met other a b e there =
    let in_list = contains_from_among met e there in
    among_from_contains other e (b.all e (a.from e in_list) (a.each e in_list))

pub one_list : (query : Query) (shown met other : List Facts) → AreMet query shown met → AreMet query shown other → met ≡ other
one_list query shown met other a b =
    same_from_members order order_total met other a.in_order b.in_order (met_too query shown met other a b) (met_too query shown other met b a)

pub queries_have_one_answer : QueriesHaveOneAnswer
queries_have_one_answer query shown a b from_a from_b =
    from_a.2 ∙ ap (answer_text query) (one_list query shown from_a.0 from_b.0 from_a.1 from_b.1) ∙ sym from_b.2
