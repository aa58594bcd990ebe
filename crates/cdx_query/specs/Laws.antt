-- What queries promise to those who answer them.
use Rattle.std.specs.Prelude.{◌≡◌, ℕ, List}
use Rattle.index_entry.specs.Facts.{Facts}
use Rattle.cdx_query.specs.Answers.{IsAnswer}
use Rattle.cdx_query.specs.Reading.{IsQuery}
use Rattle.cdx_query.specs.declared.query.Query.{Query}

-- a text is one query at most
abbrev pub TextsAreOneQuery : Type 0
TextsAreOneQuery = (text : List ℕ) (a b : Query) → IsQuery text a → IsQuery text b → a ≡ b

-- a query has one answer from the entries that are shown
abbrev pub QueriesHaveOneAnswer : Type 0
QueriesHaveOneAnswer = (query : Query) (shown : List Facts) (a b : List ℕ) → IsAnswer query shown a → IsAnswer query shown b → a ≡ b
