-- What is found among the entries that are shown.
use Rattle.std.specs.Prelude.{◌≡◌, ℕ, Bool, true, List, Option, Some, None, bytes_eq}
use Rattle.archive_shelf.specs.Contents.{Contents}
use Rattle.archive_shelf.specs.Queries.{ArePicked, IsFound}
use Rattle.archive_shelf.specs.Told.{KnowsBook}
use Rattle.cdx_query.specs.Answers.{IsAnswer}
use Rattle.cdx_query.specs.declared.query.Query.{Query}
use Rattle.index_entry.specs.Facts.{Facts}
use Rattle.replay_url.specs.Questions.{Nearest, names_date}
use Rattle.surt_key.specs.Key.{key_of}
use Rattle.time_text.specs.Blanks.{trim_blanks}
use Rattle.time_text.specs.Reading.{IsHttpDate}
use Rattle.request_answer.specs.SiteAnswers.{SiteRequest, Reaches}

-- the field names no time
abbrev pub NamesNoTime : Option (List ℕ) → Type 0
NamesNoTime (Some value) = (time : ℕ) → ¬ (IsHttpDate (trim_blanks value) time)
NamesNoTime None = ⊥

-- the address names the date of the capture that is nearest
pub record ReachesJust (q : SiteRequest) (shown : List Facts) (sought : Nearest) (number : ℕ) : Type 0 where
  pub entry : Facts
  pub reaches : Reaches q shown sought entry
  pub named : names_date sought.named entry.date ≡ true
  pub number_is : number ≡ entry.number

-- the entry of a URL's key that is nearest to a time, or that the key has none
pub record FindsNearest (alone : Bool) (now : Contents) (url : List ℕ) (time : ℕ) (found : Option Facts) : Type 0 where
  pub key : List ℕ
  pub keyed : key_of url ≡ Some key
  pub nearest : IsFound now.shown key time found
  pub knows : KnowsBook alone now

-- all entries of a URL's key
pub record FindsAll (alone : Bool) (now : Contents) (url : List ℕ) (found : List Facts) : Type 0 where
  pub key : List ℕ
  pub keyed : key_of url ≡ Some key
  pub picked : ArePicked (λ e. bytes_eq key e.key) now.shown found
  pub knows : KnowsBook alone now

-- the answer to a query, from all entries
pub record FindsAnswer (alone : Bool) (now : Contents) (query : Query) (found : List ℕ) : Type 0 where
  pub answers : IsAnswer query now.shown found
  pub knows : KnowsBook alone now

-- the capture of this number is the one that the request names by its date
pub record FindsJust (alone : Bool) (now : Contents) (q : SiteRequest) (sought : Nearest) (number : ℕ) : Type 0 where
  pub reaches : ReachesJust q now.shown sought number
  pub knows : KnowsBook alone now
