-- A capture's group by what is kept of the captures before it, and how long it is.
use Rattle.std.proofs.Common.{◌≡◌, ℕ, ◌+◌, ◌^◌, ◌<◌, List, length, get_or, Option, Some, None, Result, Ok, Err, sym, ap, ◌∙◌, arith}
use Rattle.std.specs.Prelude.{IfOk, slice_get}
use Rattle.std.proofs.lemmas.Option.{slice_get-get_or}
use Rattle.sha1.specs.Sha1.{sha1}
use Rattle.capture.specs.Captures.{captures}
use Rattle.capture.specs.declared.book.Book.{Book}
use Rattle.capture.specs.declared.captured.Stored.{Stored}
use Rattle.capture.specs.declared.captured.Taken.{Taken}
use Rattle.warc_text.specs.Books.{same_of}
use Rattle.warc_text.specs.Lengths.{IsShort}
use Rattle.warc_text.specs.Records.{group_text}
use Rattle.warc_text.specs.References.{reference_of, reference_to}
use Rattle.warc_text.specs.declared.same_of.SameOf.{SameOf}
use Rattle.archive_shelf.proofs.ShortTexts.{response_short, revisit_short}
use Rattle.archive_volumes.specs.Grouping.{IsGroupFor, TellsSame}
use Rattle.archive_volumes.specs.Spots.{AreSpotsOf, IsSpotOf}
use Rattle.archive_volumes.specs.declared.spot.Spot.{Spot}

-- what is known of a value is known of what is answered
pub if_ok_so : {T E : Type 0} (P Q : T → Type 0) (result : Result T E) → IfOk result P → ((value : T) → P value → Q value) → IfOk result Q
if_ok_so P Q (Ok value) is so = so value is
if_ok_so P Q (Err e) is so = tt

-- what two things are known of
pub if_ok_both : {T E : Type 0} (P Q R : T → Type 0) (result : Result T E) → IfOk result P → IfOk result Q → ((value : T) → P value → Q value → R value)
    → IfOk result R
if_ok_both P Q R (Ok value) first second so = so value first second
if_ok_both P Q R (Err e) first second so = tt

-- what is read at an index stands there
pub got : (spots : List Spot) (k : ℕ) (spot : Spot) → k < length spots → spot ≡ get_or spots k spot → slice_get spots k ≡ Some spot
got spots k spot within is = slice_get-get_or spots k spot within ∙ ap Some (sym is)

-- ---- what is told of the capture that is referred to

told_by : (number first : ℕ) (spot : Spot) (stored : Stored) → spot.uri ≡ stored.uri → spot.date ≡ stored.date
    → record { number = first; uri = spot.uri; date = spot.date } ≡ same_of first stored
told_by number first spot stored uri date = λ i. record { number = first; uri = uri i; date = date i }

pub tells_by : (book : Book) (spots : List Spot) (first : ℕ) (spot : Spot) (same : SameOf) → AreSpotsOf book spots → slice_get spots first ≡ Some spot
    → same ≡ record { number = first; uri = spot.uri; date = spot.date } → TellsSame book (Some first) (Some same)
tells_by book spots first spot same are at is =
    let of : IsSpotOf book first spot = are.each first spot at in
    (of.stored, of.placed, ap Some (is ∙ told_by first first spot of.stored of.uri of.date))

pub group_for : (book : Book) (taken : Taken) (number : ℕ) (digest payload : List ℕ) (same : Option ℕ) (other : Option SameOf) (text : List ℕ)
    → TellsSame book same other → number ≡ length (captures book) → digest ≡ sha1 payload
    → text ≡ group_text book.namespace number taken digest (reference_of book.namespace other) → IsGroupFor book taken payload same text
group_for book taken number digest payload same other text tells counted digested is = record {
  other = other;
  tells = tells;
  composed = is
      ∙ ap (λ (n : ℕ). group_text book.namespace n taken digest (reference_of book.namespace other)) counted
      ∙ ap (λ (d : List ℕ). group_text book.namespace (length (captures book)) taken d (reference_of book.namespace other)) digested;
}

-- ---- how long a group is

pub short_of_none : (namespace : List ℕ) (number : ℕ) (taken : Taken) (digest payload text : List ℕ) → digest ≡ sha1 payload → IsShort taken
    → text ≡ group_text namespace number taken digest None → length text < 2 ^ 61 + 2 ^ 60
short_of_none namespace number taken digest payload text digested is composed =
    let same : text ≡ group_text namespace number taken (sha1 payload) None =
    composed ∙ ap (λ (d : List ℕ). group_text namespace number taken d None) digested in
    omega (arith, ap length same, response_short namespace number taken payload is)

pub short_of_some : (book : Book) (spots : List Spot) (first : ℕ) (spot : Spot) (same : SameOf) (namespace : List ℕ) (number : ℕ) (taken : Taken)
    (digest payload text : List ℕ) → AreSpotsOf book spots → slice_get spots first ≡ Some spot
    → same ≡ record { number = first; uri = spot.uri; date = spot.date } → digest ≡ sha1 payload → IsShort taken
    → text ≡ group_text namespace number taken digest (Some (reference_to namespace same)) → length text < 2 ^ 61 + 2 ^ 60
short_of_some book spots first spot same namespace number taken digest payload text are at is_same digested is composed =
    let whole : text ≡ group_text namespace number taken (sha1 payload) (Some (reference_to namespace same)) =
    composed ∙ ap (λ (d : List ℕ). group_text namespace number taken d (Some (reference_to namespace same))) digested in
    let uri : length same.uri ≡ length spot.uri = ap (λ (s : SameOf). length s.uri) is_same in
    omega (arith, ap length whole, revisit_short namespace number taken payload (reference_to namespace same) is (omega (arith, uri, (are.each first spot at).short)))
