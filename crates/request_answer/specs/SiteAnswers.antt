-- A request to the archive's own site, and how it is answered (RFC 7089, sections 2 to 5). Refusals come in this order: for the
-- method, for the address, for the date or the query that is asked for, for want of a capture, for the disk.
use Rattle.std.specs.Prelude.{◌≡◌, ◌≢◌, ◌⊎◌, ℕ, ◌<◌, ◌≤◌, Bool, true, false, ◌||◌, List, [], ◌++◌, length, map, codes, bytes_eq, Contains, Option, Some, None, IsTrue, MatchOption, slice_get}
use Rattle.archive_shelf.specs.Answers.{BringsAsShown, IsBrought, IsDamaged, IsNamed, IsReplayable}
use Rattle.archive_shelf.specs.Pieces.{IsPiece, IsSomePiece}
use Rattle.archive_shelf.specs.Queries.{ArePicked}
use Rattle.capture.specs.Captures.{captures}
use Rattle.capture.specs.Fields.{NamedValue, values_of}
use Rattle.capture.specs.Methods.{asks_for_head}
use Rattle.capture.specs.declared.captured.Brought.{Brought}
use Rattle.capture.specs.declared.refusal.Refusal.{Refusal}
use Rattle.capture.specs.declared.refusal.Refusal.TheVariants.{MethodRefused, NotAForm, BadTime, BadAcceptDatetime, BadQuery, NoSuch, NoCapture, DiskFault, Damaged}
use Rattle.capture.specs.declared.captured.Stored.{Stored}
use Rattle.capture.specs.declared.captured.Kept.TheVariants.{Same}
use Rattle.cdx_query.specs.Answers.{IsAnswer}
use Rattle.cdx_query.specs.Reading.{IsQuery}
use Rattle.cdx_query.specs.declared.query.Query.{Query}
use Rattle.index_entry.specs.Facts.{Facts}
use Rattle.index_entry.specs.OfBook.{IsEntryOf}
use Rattle.index_entry.specs.Queries.{HasNone, IsNearest}
use Rattle.head_lines.specs.Lines.{own_status_line, type_line, head_end, body_unless}
use Rattle.head_lines.specs.declared.status.Status.TheVariants as status
use Rattle.http_head.specs.Heads.{named_value}
use Rattle.http_head.specs.declared.head.RequestMessage.{RequestMessage}
use Rattle.replay_url.specs.Forms.{IsForm, IsFault}
use Rattle.replay_url.specs.Questions.{NamedTime, Nearest, Question, ForNearest, ForNumber, asked_url, names_date, question_of}
use Rattle.replay_url.specs.declared.fault.FormFault.TheVariants as form_fault
use Rattle.replay_url.specs.declared.form.Form.{Form}
use Rattle.replay_url.specs.declared.form.Form.TheVariants.{Gate, Map, Number, Ship, Query as Queried}
use Rattle.surt_key.specs.Key.{key_of}
use Rattle.time_text.specs.Blanks.{trim_blanks}
use Rattle.time_text.specs.Reading.{IsHttpDate}
use Rattle.time_text.specs.declared.TheConstants.{LATEST}
use Rattle.request_answer.specs.Traces.{Terms, View}

-- a request, and what stands behind the site's authority in its target
pub record SiteRequest : Type 0 where
  pub message : RequestMessage
  pub address : List ℕ

-- How it is answered: by a refusal; by a redirect to the capture of an entry; by a capture; by the list of a URL's captures; by the
-- text of the entries that meet a query; by the piece of a capture, or with nothing, where the next piece is still to come.
pub data SiteReply : Type 0 where
  Refuses : (refusal : Refusal) → SiteReply
  Redirects : (sought : Nearest) (entry : Facts) → SiteReply
  Replays : (question : Question) (brought : Brought) → SiteReply
  Lists : (url : List ℕ) (entries : List Facts) → SiteReply
  Finds : (query : Query) (found : List ℕ) → SiteReply
  Ships : (number : ℕ) (piece : List ℕ) → SiteReply
  HasNoMore : (number : ℕ) → SiteReply

-- the site answers GET and HEAD
abbrev pub serves_method : List ℕ → Bool
serves_method method = bytes_eq method (codes "GET") || asks_for_head method

-- ---- what is asked for

-- The time that a capture is to be nearest to: the one that the address names, or the one that a gate is asked for, by its first field
-- Accept-Datetime (RFC 7089, section 2.1.1), or the latest, where there is none.
abbrev pub IsSoughtTime : Option NamedTime → List NamedValue → ℕ → Type 0
IsSoughtTime (Some named) fields time = time ≡ named.time
IsSoughtTime None fields time =
    MatchOption (slice_get (values_of (codes "accept-datetime") fields) 0) (time ≡ LATEST) (λ value. IsHttpDate (trim_blanks value) time)

-- The request asks for this form. There is a time that a gate is asked for, and of no other form is that field looked at.
pub record Asks (q : SiteRequest) (form : Form) : Type 0 where
  pub served : serves_method q.message.head.method ≡ true
  pub is : IsForm q.address form
  pub dated : (url : List ℕ) → form ≡ Gate url → (time : ℕ) × IsSoughtTime None (map named_value q.message.head.fields) time

-- the capture nearest to the time that is asked for, by what is shown
pub record Reaches (q : SiteRequest) (shown : List Facts) (sought : Nearest) (entry : Facts) : Type 0 where
  pub form : Form
  pub asks : Asks q form
  pub asked : question_of form ≡ ForNearest sought
  pub key : List ℕ
  pub keyed : key_of sought.url ≡ Some key
  pub time : ℕ
  pub timed : IsSoughtTime sought.named (map named_value q.message.head.fields) time
  pub nearest : IsNearest shown key time entry

-- The capture that is to be brought, which the book has: its number is asked for, or it is that of the nearest one, whose date the
-- address names.
abbrev pub Wants : SiteRequest → View → Question → ℕ → Type 0
Wants q view (ForNumber asked) number = Asks q (Number asked) × (number ≡ asked) × (number < length (captures view.book))
Wants q view (ForNearest sought) number =
    (entry : Facts) × Reaches q view.shown sought entry × (names_date sought.named entry.date ≡ true) × (number ≡ entry.number)
    × (number < length (captures view.book))
Wants q view other number = ⊥

-- ---- the replies

-- The reply follows from what is seen of the archive. A refusal tells a number as that of no capture of the book, nor of one that is shown; or as that of no
-- piece, nor of the next one, which is still to come; and a damaged capture is the one that keeps the payload, or the one whose piece is asked for. A redirect
-- leads to the capture that is nearest, unless the address names its date. The capture that is wanted is replayed: whatever is told, it is what each entry tells
-- that is shown under its number, its target, its date and the digest of its payload; where the disk is told, each such entry is that of the book's capture, and
-- so is the one that was found by date. All captures of the URL that are shown are listed, of which there are some. Whatever is told, the group of a piece tells
-- the digest of each entry that is shown under its number. The next piece is still to come.
abbrev pub IsSiteReply : Terms → SiteRequest → SiteReply → View → Type 0
IsSiteReply terms q (Refuses MethodRefused) view = serves_method q.message.head.method ≡ false
IsSiteReply terms q (Refuses NotAForm) view = (serves_method q.message.head.method ≡ true) × IsFault q.address form_fault.NotAForm
IsSiteReply terms q (Refuses BadTime) view = (serves_method q.message.head.method ≡ true) × IsFault q.address form_fault.BadTime
IsSiteReply terms q (Refuses BadAcceptDatetime) view =
    (serves_method q.message.head.method ≡ true) × ((url : List ℕ) × IsForm q.address (Gate url))
    × ((time : ℕ) → ¬ (IsSoughtTime None (map named_value q.message.head.fields) time))
IsSiteReply terms q (Refuses BadQuery) view = (text : List ℕ) × Asks q (Queried text) × ((query : Query) → ¬ (IsQuery text query))
IsSiteReply terms q (Refuses (NoSuch number count)) view =
    ((Asks q (Number number) × (length (captures view.book) ≤ number)) ⊎ (Asks q (Ship number) × (length (captures view.book) < number)))
    × ((entry : Facts) → Contains view.shown entry → entry.number ≢ number) × (count ≡ length (captures view.book))
IsSiteReply terms q (Refuses NoCapture) view =
    (form : Form) × Asks q form × (url : List ℕ) × (asked_url (question_of form) ≡ Some url) × (key : List ℕ) × (key_of url ≡ Some key)
    × HasNone view.shown key
IsSiteReply terms q (Refuses DiskFault) view =
    ((question : Question) × (number : ℕ) × Wants q view question number)
    ⊎ ((number : ℕ) × Asks q (Ship number) × (number < length (captures view.book)))
IsSiteReply terms q (Refuses (Damaged at kept found)) view =
    (((question : Question) × (number : ℕ) × Wants q view question number
    × ((at ≡ number) ⊎ ((stored : Stored) × (slice_get (captures view.book) number ≡ Some stored) × (stored.kept ≡ Same at))))
    ⊎ (Asks q (Ship at) × (at < length (captures view.book))))
    × IsDamaged terms.tells kept found
IsSiteReply terms q (Refuses other) view = ⊥
IsSiteReply terms q (Redirects sought entry) view = Reaches q view.shown sought entry × (names_date sought.named entry.date ≡ false)
IsSiteReply terms q (Replays question brought) view =
    (number : ℕ) × Wants q view question number × IsReplayable brought × IsNamed view.book number brought
    × BringsAsShown view.shown number brought × (IsTrue terms.tells → IsBrought view.book number brought)
    × (IsTrue terms.tells → (entry : Facts) → Contains view.shown entry → entry.number ≡ number → IsEntryOf view.book number entry)
IsSiteReply terms q (Lists url entries) view =
    (key : List ℕ) × Asks q (Map url) × (key_of url ≡ Some key) × ArePicked (λ e. bytes_eq key e.key) view.shown entries × (entries ≢ [])
IsSiteReply terms q (Finds query found) view =
    (text : List ℕ) × Asks q (Queried text) × IsQuery text query × IsAnswer query view.shown found
IsSiteReply terms q (Ships number piece) view =
    Asks q (Ship number) × (number < length (captures view.book))
    × ((some : IsSomePiece view.book number piece) × ((entry : Facts) → Contains view.shown entry → entry.number ≡ number → entry.digest ≡ some.digest))
    × (IsTrue terms.tells → IsPiece view.book number piece)
IsSiteReply terms q (HasNoMore number) view =
    Asks q (Ship number) × (number ≡ length (captures view.book)) × ((entry : Facts) → Contains view.shown entry → entry.number ≢ number)

-- ---- what is found

-- a body of this type, as an answer
unfoldable pub found_text : List ℕ → List ℕ → Bool → Bool → List ℕ
found_text media_type body answers_head closes =
    own_status_line status.Ok
    ++ type_line media_type
    ++ head_end (length body) closes
    ++ body_unless answers_head body
