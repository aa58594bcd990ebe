-- A request to the site is answered in one way, by what is seen and shown of the archive.
use Rattle.std.proofs.Common.{◌≡◌, inl, inr, ℕ, zero, suc, ◌+◌, ◌*◌, ◌<◌, ◌≤◌, Bool, true, false, IsTrue, List, [], ◌∷◌, ◌++◌, length, length-append, take, Option, Some, None, refl, sym, ◌∙◌, ap, subst, arith}
use Rattle.std.specs.Prelude.{Contains, bytes_eq, codes, map, slice_get, unwrap_or, MatchBool, MatchOption}
use Rattle.std.proofs.lemmas.Slice.Eq.{bytes_eq-Decides}
use Rattle.std.specs.Ordering.{is_lt}
use Rattle.std.specs.declared.cmp.Ordering.{Ordering}
use Rattle.std.specs.declared.cmp.Ordering.TheVariants.{Less, Equal, Greater}
use Rattle.std.proofs.lemmas.Bool.{cases_order}
use Rattle.std.proofs.lemmas.Option.{same_Some, slice_get_within}
use Rattle.httparse.specs.Grammar as grammar
use Rattle.httpdate.proofs.Theorems.{IsDateText_unique}
use Rattle.httpdate.specs.Valid.{parts_secs}
use Rattle.httpdate.specs.declared.parts.Parts.{Parts as DateParts}
use Rattle.archive_shelf.specs.Answers.{IsBrought}
use Rattle.archive_shelf.specs.Pieces.{IsFirstOf, IsFront, IsPiece}
use Rattle.archive_shelf.specs.Queries.{ArePicked}
use Rattle.capture.specs.BodyLaws.{CapturesHaveOnePayload}
use Rattle.capture.specs.Captures.{captures, captures_in}
use Rattle.capture.specs.Fields.{NamedValue, named_values, values_of}
use Rattle.capture.specs.declared.book.Book.{Book}
use Rattle.capture.specs.declared.book.Volume.{Volume}
use Rattle.capture.specs.declared.captured.Brought.{Brought}
use Rattle.capture.specs.declared.captured.Stored.{Stored}
use Rattle.capture.specs.declared.refusal.Refusal.{Refusal}
use Rattle.capture.specs.declared.refusal.Refusal.TheVariants.{Malformed, TargetRefused, BadTime, BadAcceptDatetime, BadQuery, NotAForm, NoCapture, NoSuch, MethodRefused, BodyTooLong, HeadTooLong, ClockRange, ConnectRefused, SecureRefused, CodingRefused, DialFault, OriginFault, OriginEnded, OriginMalformed, OriginTooLong, TooManyInterim, Full, DiskFault, Damaged}
use Rattle.cdx_query.specs.Laws.{QueriesHaveOneAnswer, TextsAreOneQuery}
use Rattle.cdx_query.specs.Answers.{IsAnswer}
use Rattle.cdx_query.specs.Reading.{IsQuery}
use Rattle.cdx_query.specs.declared.query.Query.{Query as CdxQuery}
use Rattle.index_entry.proofs.Members.{Among, among_from_contains, contains_from_among, same_from_members}
use Rattle.index_entry.proofs.OneIndex.{one_entry}
use Rattle.index_entry.proofs.Orders.{both_equal, moment_tied, order_total}
use Rattle.index_entry.specs.Facts.{Facts}
use Rattle.index_entry.specs.OfBook.{AreEntries, IsEntryOf}
use Rattle.index_entry.specs.Order.{Moment, comes_before, moment_cmp, moment_of, order}
use Rattle.index_entry.specs.Queries.{HasNone, IsNearest, distance}
use Rattle.html_rewrite.specs.Pieces.{Piece, replaced}
use Rattle.html_rewrite.specs.Rewritten.{within}
use Rattle.html_rewrite.specs.Split.{OneSplit}
use Rattle.html_rewrite.specs.Links.{archive_prefix, link, page_url}
use Rattle.html_rewrite.specs.declared.page.TheConstants.{PAGE_LIMIT}
use Rattle.http_wire.proofs.OneHead.{one_parse}
use Rattle.replay_answer.specs.Bodies.{IsBody, IsPageBody, is_rewritten}
use Rattle.replay_answer.specs.Mementos.{Delivery, IsMemento, answer_rest, capture_lines, parts_of}
use Rattle.replay_url.proofs.OneForm.{one_form}
use Rattle.replay_url.specs.Address.{Parts, Numbered, Shipped, Mapped, Queried, Timed, Modified, Open, Outside, parts_at}
use Rattle.replay_url.specs.Forms.{BadTimeAt, IsForm, NoFormAt}
use Rattle.replay_url.specs.Questions.{NamedTime, Nearest, Question, ForNearest, ForAll, ForQuery, ForNumber, ForPiece, asked_url, names_date, question_of}
use Rattle.replay_url.specs.declared.form.Form.{Form}
use Rattle.replay_url.specs.declared.form.Form.TheVariants.{Gate, Map, Number, Query, Ship}
use Rattle.surt_key.specs.Key.{key_of}
use Rattle.http_head.specs.Heads.{named_value}
use Rattle.time_text.specs.Blanks.{trim_blanks}
use Rattle.time_text.specs.declared.TheConstants.{LATEST}
use Rattle.time_text.specs.Reading.{IsHttpDate}
use Rattle.warc_text.specs.Growth.{NumbersHaveOneGroup}
use Rattle.warc_text.specs.Records.{info_text}
use Rattle.request_answer.specs.Rounds.{Visited, IsTextOf, disk_fault}
use Rattle.request_answer.specs.SiteAnswers.{SiteRequest, SiteReply, Refuses, Redirects, Replays, Lists, Finds, Ships, HasNoMore, Asks, IsSiteReply, IsSoughtTime, Reaches, Wants, serves_method}
use Rattle.request_answer.specs.Traces.{Terms, View}
use Rattle.session.proofs.CompleteLaws.{told_not_untold}
use Rattle.session.proofs.FormLaws.{dated, formed, timed, unserved}

-- what lower crates promise of what is shown, kept and printed
pub record Finding : Type 0 where
  pub payloads : CapturesHaveOnePayload
  pub groups : NumbersHaveOneGroup
  pub queries : TextsAreOneQuery
  pub answers : QueriesHaveOneAnswer
  pub splits : OneSplit

-- ---- times and keys

time_once : (value : List ℕ) (a b : ℕ) → IsHttpDate value a → IsHttpDate value b → a ≡ b
time_once value a b (d, shows, is) (c, also, too) =
    sym is ∙ ap (λ (p : DateParts). parts_secs p * 1000) (IsDateText_unique value d c shows also) ∙ too

-- the time that a field of a gate names, or the latest
abbrev IsGateTime : Option (List ℕ) → ℕ → Type 0
IsGateTime field time = MatchOption field (time ≡ LATEST) (λ value. IsHttpDate (trim_blanks value) time)

gate_time_once : (field : Option (List ℕ)) (a b : ℕ) → IsGateTime field a → IsGateTime field b → a ≡ b
gate_time_once (Some value) a b h k = time_once (trim_blanks value) a b h k
gate_time_once None a b h k = h ∙ sym k

sought_once : (named : Option NamedTime) (fields : List NamedValue) (a b : ℕ) → IsSoughtTime named fields a → IsSoughtTime named fields b → a ≡ b
sought_once (Some time) fields a b h k = h ∙ sym k
sought_once None fields a b h k = gate_time_once (slice_get (values_of (codes "accept-datetime") fields) 0) a b h k

-- ---- entries

tied : (o : Ordering) (p : Ordering) → is_lt o ≡ false → is_lt p ≡ false → (o ≡ Less → p ≡ Greater) → (o ≡ Greater → p ≡ Less) → o ≡ Equal
tied Less p a b less greater = let bad : ⊥ = cc in absurd bad
tied Equal p a b less greater = refl
tied Greater p a b less greater = let is : p ≡ Less = greater refl in let bad : ⊥ = cc in absurd bad

-- the nearest of a book's entries is one
nearest_once : NumbersHaveOneGroup → (book : Book) (shown : List Facts) (key : List ℕ) (time : ℕ) (a b : Facts) → AreEntries book shown
    → IsNearest shown key time a → IsNearest shown key time b → a ≡ b
nearest_once one book shown key time a b are h k =
    let far : distance a.date time ≡ distance b.date time = omega (arith, h.least b k.member k.keyed, k.least a h.member h.keyed) in
    let back : comes_before b a ≡ false = h.first b k.member k.keyed (sym far) in
    let forth : comes_before a b ≡ false = k.first a h.member h.keyed far in
    let turned = order_total.antisymm in
    let equal : order a b ≡ Equal = tied (order a b) (order b a) forth back (turned_less a b) (turned_greater a b) in
    let number : a.number ≡ b.number = ap (λ (m : Moment). m.1) (moment_tied (moment_of a) (moment_of b) (both_equal _ (moment_cmp (moment_of a) (moment_of b)) equal).1) in
    one_entry one book b.number a b (subst (λ (n : ℕ). IsEntryOf book n a) number (are.of_book.each a h.member)) (are.of_book.each b k.member)
  where
    turned_less : (x y : Facts) → order x y ≡ Less → order y x ≡ Greater
    turned_less x y e = let back = order_total.antisymm y x in cc

    turned_greater : (x y : Facts) → order x y ≡ Greater → order y x ≡ Less
    turned_greater x y e = let back = order_total.antisymm y x in cc

none_there : {P : Type 0} (shown : List Facts) (key : List ℕ) (time : ℕ) (entry : Facts) → HasNone shown key → IsNearest shown key time entry → P
none_there shown key time entry none nearest = absurd (none entry nearest.member nearest.keyed)

-- what is picked of a list is one
picked_once : (picks : Facts → Bool) (shown a b : List Facts) → ArePicked picks shown a → ArePicked picks shown b → a ≡ b
picked_once picks shown a b h k = same_from_members order order_total a b h.in_order k.in_order (held a b h k) (held b a k h) where
  held : (some others : List Facts) → ArePicked picks shown some → ArePicked picks shown others → (e : Facts) → Among some e → Among others e
  held some others h k e there =
      let in_list = contains_from_among some e there in
      among_from_contains others e (k.all e (h.from e in_list) (h.picked e in_list))

-- ---- captures and pieces

brought_once : CapturesHaveOnePayload → (book : Book) (number : ℕ) (a b : Brought) → IsBrought book number a → IsBrought book number b → a ≡ b
brought_once one book number a b h k =
    let stored : h.has.stored ≡ k.has.stored = same_Some h.has.stored k.has.stored (sym h.has.placed ∙ k.has.placed) in
    let method : a.method ≡ b.method = h.method ∙ ap (λ (s : Stored). s.method) stored ∙ sym k.method in
    let uri : a.uri ≡ b.uri = h.uri ∙ ap (λ (s : Stored). s.uri) stored ∙ sym k.uri in
    let date : a.date ≡ b.date = h.date ∙ ap (λ (s : Stored). s.date) stored ∙ sym k.date in
    let head : a.head ≡ b.head = h.head ∙ ap (λ (s : Stored). s.head) stored ∙ sym k.head in
    let payload : a.payload ≡ b.payload = one book number a.payload b.payload h.has k.has in
    λ i. record { method = method i; uri = uri i; date = date i; head = head i; payload = payload i }

-- the captures of a volume have their numbers below those of each later one
room_before : (volumes : List Volume) (k j : ℕ) (v : Volume) → slice_get volumes k ≡ Some v → k < j → j < length volumes
    → length (captures_in (take k volumes)) + length v.captures ≤ length (captures_in (take j volumes))
room_before [] k j v at lt inside = absurd (omega (arith, inside))
room_before (w ∷ ws) k zero v at lt inside = absurd (omega (arith, lt))
room_before (w ∷ ws) zero (suc j) v at lt inside =
    let same : length w.captures ≡ length v.captures = ap (λ (x : Volume). length x.captures) (same_Some w v at) in
    let long = length-append w.captures (captures_in (take j ws)) in
    omega (arith, same, long)
room_before (w ∷ ws) (suc k) (suc j) v at lt inside =
    let rest = room_before ws k j v at (omega (arith, lt)) (omega (arith, inside)) in
    let long = length-append w.captures (captures_in (take k ws)) in
    let also = length-append w.captures (captures_in (take j ws)) in
    omega (arith, rest, long, also)

-- a capture is the first of one volume
not_later : (book : Book) (number k j : ℕ) → IsFirstOf book number k → IsFirstOf book number j → k < j → ⊥
not_later book number k j h f lt =
    let inside = slice_get_within book.volumes j f.volume f.placed in
    let above = room_before book.volumes k j h.volume h.placed lt inside in
    omega (arith, above, h.some, h.first, f.first)

first_once : (book : Book) (number k j : ℕ) → IsFirstOf book number k → IsFirstOf book number j → k ≡ j
first_once book number k j h f = elim (cases_order k j) [
  | inl same ↦ same
  | inr (inl lt) ↦ absurd (not_later book number k j h f lt)
  | inr (inr gt) ↦ absurd (not_later book number j k f h gt)
]

front_once : (book : Book) (number : ℕ) (a b : List ℕ) → IsFront book number a → IsFront book number b → a ≡ b
front_once book number a b (inl h) (inl f) =
    let same : h.0 ≡ f.0 = first_once book number h.0 f.0 h.1 f.1 in
    let placed : slice_get book.volumes f.0 ≡ Some h.1.volume = subst (λ (n : ℕ). slice_get book.volumes n ≡ Some h.1.volume) same h.1.placed in
    let volume : h.1.volume ≡ f.1.volume = same_Some h.1.volume f.1.volume (sym placed ∙ f.1.placed) in
    h.2 ∙ ap (λ n. info_text book.namespace n h.1.volume.born) same ∙ ap (λ (v : Volume). info_text book.namespace f.0 v.born) volume ∙ sym f.2
front_once book number a b (inl h) (inr (none, e)) = absurd (none h.0 h.1)
front_once book number a b (inr (none, e)) (inl f) = absurd (none f.0 f.1)
front_once book number a b (inr (none, e)) (inr (also, d)) = e ∙ sym d

piece_once : NumbersHaveOneGroup → (book : Book) (number : ℕ) (a b : List ℕ) → IsPiece book number a → IsPiece book number b → a ≡ b
piece_once one book number a b h f =
    h.composed ∙ ap (λ (t : List ℕ). t ++ h.group) (front_once book number h.front f.front h.before f.before)
    ∙ ap (λ (t : List ℕ). f.front ++ t) (one book number h.group f.group h.is f.is).texts ∙ sym f.composed

-- ---- what is answered, by what is asked

-- no capture of the URL is shown
record ShowsNoneOf (view : View) (url : List ℕ) : Type 0 where
  pub key : List ℕ
  pub keyed : key_of url ≡ Some key
  pub none : HasNone view.shown key

-- the nearest capture: its date is another than the one that is named, or it is that one
data FollowsNearest (terms : Terms) (q : SiteRequest) (view : View) (sought : Nearest) (reply : SiteReply) : Type 0 where
  NotShown : (is : reply ≡ Refuses NoCapture) (none : ShowsNoneOf view sought.url) → FollowsNearest terms q view sought reply
  LedOn : (entry : Facts) (is : reply ≡ Redirects sought entry) (reaches : Reaches q view.shown sought entry)
      (other : names_date sought.named entry.date ≡ false) → FollowsNearest terms q view sought reply
  GivenByDate : (entry : Facts) (brought : Brought) (is : reply ≡ Replays (ForNearest sought) brought) (reaches : Reaches q view.shown sought entry)
      (named : names_date sought.named entry.date ≡ true) (right : IsBrought view.book entry.number brought) → FollowsNearest terms q view sought reply

data FollowsAll (view : View) (url : List ℕ) (reply : SiteReply) : Type 0 where
  NoneListed : (is : reply ≡ Refuses NoCapture) (none : ShowsNoneOf view url) → FollowsAll view url reply
  SomeListed : (entries : List Facts) (is : reply ≡ Lists url entries) (key : List ℕ) (keyed : key_of url ≡ Some key)
      (picked : ArePicked (λ e. bytes_eq key e.key) view.shown entries) (some : entries ≡ [] → ⊥) → FollowsAll view url reply

data FollowsQuery (view : View) (text : List ℕ) (reply : SiteReply) : Type 0 where
  NoQuery : (is : reply ≡ Refuses BadQuery) (none : (query : CdxQuery) → IsQuery text query → ⊥) → FollowsQuery view text reply
  Found_by : (query : CdxQuery) (found : List ℕ) (is : reply ≡ Finds query found) (reads : IsQuery text query) (answers : IsAnswer query view.shown found)
      → FollowsQuery view text reply

data FollowsNumber (view : View) (number : ℕ) (reply : SiteReply) : Type 0 where
  PastAll : (is : reply ≡ Refuses (NoSuch number (length (captures view.book)))) (past : length (captures view.book) ≤ number) → FollowsNumber view number reply
  GivenByNumber : (brought : Brought) (is : reply ≡ Replays (ForNumber number) brought) (there : number < length (captures view.book))
      (right : IsBrought view.book number brought) → FollowsNumber view number reply

data FollowsPiece (view : View) (number : ℕ) (reply : SiteReply) : Type 0 where
  PastNext : (is : reply ≡ Refuses (NoSuch number (length (captures view.book)))) (past : length (captures view.book) < number) → FollowsPiece view number reply
  Shipped_it : (piece : List ℕ) (is : reply ≡ Ships number piece) (there : number < length (captures view.book)) (right : IsPiece view.book number piece)
      → FollowsPiece view number reply
  NothingYet : (is : reply ≡ HasNoMore number) (next : number ≡ length (captures view.book)) → FollowsPiece view number reply

abbrev Follows : Terms → SiteRequest → View → Question → SiteReply → Type 0
Follows terms q view (ForNearest sought) reply = FollowsNearest terms q view sought reply
Follows terms q view (ForAll url) reply = FollowsAll view url reply
Follows terms q view (ForQuery text) reply = FollowsQuery view text reply
Follows terms q view (ForNumber number) reply = FollowsNumber view number reply
Follows terms q view (ForPiece number) reply = FollowsPiece view number reply

-- how a request was answered: it asks for no form, or for a form, by what that asks
data Answers (terms : Terms) (q : SiteRequest) (view : View) (reply : SiteReply) : Type 0 where
  Unserved : (is : reply ≡ Refuses MethodRefused) (unable : serves_method q.message.head.method ≡ false) → Answers terms q view reply
  Formless : (is : reply ≡ Refuses NotAForm) (served : serves_method q.message.head.method ≡ true) (none : NoFormAt (parts_at q.address))
      → Answers terms q view reply
  Timeless : (is : reply ≡ Refuses BadTime) (served : serves_method q.message.head.method ≡ true) (bad : BadTimeAt (parts_at q.address))
      → Answers terms q view reply
  Dateless : (is : reply ≡ Refuses BadAcceptDatetime) (served : serves_method q.message.head.method ≡ true) (url : List ℕ)
      (gate : IsForm q.address (Gate url)) (none : (time : ℕ) → IsSoughtTime None (map named_value q.message.head.fields) time → ⊥) → Answers terms q view reply
  Asking : (form : Form) (asks : Asks q form) (follows : Follows terms q view (question_of form) reply) → Answers terms q view reply

-- by the question of the form
asked : (terms : Terms) (q : SiteRequest) (view : View) (reply : SiteReply) (form : Form) (question : Question) → Asks q form → question_of form ≡ question
    → Follows terms q view question reply → Answers terms q view reply
asked terms q view reply form question asks is follows =
    Asking form asks (subst (λ (x : Question). Follows terms q view x reply) (sym is) follows)

shows_none : (terms : Terms) (q : SiteRequest) (view : View) → IsSiteReply terms q (Refuses NoCapture) view → Answers terms q view (Refuses NoCapture)
shows_none terms q view (form, asks, wished, asked_is, key, keyed, none) = by_question (question_of form) refl asked_is where
  of_url : (url : List ℕ) → Some url ≡ Some wished → ShowsNoneOf view url
  of_url url e = let same : url ≡ wished = same_Some url wished e in
      record { key = key; keyed = ap key_of same ∙ keyed; none = none }

  by_question : (question : Question) → question_of form ≡ question → asked_url question ≡ Some wished → Answers terms q view (Refuses NoCapture)
  by_question (ForNearest sought) is e = asked terms q view (Refuses NoCapture) form (ForNearest sought) asks is (NotShown refl (of_url sought.url e))
  by_question (ForAll url) is e = asked terms q view (Refuses NoCapture) form (ForAll url) asks is (NoneListed refl (of_url url e))
  by_question (ForQuery text) is e = let bad : ⊥ = cc in absurd bad
  by_question (ForNumber number) is e = let bad : ⊥ = cc in absurd bad
  by_question (ForPiece number) is e = let bad : ⊥ = cc in absurd bad

one_met : {P : Type 0} → ◌≡◌ {A = ℕ} 1 0 → P
one_met e = absurd (omega (arith, e))

past_number : (terms : Terms) (q : SiteRequest) (view : View) (number count : ℕ) → IsSiteReply terms q (Refuses (NoSuch number count)) view
    → Answers terms q view (Refuses (NoSuch number count))
past_number terms q view number count (inl (asks, past), none, is) =
    Asking (Number number) asks (PastAll (ap (λ n. Refuses (NoSuch number n)) is) past)
past_number terms q view number count (inr (asks, past), none, is) =
    Asking (Ship number) asks (PastNext (ap (λ n. Refuses (NoSuch number n)) is) past)

rejected : (terms : Terms) (q : SiteRequest) (refusal : Refusal) (view : View) → IsTrue terms.tells → disk_fault (Visited q (Refuses refusal)) ≡ 0
    → IsSiteReply terms q (Refuses refusal) view → Answers terms q view (Refuses refusal)
rejected terms q MethodRefused view tells disk h = Unserved refl h
rejected terms q NotAForm view tells disk h = Formless refl h.0 h.1
rejected terms q BadTime view tells disk h = Timeless refl h.0 h.1
rejected terms q BadAcceptDatetime view tells disk h = Dateless refl h.0 h.1.0 h.1.1 h.2
rejected terms q BadQuery view tells disk h = Asking (Query h.0) h.1 (NoQuery refl h.2)
rejected terms q (NoSuch number count) view tells disk h = past_number terms q view number count h
rejected terms q NoCapture view tells disk h = shows_none terms q view h
rejected terms q DiskFault view tells disk h = one_met disk
rejected terms q (Damaged at kept lost) view tells disk h = told_not_untold terms.tells tells h.1.untold
rejected terms q (ClockRange now) view tells disk h = absurd h
rejected terms q DialFault view tells disk h = absurd h
rejected terms q OriginFault view tells disk h = absurd h
rejected terms q OriginEnded view tells disk h = absurd h
rejected terms q OriginMalformed view tells disk h = absurd h
rejected terms q OriginTooLong view tells disk h = absurd h
rejected terms q TooManyInterim view tells disk h = absurd h
rejected terms q (Full count limit) view tells disk h = absurd h
rejected terms q Malformed view tells disk h = absurd h
rejected terms q TargetRefused view tells disk h = absurd h
rejected terms q BodyTooLong view tells disk h = absurd h
rejected terms q HeadTooLong view tells disk h = absurd h
rejected terms q ConnectRefused view tells disk h = absurd h
rejected terms q SecureRefused view tells disk h = absurd h
rejected terms q CodingRefused view tells disk h = absurd h

replays : (terms : Terms) (q : SiteRequest) (view : View) (question : Question) (brought : Brought) → IsTrue terms.tells
    → (number : ℕ) → Wants q view question number → IsBrought view.book number brought → Answers terms q view (Replays question brought)
replays terms q view (ForNumber wanted) brought tells number (asks, is, there) right =
    Asking (Number wanted) asks (GivenByNumber brought refl (omega (arith, is, there)) (subst (λ (n : ℕ). IsBrought view.book n brought) is right))
replays terms q view (ForNearest sought) brought tells number (entry, reaches, named, number_is, there) right =
    asked terms q view (Replays (ForNearest sought) brought) reaches.form (ForNearest sought) reaches.asks reaches.asked
    (GivenByDate entry brought refl reaches named (subst (λ (n : ℕ). IsBrought view.book n brought) number_is right))
replays terms q view (ForPiece wanted) brought tells number h right = absurd h
replays terms q view (ForAll url) brought tells number h right = absurd h
replays terms q view (ForQuery text) brought tells number h right = absurd h

answered : (terms : Terms) (q : SiteRequest) (reply : SiteReply) (view : View) → IsTrue terms.tells → disk_fault (Visited q reply) ≡ 0
    → IsSiteReply terms q reply view → Answers terms q view reply
answered terms q (Refuses refusal) view tells disk h = rejected terms q refusal view tells disk h
answered terms q (Redirects sought entry) view tells disk h =
    asked terms q view (Redirects sought entry) h.0.form (ForNearest sought) h.0.asks h.0.asked (LedOn entry refl h.0 h.1)
answered terms q (Replays question brought) view tells disk h =
    replays terms q view question brought tells h.0 h.1 (h.5 tells)
answered terms q (Lists url entries) view tells disk h = Asking (Map url) h.1 (SomeListed entries refl h.0 h.2 h.3 h.4)
answered terms q (Finds query found) view tells disk h = Asking (Query h.0) h.1 (Found_by query found refl h.2 h.3)
answered terms q (Ships number piece) view tells disk h =
    Asking (Ship number) h.0 (Shipped_it piece refl h.1 (h.3 tells))
answered terms q (HasNoMore number) view tells disk h = Asking (Ship number) h.0 (NothingYet refl h.1)

-- ---- two answers

true_isnt_false : {P : Type 0} (b : Bool) → b ≡ true → b ≡ false → P
true_isnt_false b t f = let bad : ⊥ = cc in absurd bad

no_such_time : {P : Type 0} (parts : Parts) → NoFormAt parts → BadTimeAt parts → P
no_such_time (Timed digits raw text) (time, earliest, none) bad = absurd (bad time earliest.named)
no_such_time (Numbered text) none bad = absurd bad
no_such_time (Shipped text) none bad = absurd bad
no_such_time (Mapped text) none bad = absurd bad
no_such_time (Queried text) none bad = absurd bad
no_such_time Modified none bad = absurd bad
no_such_time (Open text) none bad = absurd bad
no_such_time Outside none bad = absurd bad

module _ (laws : Finding) (terms : Terms) (q : SiteRequest) (view : View) (later : Book) (are : AreEntries later view.shown) where
  reached_once : (sought : Nearest) (a b : Facts) → Reaches q view.shown sought a → Reaches q view.shown sought b → a ≡ b
  reached_once sought a b h k =
      let key : h.key ≡ k.key = same_Some h.key k.key (sym h.keyed ∙ k.keyed) in
      let time : h.time ≡ k.time = sought_once sought.named (map named_value q.message.head.fields) h.time k.time h.timed k.timed in
      nearest_once laws.groups later view.shown k.key k.time a b are
      (subst (λ (n : ℕ). IsNearest view.shown k.key n a) time (subst (λ (t : List ℕ). IsNearest view.shown t h.time a) key h.nearest)) k.nearest

  none_reached : {P : Type 0} (sought : Nearest) (entry : Facts) → ShowsNoneOf view sought.url → Reaches q view.shown sought entry → P
  none_reached sought entry none h =
      let key : h.key ≡ none.key = same_Some h.key none.key (sym h.keyed ∙ none.keyed) in
      absurd (none.none entry h.nearest.member (h.nearest.keyed ∙ key))

  apart : {P : Type 0} (sought : Nearest) (a b : Facts) → Reaches q view.shown sought a → Reaches q view.shown sought b
      → names_date sought.named a.date ≡ true → names_date sought.named b.date ≡ false → P
  apart sought a b h k named other =
      true_isnt_false (names_date sought.named b.date)
      (ap (λ (e : Facts). names_date sought.named e.date) (sym (reached_once sought a b h k)) ∙ named) other

  given_once : (question : Question) (n m : ℕ) (a b : Brought) → n ≡ m → IsBrought view.book n a → IsBrought view.book m b
      → Replays question a ≡ Replays question b
  given_once question n m a b same h k =
      ap (λ (x : Brought). Replays question x)
      (brought_once laws.payloads view.book m a b (subst (λ (i : ℕ). IsBrought view.book i a) same h) k)

  nearest_follows : (sought : Nearest) (reply other : SiteReply) → FollowsNearest terms q view sought reply → FollowsNearest terms q view sought other
      → reply ≡ other
  nearest_follows sought reply other (NotShown is none) (NotShown also too) = is ∙ sym also
  nearest_follows sought reply other (NotShown is none) (LedOn b also k o) = none_reached sought b none k
  nearest_follows sought reply other (NotShown is none) (GivenByDate b y also k n right) = none_reached sought b none k
  nearest_follows sought reply other (LedOn a is h o) (NotShown also none) = none_reached sought a none h
  nearest_follows sought reply other (LedOn a is h o) (LedOn b also k p) = is ∙ ap (λ (e : Facts). Redirects sought e) (reached_once sought a b h k) ∙ sym also
  nearest_follows sought reply other (LedOn a is h o) (GivenByDate b y also k n right) = apart sought b a k h n o
  nearest_follows sought reply other (GivenByDate a x is h n right) (NotShown also none) = none_reached sought a none h
  nearest_follows sought reply other (GivenByDate a x is h n right) (LedOn b also k o) = apart sought a b h k n o
  nearest_follows sought reply other (GivenByDate a x is h n right) (GivenByDate b y also k m too) =
      is ∙ given_once (ForNearest sought) a.number b.number x y (ap (λ (e : Facts). e.number) (reached_once sought a b h k)) right too ∙ sym also

  -- entries of a key that has none aren't some
  none_picked : {P : Type 0} (url : List ℕ) (entries : List Facts) (key : List ℕ) → ShowsNoneOf view url → key_of url ≡ Some key
      → ArePicked (λ e. bytes_eq key e.key) view.shown entries → (entries ≡ [] → ⊥) → P
  none_picked url [] key none keyed picked some = absurd (some refl)
  none_picked url (e ∷ entries) key none keyed picked some =
      let here : Contains (e ∷ entries) e = (0, omega arith, refl) in
      let same : key ≡ none.key = same_Some key none.key (sym keyed ∙ none.keyed) in
      absurd (none.none e (picked.from e here) (sym ((bytes_eq-Decides key e.key).0 (picked.picked e here)) ∙ same))

  list_follows : (url : List ℕ) (reply other : SiteReply) → FollowsAll view url reply → FollowsAll view url other → reply ≡ other
  list_follows url reply other (NoneListed is none) (NoneListed also too) = is ∙ sym also
  list_follows url reply other (NoneListed is none) (SomeListed b also key keyed picked some) = none_picked url b key none keyed picked some
  list_follows url reply other (SomeListed a is key keyed picked some) (NoneListed also none) = none_picked url a key none keyed picked some
  list_follows url reply other (SomeListed a is key keyed picked some) (SomeListed b also word worded chosen others) =
      let same : key ≡ word = same_Some key word (sym keyed ∙ worded) in
      is ∙ ap (λ (l : List Facts). Lists url l) (picked_once (λ e. bytes_eq word e.key) view.shown a b
      (subst (λ (t : List ℕ). ArePicked (λ e. bytes_eq t e.key) view.shown a) same picked) chosen) ∙ sym also

  query_follows : (text : List ℕ) (reply other : SiteReply) → FollowsQuery view text reply → FollowsQuery view text other → reply ≡ other
  query_follows text reply other (NoQuery is none) (NoQuery also too) = is ∙ sym also
  query_follows text reply other (NoQuery is none) (Found_by b y also reads answers) = absurd (none b reads)
  query_follows text reply other (Found_by a x is reads answers) (NoQuery also none) = absurd (none a reads)
  query_follows text reply other (Found_by a x is reads answers) (Found_by b y also read told) =
      let same : a ≡ b = laws.queries text a b reads read in
      is ∙ ap (λ (c : CdxQuery). Finds c x) same
      ∙ ap (λ (t : List ℕ). Finds b t) (laws.answers b view.shown x y (subst (λ (c : CdxQuery). IsAnswer c view.shown x) same answers) told) ∙ sym also

  number_follows : (number : ℕ) (reply other : SiteReply) → FollowsNumber view number reply → FollowsNumber view number other → reply ≡ other
  number_follows number reply other (PastAll is past) (PastAll also too) = is ∙ sym also
  number_follows number reply other (PastAll is past) (GivenByNumber b also there right) = absurd (omega (arith, past, there))
  number_follows number reply other (GivenByNumber a is there right) (PastAll also past) = absurd (omega (arith, past, there))
  number_follows number reply other (GivenByNumber a is there right) (GivenByNumber b also too same) =
      is ∙ given_once (ForNumber number) number number a b refl right same ∙ sym also

  piece_follows : (number : ℕ) (reply other : SiteReply) → FollowsPiece view number reply → FollowsPiece view number other → reply ≡ other
  piece_follows number reply other (PastNext is past) (PastNext also too) = is ∙ sym also
  piece_follows number reply other (PastNext is past) (Shipped_it b also there right) = absurd (omega (arith, past, there))
  piece_follows number reply other (PastNext is past) (NothingYet also next) = absurd (omega (arith, past, next))
  piece_follows number reply other (Shipped_it a is there right) (PastNext also past) = absurd (omega (arith, past, there))
  piece_follows number reply other (Shipped_it a is there right) (Shipped_it b also too same) =
      is ∙ ap (λ (t : List ℕ). Ships number t) (piece_once laws.groups view.book number a b right same) ∙ sym also
  piece_follows number reply other (Shipped_it a is there right) (NothingYet also next) = absurd (omega (arith, there, next))
  piece_follows number reply other (NothingYet is next) (PastNext also past) = absurd (omega (arith, past, next))
  piece_follows number reply other (NothingYet is next) (Shipped_it b also there right) = absurd (omega (arith, there, next))
  piece_follows number reply other (NothingYet is next) (NothingYet also too) = is ∙ sym also

  follows_once : (question : Question) (reply other : SiteReply) → Follows terms q view question reply → Follows terms q view question other
      → reply ≡ other
  follows_once (ForNearest sought) reply other a b = nearest_follows sought reply other a b
  follows_once (ForAll url) reply other a b = list_follows url reply other a b
  follows_once (ForQuery text) reply other a b = query_follows text reply other a b
  follows_once (ForNumber number) reply other a b = number_follows number reply other a b
  follows_once (ForPiece number) reply other a b = piece_follows number reply other a b

  answers_once : (reply other : SiteReply) → Answers terms q view reply → Answers terms q view other → reply ≡ other
  answers_once reply other (Unserved is unable) (Unserved also too) = is ∙ sym also
  answers_once reply other (Unserved is unable) (Formless also served none) = unserved (serves_method q.message.head.method) served unable
  answers_once reply other (Unserved is unable) (Timeless also served bad) = unserved (serves_method q.message.head.method) served unable
  answers_once reply other (Unserved is unable) (Dateless also served url gate none) = unserved (serves_method q.message.head.method) served unable
  answers_once reply other (Unserved is unable) (Asking form asks follows) = unserved (serves_method q.message.head.method) asks.served unable
  answers_once reply other (Formless is served none) (Unserved also unable) = unserved (serves_method q.message.head.method) served unable
  answers_once reply other (Formless is served none) (Formless also too same) = is ∙ sym also
  answers_once reply other (Formless is served none) (Timeless also too bad) = no_such_time (parts_at q.address) none bad
  answers_once reply other (Formless is served none) (Dateless also too url gate nothing) = formed (parts_at q.address) (Gate url) gate none
  answers_once reply other (Formless is served none) (Asking form asks follows) = formed (parts_at q.address) form asks.is none
  answers_once reply other (Timeless is served bad) (Unserved also unable) = unserved (serves_method q.message.head.method) served unable
  answers_once reply other (Timeless is served bad) (Formless also too none) = no_such_time (parts_at q.address) none bad
  answers_once reply other (Timeless is served bad) (Timeless also too same) = is ∙ sym also
  answers_once reply other (Timeless is served bad) (Dateless also too url gate nothing) = timed (parts_at q.address) (Gate url) gate bad
  answers_once reply other (Timeless is served bad) (Asking form asks follows) = timed (parts_at q.address) form asks.is bad
  answers_once reply other (Dateless is served url gate none) (Unserved also unable) = unserved (serves_method q.message.head.method) served unable
  answers_once reply other (Dateless is served url gate none) (Formless also too nothing) = formed (parts_at q.address) (Gate url) gate nothing
  answers_once reply other (Dateless is served url gate none) (Timeless also too bad) = timed (parts_at q.address) (Gate url) gate bad
  answers_once reply other (Dateless is served url gate none) (Dateless also too text open_to nothing) = is ∙ sym also
  answers_once reply other (Dateless is served url gate none) (Asking form asks follows) = dated q form url asks gate none
  answers_once reply other (Asking form asks follows) (Unserved also unable) = unserved (serves_method q.message.head.method) asks.served unable
  answers_once reply other (Asking form asks follows) (Formless also too none) = formed (parts_at q.address) form asks.is none
  answers_once reply other (Asking form asks follows) (Timeless also too bad) = timed (parts_at q.address) form asks.is bad
  answers_once reply other (Asking form asks follows) (Dateless also too url gate none) = dated q form url asks gate none
  answers_once reply other (Asking form asks follows) (Asking another wants goes) =
      let same : form ≡ another = one_form (parts_at q.address) form another asks.is wants.is in
      follows_once (question_of another) reply other
      (subst (λ (f : Form). Follows terms q view (question_of f) reply) same follows) goes

  pub one_visit : (reply other : SiteReply) → IsTrue terms.tells → disk_fault (Visited q reply) ≡ 0 → disk_fault (Visited q other) ≡ 0
      → IsSiteReply terms q reply view → IsSiteReply terms q other view → reply ≡ other
  one_visit reply other tells disk stored a b =
      answers_once reply other (answered terms q reply view tells disk a) (answered terms q other view tells stored b)

-- ---- texts

page_once : OneSplit → (base : List ℕ) (capture : Brought) (a b : List ℕ) → IsPageBody base capture a → IsPageBody base capture b → a ≡ b
page_once one base capture a b h k =
    let shape : List ℕ → List ℕ = link (archive_prefix base capture.date) (page_url capture.uri) in
    let pieces : h.rewritten.pieces ≡ k.rewritten.pieces = one capture.payload h.rewritten.pieces k.rewritten.pieces h.rewritten.split k.rewritten.split in
    let page : h.page ≡ k.page =
    h.rewritten.text ∙ ap (λ (x : List Piece). within PAGE_LIMIT (replaced shape x)) pieces ∙ sym k.rewritten.text in
    h.shown ∙ ap (λ (x : Option (List ℕ)). unwrap_or x capture.payload) page ∙ sym k.shown

body_by : OneSplit → (base : List ℕ) (capture : Brought) (rewritten : Bool) (a b : List ℕ)
    → MatchBool rewritten (IsPageBody base capture a) (a ≡ capture.payload) → MatchBool rewritten (IsPageBody base capture b) (b ≡ capture.payload) → a ≡ b
body_by one base capture true a b h k = page_once one base capture a b h k
body_by one base capture false a b h k = h ∙ sym k

memento_once : OneSplit → (base : List ℕ) (capture : Brought) (delivery : Delivery) (a b : List ℕ) → IsMemento base capture delivery a
    → IsMemento base capture delivery b → a ≡ b
memento_once one base capture delivery a b h k =
    let head : h.head ≡ k.head = one_parse capture.head h.head k.head h.read k.read in
    let given : IsBody base capture delivery.raw (named_values k.head.fields) h.body =
    subst (λ (g : grammar.ResponseHead). IsBody base capture delivery.raw (named_values g.fields) h.body) head h.given in
    let body : h.body ≡ k.body = body_by one base capture (is_rewritten delivery.raw (named_values k.head.fields)) h.body k.body given k.given in
    h.whole
    ∙ ap (λ (g : grammar.ResponseHead). capture_lines base capture delivery.raw (parts_of g) ++ answer_rest (grammar.status_code g) delivery.answers_head delivery.closes h.body) head
    ∙ ap (λ (t : List ℕ). capture_lines base capture delivery.raw (parts_of k.head) ++ answer_rest (grammar.status_code k.head) delivery.answers_head delivery.closes t) body
    ∙ sym k.whole

pub text_once : OneSplit → (terms : Terms) (q : SiteRequest) (reply : SiteReply) (closes : Bool) (a b : List ℕ) → IsTextOf terms (Visited q reply) closes a
    → IsTextOf terms (Visited q reply) closes b → a ≡ b
text_once one terms q (Refuses refusal) closes a b h k = h ∙ sym k
text_once one terms q (Redirects sought entry) closes a b h k = h ∙ sym k
text_once one terms q (Replays question brought) closes a b h k = memento_once one terms.site.base brought _ a b h k
text_once one terms q (Lists url entries) closes a b h k = h ∙ sym k
text_once one terms q (Finds query found) closes a b h k = h ∙ sym k
text_once one terms q (Ships number piece) closes a b h k = h ∙ sym k
text_once one terms q (HasNoMore number) closes a b h k = h ∙ sym k
