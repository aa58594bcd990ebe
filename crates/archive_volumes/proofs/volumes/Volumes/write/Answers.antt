use Rattle.std.proofs.Common.{◌≡◌, ◌⊎◌, ℕ, ◌+◌, ◌-◌, ◌^◌, ◌<◌, List, [], ◌∷◌, ◌++◌, length, Option, Some, OnErr, OnOk, sym, ap, subst, ◌∙◌, inl}
use Rattle.std.specs.Prelude.{IfOk}
use Rattle.capture.specs.Captures.{captures}
use Rattle.capture.specs.declared.book.Book.{Book}
use Rattle.warc_journal.specs.Journals.{disk_of, last_len, texts, volumes}
use Rattle.warc_journal.specs.Texts.{with_more}
use Rattle.warc_text.specs.Books.{IsGroupText}
use Rattle.warc_text.specs.Sound.{IsSound}
use Rattle.archive_shelf.specs.Storing.{with_capture, with_volume}
use Rattle.archive_volumes.specs.Held.{book_of, stored_in}
use Rattle.archive_volumes.specs.Writing.{CanBegin, HasRoomFor, Writes, books_as, end_with, texts_with, with_prepared}
use Rattle.archive_volumes.specs.Written.{WritesTexts, texts_as}
use Rattle.archive_volumes.specs.Volumes.{Makes, muted}
use Rattle.archive_volumes.specs.declared.room.Prepared.{Prepared}
use Rattle.archive_volumes.specs.declared.volumes.Volumes.{Volumes}
use Rattle.archive_volumes.proofs.ChangeLaws.{DiskLaws, laws_muted}
use Rattle.archive_volumes.proofs.ExitLaws.{counts_behind, counts_refused, never_ok, not_done, on_refusal}
use Rattle.archive_volumes.proofs.StoreLaws.{done_is, left_ready, stays_refused, writes_at, writes_behind, writes_none}
use Rattle.archive_volumes.proofs.WrittenLaws.{texts_at, texts_behind, texts_none}
use Rattle.archive_volumes.proofs.volumes.Volumes.write.Given.{Over}
use Rattle.archive_volumes.proofs.volumes.Volumes.write.Goals as goal

-- what is asked of the disk
disk_laws : (g : Over) → DiskLaws g.D.Disk
disk_laws g = record { earlier = g.met.D.Disk.earlier; now_counts = g.met.D.Disk.now_counts; now_only = g.met.D.Disk.now_only }

-- ---- the volume is begun

can_begin : {D : Type 0} (volumes_now : Volumes D) (given : Option Prepared) (prepared : Prepared) → given ≡ Some prepared → HasRoomFor volumes_now given
    → CanBegin volumes_now prepared
can_begin volumes_now given prepared is room = subst (λ (o : Option Prepared). HasRoomFor volumes_now o) is room

pub begin-requires-clause-prepared : goal.begin-requires-clause-prepared
begin-requires-clause-prepared g c = (can_begin c.args.self.now c.args.prepared c.in-Some.prepared c.in-Some.is c.requires.room).prepared_is

pub begin-requires-clause-space : goal.begin-requires-clause-space
begin-requires-clause-space g c = (can_begin c.args.self.now c.args.prepared c.in-Some.prepared c.in-Some.is c.requires.room).space

pub begin-requires-clause-filled : goal.begin-requires-clause-filled
begin-requires-clause-filled g c = (can_begin c.args.self.now c.args.prepared c.in-Some.prepared c.in-Some.is c.requires.room).filled

pub begin-requires-clause-number : goal.begin-requires-clause-number
begin-requires-clause-number g c = (can_begin c.args.self.now c.args.prepared c.in-Some.prepared c.in-Some.is c.requires.room).number

pub begin-requires-clause-born : goal.begin-requires-clause-born
begin-requires-clause-born g c = (can_begin c.args.self.now c.args.prepared c.in-Some.prepared c.in-Some.is c.requires.room).born

pub begin-requires-clause-holds : goal.begin-requires-clause-holds
begin-requires-clause-holds g c = c.requires.holds

pub begin-requires-clause-measured : goal.begin-requires-clause-measured
begin-requires-clause-measured g c = c.requires.measured

-- ---- it is refused

pub returns-in_err-begin-in-Some-clause-stored : goal.returns-in_err-begin-in-Some-clause-stored
returns-in_err-begin-in-Some-clause-stored g c = never_ok _ c.from_residual.result c.from_residual.ensures.0

pub returns-in_err-begin-in-Some-clause-left : goal.returns-in_err-begin-in-Some-clause-left
returns-in_err-begin-in-Some-clause-left g c = on_refusal c.from_residual.result (inl c.in_err-begin-in-Some.ensures.book)

pub returns-in_err-begin-in-Some-clause-holds : goal.returns-in_err-begin-in-Some-clause-holds
returns-in_err-begin-in-Some-clause-holds g c = c.begin.ensures.holds

pub returns-in_err-begin-in-Some-clause-measured : goal.returns-in_err-begin-in-Some-clause-measured
returns-in_err-begin-in-Some-clause-measured g c = c.begin.ensures.measured

pub returns-in_err-begin-in-Some-clause-place : goal.returns-in_err-begin-in-Some-clause-place
returns-in_err-begin-in-Some-clause-place g c = not_done _ c.from_residual.result c.from_residual.ensures.0

pub returns-in_err-begin-in-Some-clause-last_len : goal.returns-in_err-begin-in-Some-clause-last_len
returns-in_err-begin-in-Some-clause-last_len g c = never_ok _ c.from_residual.result c.from_residual.ensures.0

pub returns-in_err-begin-in-Some-clause-text : goal.returns-in_err-begin-in-Some-clause-text
returns-in_err-begin-in-Some-clause-text g c tells = never_ok _ c.from_residual.result c.from_residual.ensures.0

pub returns-in_err-begin-in-Some-clause-texts_left : goal.returns-in_err-begin-in-Some-clause-texts_left
returns-in_err-begin-in-Some-clause-texts_left g c tells = on_refusal c.from_residual.result (inl (c.in_err-begin-in-Some.ensures.texts tells))

pub returns-in_err-begin-in-Some-clause-others : goal.returns-in_err-begin-in-Some-clause-others
returns-in_err-begin-in-Some-clause-others g c = c.begin.ensures.others

pub returns-in_err-begin-in-Some-clause-faults : goal.returns-in_err-begin-in-Some-clause-faults
returns-in_err-begin-in-Some-clause-faults g c =
    let d = g.D.Disk in
    counts_refused (d.faults (disk_of c.args.self.now.journal)) (d.faults (disk_of c.begin.new.self.journal)) c.in_err-begin-in-Some.field-0.0
    c.from_residual.result c.from_residual.ensures.0 c.in_err-begin-in-Some.ensures.faults

-- ---- the capture is added behind it

pub add-requires-clause-space : goal.add-requires-clause-space
add-requires-clause-space g c = c.in_ok-begin-in-Some.ensures.space

pub add-requires-clause-holds : goal.add-requires-clause-holds
add-requires-clause-holds g c = c.begin.ensures.holds

pub add-requires-clause-measured : goal.add-requires-clause-measured
add-requires-clause-measured g c = c.begin.ensures.measured

pub add-requires-clause-committed : goal.add-requires-clause-committed
add-requires-clause-committed g c = c.requires.committed

pub returns-in_ok-begin-in-Some-clause-holds : goal.returns-in_ok-begin-in-Some-clause-holds
returns-in_ok-begin-in-Some-clause-holds g c = c.add.ensures.holds

pub returns-in_ok-begin-in-Some-clause-measured : goal.returns-in_ok-begin-in-Some-clause-measured
returns-in_ok-begin-in-Some-clause-measured g c = c.add.ensures.measured

pub returns-in_ok-begin-in-Some-clause-others : goal.returns-in_ok-begin-in-Some-clause-others
returns-in_ok-begin-in-Some-clause-others g c tells = c.add.ensures.others tells ∙ c.begin.ensures.others tells

pub returns-in_ok-begin-in-Some-clause-faults : goal.returns-in_ok-begin-in-Some-clause-faults
returns-in_ok-begin-in-Some-clause-faults g c =
    let d = g.D.Disk in
    counts_behind (d.faults (disk_of c.args.self.now.journal)) (d.faults (disk_of c.begin.new.self.journal)) (d.faults (disk_of c.add.new.self.journal))
    c.in_ok-begin-in-Some.field-0 c.add.result c.in_ok-begin-in-Some.ensures.faults c.add.ensures.faults

pub add-requires-clause-group : goal.add-requires-clause-group
add-requires-clause-group g c told =
    let book : Book = book_of c.args.self.now.held in
    let mid : Book = book_of c.begin.new.self.held in
    let room : with_prepared book c.args.prepared ≡ mid = ap (λ (o : Option Prepared). with_prepared book o) c.in-Some.is ∙ sym c.in_ok-begin-in-Some.ensures.book in
    subst (λ (b : Book). IsGroupText (with_capture b (stored_in c.args.stored)) (length (captures b)) c.args.group.now) room (c.requires.group told)

pub add-requires-clause-sound : goal.add-requires-clause-sound
add-requires-clause-sound g c told =
    let book : Book = book_of c.args.self.now.held in
    let mid : Book = book_of c.begin.new.self.held in
    let room : with_prepared book c.args.prepared ≡ mid = ap (λ (o : Option Prepared). with_prepared book o) c.in-Some.is ∙ sym c.in_ok-begin-in-Some.ensures.book in
    subst (λ (b : Book). IsSound (with_capture b (stored_in c.args.stored))) room (c.requires.sound told)

pub add-requires-clause-fits : goal.add-requires-clause-fits
add-requires-clause-fits g c =
    let ends : end_with c.args.self.now c.args.prepared ≡ last_len c.begin.new.self.journal =
    ap (λ (o : Option Prepared). end_with c.args.self.now o) c.in-Some.is ∙ sym c.in_ok-begin-in-Some.ensures.last_len in
    subst (λ (end : ℕ). end + length c.args.group.now < 2 ^ 62) ends c.requires.fits

pub returns-in_ok-begin-in-Some-clause-stored : goal.returns-in_ok-begin-in-Some-clause-stored
returns-in_ok-begin-in-Some-clause-stored g c =
    let book : Book = book_of c.args.self.now.held in
    let mid : Book = book_of c.begin.new.self.held in
    let now : Book = book_of c.add.new.self.held in
    let room : with_prepared book c.args.prepared ≡ mid = ap (λ (o : Option Prepared). with_prepared book o) c.in-Some.is ∙ sym c.in_ok-begin-in-Some.ensures.book in
    subst (λ (b : Book). OnOk c.add.result (now ≡ with_capture b (stored_in c.args.stored))) (sym room)
    (done_is c.add.result now mid (with_capture mid (stored_in c.args.stored)) c.add.ensures.book)

pub returns-in_ok-begin-in-Some-clause-left : goal.returns-in_ok-begin-in-Some-clause-left
returns-in_ok-begin-in-Some-clause-left g c =
    let book : Book = book_of c.args.self.now.held in
    let mid : Book = book_of c.begin.new.self.held in
    let now : Book = book_of c.add.new.self.held in
    let room : with_prepared book c.args.prepared ≡ mid = ap (λ (o : Option Prepared). with_prepared book o) c.in-Some.is ∙ sym c.in_ok-begin-in-Some.ensures.book in
    subst (λ (b : Book). OnErr c.add.result ((now ≡ book) ⊎ (now ≡ b))) (sym room)
    (left_ready c.add.result now book mid (with_capture mid (stored_in c.args.stored)) c.add.ensures.book)

pub returns-in_ok-begin-in-Some-clause-place : goal.returns-in_ok-begin-in-Some-clause-place
returns-in_ok-begin-in-Some-clause-place g c =
    let book : Book = book_of c.args.self.now.held in
    let mid : Book = book_of c.begin.new.self.held in
    let room : with_prepared book c.args.prepared ≡ mid = ap (λ (o : Option Prepared). with_prepared book o) c.in-Some.is ∙ sym c.in_ok-begin-in-Some.ensures.book in
    let ends : end_with c.args.self.now c.args.prepared ≡ last_len c.begin.new.self.journal =
    ap (λ (o : Option Prepared). end_with c.args.self.now o) c.in-Some.is ∙ sym c.in_ok-begin-in-Some.ensures.last_len in
    let count : length (with_prepared book c.args.prepared).volumes ≡ volumes c.begin.new.self.journal =
    ap (λ (b : Book). length b.volumes) room ∙ sym c.begin.ensures.measured.count in
    subst (λ (many : ℕ). IfOk c.add.result (λ place. place ≡ (record { volume = many - 1; at = end_with c.args.self.now c.args.prepared; len = length c.args.group.now }))) (sym count)
    (subst (λ (end : ℕ). IfOk c.add.result (λ place. place ≡ (record { volume = volumes c.begin.new.self.journal - 1; at = end; len = length c.args.group.now }))) (sym ends) c.add.ensures.place)

pub returns-in_ok-begin-in-Some-clause-last_len : goal.returns-in_ok-begin-in-Some-clause-last_len
returns-in_ok-begin-in-Some-clause-last_len g c =
    let ends : end_with c.args.self.now c.args.prepared ≡ last_len c.begin.new.self.journal =
    ap (λ (o : Option Prepared). end_with c.args.self.now o) c.in-Some.is ∙ sym c.in_ok-begin-in-Some.ensures.last_len in
    let now : ℕ = last_len c.add.new.self.journal in
    subst (λ (end : ℕ). OnOk c.add.result (now ≡ end + length c.args.group.now)) (sym ends)
    (done_is c.add.result now (last_len c.begin.new.self.journal) (last_len c.begin.new.self.journal + length c.args.group.now) c.add.ensures.last_len)

pub returns-in_ok-begin-in-Some-clause-text : goal.returns-in_ok-begin-in-Some-clause-text
returns-in_ok-begin-in-Some-clause-text g c tells =
    let now : List (List ℕ) = texts g.D.Disk c.add.new.self.journal in
    let all : texts_with (texts g.D.Disk c.args.self.now.journal) c.args.prepared ≡ texts g.D.Disk c.begin.new.self.journal =
    ap (λ (o : Option Prepared). texts_with (texts g.D.Disk c.args.self.now.journal) o) c.in-Some.is ∙ sym (c.in_ok-begin-in-Some.ensures.texts tells) in
    subst (λ (t : List (List ℕ)). OnOk c.add.result (now ≡ with_more t c.args.group.now)) (sym all)
    (done_is c.add.result now (texts g.D.Disk c.begin.new.self.journal) (with_more (texts g.D.Disk c.begin.new.self.journal) c.args.group.now) (c.add.ensures.texts tells))

pub returns-in_ok-begin-in-Some-clause-texts_left : goal.returns-in_ok-begin-in-Some-clause-texts_left
returns-in_ok-begin-in-Some-clause-texts_left g c tells =
    let now : List (List ℕ) = texts g.D.Disk c.add.new.self.journal in
    let all : texts_with (texts g.D.Disk c.args.self.now.journal) c.args.prepared ≡ texts g.D.Disk c.begin.new.self.journal =
    ap (λ (o : Option Prepared). texts_with (texts g.D.Disk c.args.self.now.journal) o) c.in-Some.is ∙ sym (c.in_ok-begin-in-Some.ensures.texts tells) in
    subst (λ (t : List (List ℕ)). OnErr c.add.result ((now ≡ texts g.D.Disk c.args.self.now.journal) ⊎ (now ≡ t))) (sym all)
    (left_ready c.add.result now (texts g.D.Disk c.args.self.now.journal) (texts g.D.Disk c.begin.new.self.journal) (with_more (texts g.D.Disk c.begin.new.self.journal) c.args.group.now) (c.add.ensures.texts tells))

-- ---- or to the last one
pub add-requires-in-None-clause-space : goal.add-requires-in-None-clause-space
add-requires-in-None-clause-space g c = subst (λ (o : Option Prepared). HasRoomFor c.args.self.now o) c.in-None.is c.requires.room

pub add-requires-in-None-clause-holds : goal.add-requires-in-None-clause-holds
add-requires-in-None-clause-holds g c = c.requires.holds

pub add-requires-in-None-clause-measured : goal.add-requires-in-None-clause-measured
add-requires-in-None-clause-measured g c = c.requires.measured

pub add-requires-in-None-clause-committed : goal.add-requires-in-None-clause-committed
add-requires-in-None-clause-committed g c = c.requires.committed

pub add-requires-in-None-clause-group : goal.add-requires-in-None-clause-group
add-requires-in-None-clause-group g c told =
    let book : Book = book_of c.args.self.now.held in
    let mid : Book = book_of c.args.self.now.held in
    let room : with_prepared book c.args.prepared ≡ mid = ap (λ (o : Option Prepared). with_prepared book o) c.in-None.is in
    subst (λ (b : Book). IsGroupText (with_capture b (stored_in c.args.stored)) (length (captures b)) c.args.group.now) room (c.requires.group told)

pub add-requires-in-None-clause-sound : goal.add-requires-in-None-clause-sound
add-requires-in-None-clause-sound g c told =
    let book : Book = book_of c.args.self.now.held in
    let mid : Book = book_of c.args.self.now.held in
    let room : with_prepared book c.args.prepared ≡ mid = ap (λ (o : Option Prepared). with_prepared book o) c.in-None.is in
    subst (λ (b : Book). IsSound (with_capture b (stored_in c.args.stored))) room (c.requires.sound told)

pub add-requires-in-None-clause-fits : goal.add-requires-in-None-clause-fits
add-requires-in-None-clause-fits g c =
    let ends : end_with c.args.self.now c.args.prepared ≡ last_len c.args.self.now.journal =
    ap (λ (o : Option Prepared). end_with c.args.self.now o) c.in-None.is in
    subst (λ (end : ℕ). end + length c.args.group.now < 2 ^ 62) ends c.requires.fits

pub returns-in-None-clause-stored : goal.returns-in-None-clause-stored
returns-in-None-clause-stored g c =
    let book : Book = book_of c.args.self.now.held in
    let mid : Book = book_of c.args.self.now.held in
    let now : Book = book_of c.add-in-None.new.self.held in
    let room : with_prepared book c.args.prepared ≡ mid = ap (λ (o : Option Prepared). with_prepared book o) c.in-None.is in
    subst (λ (b : Book). OnOk c.add-in-None.result (now ≡ with_capture b (stored_in c.args.stored))) (sym room)
    (done_is c.add-in-None.result now mid (with_capture mid (stored_in c.args.stored)) c.add-in-None.ensures.book)

pub returns-in-None-clause-left : goal.returns-in-None-clause-left
returns-in-None-clause-left g c =
    let book : Book = book_of c.args.self.now.held in
    let mid : Book = book_of c.args.self.now.held in
    let now : Book = book_of c.add-in-None.new.self.held in
    let room : with_prepared book c.args.prepared ≡ mid = ap (λ (o : Option Prepared). with_prepared book o) c.in-None.is in
    subst (λ (b : Book). OnErr c.add-in-None.result ((now ≡ book) ⊎ (now ≡ b))) (sym room)
    (left_ready c.add-in-None.result now book mid (with_capture mid (stored_in c.args.stored)) c.add-in-None.ensures.book)

pub returns-in-None-clause-place : goal.returns-in-None-clause-place
returns-in-None-clause-place g c =
    let book : Book = book_of c.args.self.now.held in
    let mid : Book = book_of c.args.self.now.held in
    let room : with_prepared book c.args.prepared ≡ mid = ap (λ (o : Option Prepared). with_prepared book o) c.in-None.is in
    let ends : end_with c.args.self.now c.args.prepared ≡ last_len c.args.self.now.journal =
    ap (λ (o : Option Prepared). end_with c.args.self.now o) c.in-None.is in
    let count : length (with_prepared book c.args.prepared).volumes ≡ volumes c.args.self.now.journal =
    ap (λ (b : Book). length b.volumes) room ∙ sym c.requires.measured.count in
    subst (λ (many : ℕ). IfOk c.add-in-None.result (λ place. place ≡ (record { volume = many - 1; at = end_with c.args.self.now c.args.prepared; len = length c.args.group.now }))) (sym count)
    (subst (λ (end : ℕ). IfOk c.add-in-None.result (λ place. place ≡ (record { volume = volumes c.args.self.now.journal - 1; at = end; len = length c.args.group.now }))) (sym ends) c.add-in-None.ensures.place)

pub returns-in-None-clause-last_len : goal.returns-in-None-clause-last_len
returns-in-None-clause-last_len g c =
    let ends : end_with c.args.self.now c.args.prepared ≡ last_len c.args.self.now.journal =
    ap (λ (o : Option Prepared). end_with c.args.self.now o) c.in-None.is in
    let now : ℕ = last_len c.add-in-None.new.self.journal in
    subst (λ (end : ℕ). OnOk c.add-in-None.result (now ≡ end + length c.args.group.now)) (sym ends)
    (done_is c.add-in-None.result now (last_len c.args.self.now.journal) (last_len c.args.self.now.journal + length c.args.group.now) c.add-in-None.ensures.last_len)

pub returns-in-None-clause-text : goal.returns-in-None-clause-text
returns-in-None-clause-text g c tells =
    let now : List (List ℕ) = texts g.D.Disk c.add-in-None.new.self.journal in
    let all : texts_with (texts g.D.Disk c.args.self.now.journal) c.args.prepared ≡ texts g.D.Disk c.args.self.now.journal =
    ap (λ (o : Option Prepared). texts_with (texts g.D.Disk c.args.self.now.journal) o) c.in-None.is in
    subst (λ (t : List (List ℕ)). OnOk c.add-in-None.result (now ≡ with_more t c.args.group.now)) (sym all)
    (done_is c.add-in-None.result now (texts g.D.Disk c.args.self.now.journal) (with_more (texts g.D.Disk c.args.self.now.journal) c.args.group.now) (c.add-in-None.ensures.texts tells))

pub returns-in-None-clause-texts_left : goal.returns-in-None-clause-texts_left
returns-in-None-clause-texts_left g c tells =
    let now : List (List ℕ) = texts g.D.Disk c.add-in-None.new.self.journal in
    let all : texts_with (texts g.D.Disk c.args.self.now.journal) c.args.prepared ≡ texts g.D.Disk c.args.self.now.journal =
    ap (λ (o : Option Prepared). texts_with (texts g.D.Disk c.args.self.now.journal) o) c.in-None.is in
    subst (λ (t : List (List ℕ)). OnErr c.add-in-None.result ((now ≡ texts g.D.Disk c.args.self.now.journal) ⊎ (now ≡ t))) (sym all)
    (left_ready c.add-in-None.result now (texts g.D.Disk c.args.self.now.journal) (texts g.D.Disk c.args.self.now.journal) (with_more (texts g.D.Disk c.args.self.now.journal) c.args.group.now) (c.add-in-None.ensures.texts tells))

pub returns-in-None-clause-holds : goal.returns-in-None-clause-holds
returns-in-None-clause-holds g c = c.add-in-None.ensures.holds

pub returns-in-None-clause-measured : goal.returns-in-None-clause-measured
returns-in-None-clause-measured g c = c.add-in-None.ensures.measured

pub returns-in-None-clause-others : goal.returns-in-None-clause-others
returns-in-None-clause-others g c = c.add-in-None.ensures.others

pub returns-in-None-clause-faults : goal.returns-in-None-clause-faults
returns-in-None-clause-faults g c = c.add-in-None.ensures.faults

-- ---- what is left on the disk

pub returns-in_err-begin-in-Some-clause-writes : goal.returns-in_err-begin-in-Some-clause-writes
returns-in_err-begin-in-Some-clause-writes g c =
    let book : Book = book_of c.args.self.now.held in
    let old = disk_of c.args.self.now.journal in
    let new = disk_of c.begin.new.self.journal in
    let room : Book = with_volume book c.in-Some.prepared.shadow.born in
    subst (λ (o : Option Prepared). Writes (muted c.args.told.now.value g.D.Disk) old new (books_as book (with_prepared book o) (with_capture (with_prepared book o) (stored_in c.args.stored))
    (book_of c.begin.new.self.held)) c.from_residual.result) (sym c.in-Some.is)
    (subst (λ (b : Book). Writes (muted c.args.told.now.value g.D.Disk) old new (books_as book room (with_capture room (stored_in c.args.stored)) b) c.from_residual.result) (sym c.in_err-begin-in-Some.ensures.book)
    (writes_none (muted c.args.told.now.value g.D.Disk) (laws_muted g.D.Disk c.args.told.now.value (disk_laws g)) old new book room (with_capture room (stored_in c.args.stored)) c.in_err-begin-in-Some.field-0.0
    c.from_residual.result c.from_residual.ensures.0 c.in_err-begin-in-Some.ensures.makes))

pub returns-in_ok-begin-in-Some-clause-writes : goal.returns-in_ok-begin-in-Some-clause-writes
returns-in_ok-begin-in-Some-clause-writes g c =
    let book : Book = book_of c.args.self.now.held in
    let old = disk_of c.args.self.now.journal in
    let mid = disk_of c.begin.new.self.journal in
    let new = disk_of c.add.new.self.journal in
    let room : Book = with_volume book c.in-Some.prepared.shadow.born in
    let after : Book = with_capture room (stored_in c.args.stored) in
    let now : Book = book_of c.add.new.self.held in
    let is_room : book_of c.begin.new.self.held ≡ room = c.in_ok-begin-in-Some.ensures.book in
    subst (λ (o : Option Prepared). Writes (muted c.args.told.now.value g.D.Disk) old new (books_as book (with_prepared book o) (with_capture (with_prepared book o) (stored_in c.args.stored))
    now) c.add.result) (sym c.in-Some.is)
    (writes_behind (muted c.args.told.now.value g.D.Disk) (laws_muted g.D.Disk c.args.told.now.value (disk_laws g)) old mid new book after now c.in-Some.prepared.shadow.born c.in_ok-begin-in-Some.field-0 c.add.result
    c.in_ok-begin-in-Some.ensures.makes
    (subst (λ (b : Book). Makes (muted c.args.told.now.value g.D.Disk) mid new b (with_capture b (stored_in c.args.stored)) c.add.result) is_room c.add.ensures.makes)
    (subst (λ (b : Book). OnErr c.add.result (now ≡ b)) is_room
    (stays_refused c.add.result now (book_of c.begin.new.self.held) (with_capture (book_of c.begin.new.self.held) (stored_in c.args.stored)) c.add.ensures.book)))

pub returns-in-None-clause-writes : goal.returns-in-None-clause-writes
returns-in-None-clause-writes g c =
    let book : Book = book_of c.args.self.now.held in
    let old = disk_of c.args.self.now.journal in
    let new = disk_of c.add-in-None.new.self.journal in
    let now : Book = book_of c.add-in-None.new.self.held in
    subst (λ (o : Option Prepared). Writes (muted c.args.told.now.value g.D.Disk) old new (books_as book (with_prepared book o) (with_capture (with_prepared book o) (stored_in c.args.stored))
    now) c.add-in-None.result) (sym c.in-None.is)
    (writes_at (muted c.args.told.now.value g.D.Disk) (laws_muted g.D.Disk c.args.told.now.value (disk_laws g)) old new book (with_capture book (stored_in c.args.stored)) now c.add-in-None.result c.add-in-None.ensures.makes
    (stays_refused c.add-in-None.result now book (with_capture book (stored_in c.args.stored)) c.add-in-None.ensures.book))

pub returns-in_err-begin-in-Some-clause-bytes : goal.returns-in_err-begin-in-Some-clause-bytes
returns-in_err-begin-in-Some-clause-bytes g c tells =
    let old = c.args.self.now.journal in
    let new = c.begin.new.self.journal in
    let room : List (List ℕ) = texts g.D.Disk old ++ c.in-Some.prepared.info ∷ [] in
    subst (λ (o : Option Prepared). WritesTexts g.D.Disk old new (texts_as (texts_with (texts g.D.Disk old) o) (with_more (texts_with (texts g.D.Disk old) o) c.args.group.now))
    c.from_residual.result) (sym c.in-Some.is)
    (texts_none g.D.Disk old new room (with_more room c.args.group.now) c.in_err-begin-in-Some.field-0.0 c.from_residual.result c.from_residual.ensures.0
    (c.in_err-begin-in-Some.ensures.change tells))

pub returns-in_ok-begin-in-Some-clause-bytes : goal.returns-in_ok-begin-in-Some-clause-bytes
returns-in_ok-begin-in-Some-clause-bytes g c tells =
    let old = c.args.self.now.journal in
    let new = c.add.new.self.journal in
    let room : List (List ℕ) = texts g.D.Disk old ++ c.in-Some.prepared.info ∷ [] in
    subst (λ (o : Option Prepared). WritesTexts g.D.Disk old new (texts_as (texts_with (texts g.D.Disk old) o) (with_more (texts_with (texts g.D.Disk old) o) c.args.group.now))
    c.add.result) (sym c.in-Some.is)
    (texts_behind g.D.Disk old c.begin.new.self.journal new room c.args.group.now c.in_ok-begin-in-Some.field-0 c.add.result
    (c.in_ok-begin-in-Some.ensures.change tells) (c.add.ensures.change tells))

pub returns-in-None-clause-bytes : goal.returns-in-None-clause-bytes
returns-in-None-clause-bytes g c tells =
    let old = c.args.self.now.journal in
    let new = c.add-in-None.new.self.journal in
    subst (λ (o : Option Prepared). WritesTexts g.D.Disk old new (texts_as (texts_with (texts g.D.Disk old) o) (with_more (texts_with (texts g.D.Disk old) o) c.args.group.now))
    c.add-in-None.result) (sym c.in-None.is)
    (texts_at g.D.Disk old new (with_more (texts g.D.Disk old) c.args.group.now) c.add-in-None.result (c.add-in-None.ensures.change tells))
