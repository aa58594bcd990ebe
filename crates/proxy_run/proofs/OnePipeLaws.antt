-- What `pipe` answers is told by what it is given.
use Rattle.std.proofs.Common.{◌≡◌, ◌≢◌, ◌⊎◌, inl, inr, ℕ, Bool, List, Option, Some, None, true, false, IsTrue, refl, sym, ◌∙◌, ap, subst}
use Rattle.std.proofs.lemmas.List.{append_cancel_left}
use Rattle.archive_shelf.specs.Contents.{Contents}
use Rattle.archive_shelf.specs.Openings.{SameBook}
use Rattle.capture.specs.declared.book.Book.{Book}
use Rattle.capture.specs.declared.site.Site.{Site}
use Rattle.index_entry.specs.OfBook.{AreEntries, BooksHaveOneListOfEntries}
use Rattle.disk_model.specs.declared.disk.Disk.{Ghosts as Disks}
use Rattle.outside.specs.Records.{Links}
use Rattle.outside.specs.declared.dialer.Transcript.{Transcript}
use Rattle.outside.specs.declared.gate.Heard.{Heard}
use Rattle.archive_core.specs.Holdings.{Holdings, contents_of}
use Rattle.archive_reopening.specs.Known.{by_checkpoints, told_at}
use Rattle.archive_shelf.specs.declared.depth.Depth.TheVariants.{Checkpoints}
use Rattle.proxy_run.proofs.PipeLaws.{faults_before, faults_behind}
use Rattle.proxy_run.proofs.StatusLaws.{memory_told, said_by}
use Rattle.session.specs.Courses.{IsCourse, is_closed, lacks}
use Rattle.std.specs.Prelude.{IfSome}
use Rattle.std.proofs.lemmas.Bool.{false≢true}
use Rattle.command.proofs.SettlingLaws.{ready_consistent, ready_in, ready_known, ready_limits, ready_none, ready_tells}
use Rattle.command.specs.Objects.{Kinds, Objects}
use Rattle.proxy_run.specs.OnePipe.{PipesLeaveNoChoice, PipesWell}
use Rattle.command.specs.Settling.{OpensSettled}
use Rattle.proxy_run.specs.Pipes.{Pipes}
use Rattle.proxy_run.specs.Serving.{pipe_site, status_of}
use Rattle.command.specs.Gates.{unheard}
use Rattle.command.specs.declared.status.Status.{Status}
use Rattle.request_answer.specs.Gains.{gains_of}
use Rattle.session.specs.OneCourse.{AreOneCourse, CoursesEndOneWay, CoursesLeaveNoChoice, WentWell}
use Rattle.request_answer.specs.Requests.{IsUndecided}
use Rattle.session.specs.Stopping.{Course, Ends}
use Rattle.request_answer.specs.Traces.{View, view_of, terms_of}
use Rattle.session.specs.declared.served.Served.{Served}
use Rattle.session.specs.declared.served.Served.TheVariants as served
use Rattle.warc_journal.specs.Journals.{disk_of}

-- ---- an end

true_isnt_false : {P : Type 0} (c : Course) → lacks c.rounds ≡ true → lacks c.rounds ≡ false → P
true_isnt_false c t f = let bad : ⊥ = cc in absurd bad

-- where memory didn't run out, it didn't for a round
whole_of : (result : Served) (site : Site) (c : Course) (then now : Heard) → Ends result site c then now → result ≢ served.WantOfMemory → lacks c.rounds ≡ false
whole_of served.Done site c then now h other = h.1
whole_of served.ClientBroke site c then now h other = h.1
whole_of served.ClientEndedEarly site c then now h other = h.1
whole_of (served.ClientRefused refusal) site c then now h other = h.1
whole_of served.WantOfMemory site c then now h other = absurd (other refl)

-- and where the client's link didn't fail either, nothing that could be answered is left over
all_of : (result : Served) (site : Site) (c : Course) (then now : Heard) → Ends result site c then now → now.faults ≡ 0 → lacks c.rounds ≡ false
    → (is_closed c.served c.rounds ≡ true) ⊎ IsUndecided site c.rest
all_of served.Done site c then now h ok whole = elim h.3 [
  | inl closed ↦ inl closed.closed
  | inr (met, between, left) ↦ inr (inl between)
]
all_of served.ClientBroke site c then now h ok whole = absurd (h.0 ok)
all_of served.ClientEndedEarly site c then now h ok whole = inr (inr h.3)
all_of (served.ClientRefused refusal) site c then now h ok whole = inl h.3.closed
all_of served.WantOfMemory site c then now h ok whole = true_isnt_false c h.0 whole

-- ---- an archive that was opened twice

book_same : (a b : Book) → a.namespace ≡ b.namespace → a.volumes ≡ b.volumes → a ≡ b
book_same a b namespace volumes = λ i. record { namespace = namespace i; volumes = volumes i }

-- books that are the same as a third, and have one namespace, are one
both_same : (a b third : Book) → a.namespace ≡ b.namespace → SameBook a third → SameBook b third → a ≡ b
both_same a b third namespace (inl e) (inl d) = e ∙ sym d
both_same a b third namespace (inl e) (inr (none, empty)) =
    book_same a b namespace (ap (λ (x : Book). x.volumes) e ∙ empty ∙ sym none)
both_same a b third namespace (inr (none, empty)) (inl e) =
    book_same a b namespace (none ∙ sym (ap (λ (x : Book). x.volumes) e ∙ empty))
both_same a b third namespace (inr (none, empty)) (inr (nothing, e)) = book_same a b namespace (none ∙ sym nothing)

contents_same : (a b : Contents) → a.tells ≡ b.tells → a.seen ≡ b.seen → a.shown ≡ b.shown → a.mine ≡ b.mine → a.limits ≡ b.limits → a ≡ b
contents_same a b tells seen shown mine limits =
    λ i. record { tells = tells i; seen = seen i; shown = shown i; mine = mine i; limits = limits i }

known_same : (known : Option Book) (tells : Bool) (a b : Book) → IsTrue (told_at Checkpoints tells known) → a.namespace ≡ b.namespace
    → IfSome known (λ book. SameBook a book) → IfSome known (λ book. SameBook b book) → a ≡ b
known_same None tells a b told namespace same also = absurd (false≢true told)
known_same (Some book) tells a b told namespace same also = both_same a b book namespace same also

opened_same : {D : Type 0} (disks : Disks D) (known : Option Book) (namespace : List ℕ) (disk : D) (a b : Holdings D) → BooksHaveOneListOfEntries
    → IsTrue (told_at Checkpoints disks.tells known) → OpensSettled disks (by_checkpoints disk (Some namespace) known) a
    → OpensSettled disks (by_checkpoints disk (Some namespace) known) b → contents_of a ≡ contents_of b
opened_same disks known namespace disk a b one tells h k =
    let first : IsTrue a.told = ready_tells disks h ∙ tells in
    let second : IsTrue b.told = ready_tells disks k ∙ tells in
    let seen : a.book ≡ b.book =
    known_same known disks.tells a.book b.book tells (ready_in disks h ∙ sym (ready_in disks k)) (ready_known disks h first) (ready_known disks k second) in
    let shown : (contents_of a).shown ≡ (contents_of b).shown =
    one a.book (contents_of a).shown (contents_of b).shown ((ready_consistent disks h).shown refl first)
    (subst (λ (x : Book). AreEntries x (contents_of b).shown) (sym seen) ((ready_consistent disks k).shown refl second)) in
    contents_same (contents_of a) (contents_of b) (ready_tells disks h ∙ sym (ready_tells disks k)) seen shown (ready_none disks h ∙ sym (ready_none disks k))
    (ready_limits disks h ∙ sym (ready_limits disks k))

-- ---- two connections

module _ {D G L P N M C O : Type 0} (kinds : Kinds D G L P N M C O) where
  -- what is seen of an archive with these contents, by what the objects tell
  abbrev seen_by : Objects D G (N × C) O → Contents → View
  seen_by objects now = view_of now (kinds.dialers.faults objects.crew.0) (kinds.disks.faults objects.disk)

  module _ {known : Option Book} {namespace : List ℕ} {was is : Objects D G (N × C) O} {status : Status} (piped : Pipes kinds known (Some namespace) was is status)
      (a : PipesWell kinds piped) where
    abbrev course_of : Course
    course_of = record { served = 0; rounds = a.served.one.connection.rounds; rest = a.served.one.connection.rest }

    whole : lacks a.served.one.connection.rounds ≡ false
    whole =
        whole_of a.served.one.served pipe_site course_of unheard a.served.one.heard a.served.one.connection.ends
        (λ e. a.memory (memory_told piped.closed.answer piped.said status piped.closed.status_is (a.served.one.status_is ∙ ap status_of e)))

    -- what isn't want of memory is the connection's status
    pub said : status ≡ piped.said
    said = said_by piped.closed.answer piped.said status piped.closed.status_is a.memory

    went_well : WentWell (terms_of pipe_site true (contents_of piped.before)) (seen_by was (contents_of piped.before)) course_of
        (seen_by (record is { disk = was.disk }) (contents_of piped.after))
    went_well = record {
      lawful = subst (λ (n : ℕ). IsCourse (terms_of pipe_site true (contents_of piped.before)) 0 (view_of (contents_of piped.before) (kinds.dialers.faults was.crew.0) n)
          a.served.one.connection.rounds (view_of (contents_of piped.after) (kinds.dialers.faults is.crew.0) (kinds.disks.faults was.disk))) (faults_before kinds piped a.disk.same)
          (subst (λ (n : ℕ). IsCourse (terms_of pipe_site true (contents_of piped.before)) 0
          (view_of (contents_of piped.before) (kinds.dialers.faults was.crew.0) (kinds.disks.faults (disk_of piped.before.journal)))
          a.served.one.connection.rounds (view_of (contents_of piped.after) (kinds.dialers.faults is.crew.0) n)) (faults_behind kinds piped a.disk.same)
          a.served.one.connection.lawful);
      memory = whole;
      dialer = a.dialer.same;
      dialer_counts = a.dialer.below;
      disk = refl;
      disk_counts = a.disk.below;
      all = all_of a.served.one.served pipe_site course_of unheard a.served.one.heard a.served.one.connection.ends a.client whole;
    }

pub pipes_one_way : {D G L P N M C O : Type 0} (kinds : Kinds D G L P N M C O) → BooksHaveOneListOfEntries → CoursesLeaveNoChoice → CoursesEndOneWay
    → PipesLeaveNoChoice kinds
pipes_one_way kinds entries one ends known namespace was is other status end piped also a b tells clock_tells same =
    let mine = a.served.one.connection in
    let its = b.served.one.connection in
    let first : Course = course_of kinds piped a in
    let second : Course = course_of kinds also b in
    let now : Contents = contents_of piped.before in
    let opened : contents_of also.before ≡ now =
    opened_same kinds.disks known namespace was.disk also.before piped.before entries tells also.opened piped.opened in
    let well : WentWell (terms_of pipe_site true now) (seen_by kinds was now) second (seen_by kinds (record other { disk = was.disk }) (contents_of also.after)) =
    subst (λ (x : Contents). WentWell (terms_of pipe_site true x) (seen_by kinds was x) second (seen_by kinds (record other { disk = was.disk }) (contents_of also.after))) opened
    (went_well kinds also b) in
    let courses : AreOneCourse first second (seen_by kinds (record is { disk = was.disk }) (contents_of piped.after))
    (seen_by kinds (record other { disk = was.disk }) (contents_of also.after)) =
    one (terms_of pipe_site true now) (seen_by kinds was now) first second (seen_by kinds (record is { disk = was.disk }) (contents_of piped.after))
    (seen_by kinds (record other { disk = was.disk }) (contents_of also.after)) refl
    (ready_tells kinds.disks piped.opened ∙ tells) (ready_consistent kinds.disks piped.opened).shown (went_well kinds piped a) well (record {
      served = refl;
      bytes = sym mine.given ∙ same.bytes ∙ its.given;
      times = append_cancel_left (kinds.clocks.answers was.crew.1) (gains_of mine.rounds).times (gains_of its.rounds).times
          (sym (mine.asked clock_tells a.clock) ∙ same.times ∙ its.asked clock_tells b.clock);
      transcripts = append_cancel_left (kinds.dialers.links was.crew.0).log (gains_of mine.rounds).transcripts (gains_of its.rounds).transcripts
          (sym (ap (λ (l : Links Transcript). l.log) mine.logged) ∙ same.transcripts ∙ ap (λ (l : Links Transcript). l.log) its.logged);
    }) in
    let alike = ends pipe_site first second (seen_by kinds (record is { disk = was.disk }) (contents_of piped.after))
    (seen_by kinds (record other { disk = was.disk }) (contents_of also.after))
    a.served.one.served b.served.one.served unheard a.served.one.heard b.served.one.heard courses (whole kinds piped a) (whole kinds also b)
    mine.ends its.ends a.client b.client in
    record {
      written = alike.1;
      seen = courses.book;
      shown = courses.shown;
      status_is = said kinds piped a ∙ a.served.one.status_is ∙ ap status_of alike.0 ∙ sym b.served.one.status_is ∙ sym (said kinds also b);
    }
