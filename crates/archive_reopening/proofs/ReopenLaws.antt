-- What may be opened of an archive that was opened, and what isn't refused.
use Rattle.std.proofs.Common.{◌≡◌, ℕ, ◌-◌, ◌<◌, ◌≤◌, Bool, IsTrue, List, [], length, Option, Some, None, Result, Ok, Err, refl, sym, ap, subst, ◌∙◌, inl, ⊎_elim, arith}
use Rattle.std.specs.Prelude.{Contains, IfErr, IfOk, IfSome}
use Rattle.std.specs.List.{range_with_len}
use Rattle.std.proofs.lemmas.Bool.{cases_lt}
use Rattle.capture.specs.Captures.{captures}
use Rattle.capture.specs.declared.book.Book.{Book}
use Rattle.capture.specs.declared.limits.Limits.{Limits}
use Rattle.index_entry.specs.Facts.{Facts}
use Rattle.index_entry.specs.OfBook.{AreEntries}
use Rattle.disk_model.specs.Image.{Image}
use Rattle.disk_model.specs.declared.disk.Disk.{Ghosts}
use Rattle.warc_journal.specs.Extents.{warc_files}
use Rattle.warc_journal.specs.Journals.{Rests, disk_of, texts}
use Rattle.warc_journal.specs.declared.journal.Journal.{Journal}
use Rattle.warc_text.proofs.BookLaws.{files_stand_for_no_volume}
use Rattle.warc_text.specs.Sound.{IsSound}
use Rattle.warc_text.specs.StandsFor.{IdsDifferIn, StandsFor}
use Rattle.archive_shelf.specs.Openings.{ImageStandsFor, IsState, SameBook}
use Rattle.archive_shelf.specs.declared.depth.Depth.{Depth}
use Rattle.archive_shelf.specs.declared.depth.Depth.TheVariants as depths
use Rattle.archive_shelf.specs.declared.fault.ReopenFault.{ReopenFault}
use Rattle.archive_shelf.specs.declared.fault.ReopenFault.TheVariants as faults
use Rattle.archive_reopening.proofs.NamespaceLaws.{one_namespace}
use Rattle.archive_volumes.proofs.ChangeLaws.{DiskLaws, laws_muted, moment_told, now_image, one_of, quiet_by, stands}
use Rattle.archive_opening.specs.Opening.{HoldsOther, IsDamageIn, IsOpened, IsOtherIn, IsOutside, IsUsable}
use Rattle.archive_gathering.specs.Refusing.{CountsFault, IsCause}
use Rattle.archive_gathering.specs.Gathering.{IsIn}
use Rattle.archive_volumes.specs.Held.{book_of}
use Rattle.archive_core.specs.Holdings.{Holdings, contents_of}
use Rattle.archive_opening.specs.Opening.{HoldsOther, IsDamageIn, IsOtherIn, IsOutside}
use Rattle.archive_gathering.specs.Refusing.{CountsFault, IsCause}
use Rattle.archive_gathering.specs.Gathering.{IsIn}
use Rattle.archive_reopening.specs.Reopening.{IsNotOpened, IsReopened}
use Rattle.archive_reopening.specs.Making.{IsMadeOf, NamesCapture}
use Rattle.archive_reopening.specs.Known.{IsLined, IsNotOpenedKnown, IsReopenedKnown, MayBeKnown, opening_of, told_at}
use Rattle.archive_core.specs.Told.{told_of}
use Rattle.archive_volumes.specs.Volumes.{muted}
use Rattle.archive_opening.specs.declared.opening.Opened.{Opened}
use Rattle.archive_opening.specs.Telling.{IsAskedFor, IsReadWhole}

-- ---- what isn't refused

-- what files stand for isn't in another namespace
not_other : (files : List (List ℕ)) (asked : Option (List ℕ)) (other : List ℕ) → HoldsOther files asked other → (book : Book) → IsSound book
    → StandsFor files book → IsAskedFor asked book → ⊥
not_other files None other is book sound for its = is.asked_for refl
not_other files (Some namespace) other is book sound for its = ⊎_elim
    (λ (some : 0 < length book.volumes).
    let same : book.namespace ≡ is.book.namespace = one_namespace files book is.book sound is.sound for is.for some is.some in
    is.differs namespace refl (sym is.namespace ∙ sym same ∙ its namespace refl))
    (λ (none : length book.volumes ≤ 0).
    let empty : length is.book.volumes ≡ 0 = files_stand_for_no_volume files book is.book for is.for (omega (arith, none)) in
    absurd (omega (arith, empty, is.some)))
    (cases_lt 0 (length book.volumes))

outside : (files : List (List ℕ)) (asked : Option (List ℕ)) (fault : ReopenFault) → IsDamageIn files fault → IsOtherIn files asked fault
    → (book : Book) → IsSound book → StandsFor files book → IsAskedFor asked book → IsOutside fault
outside files asked (faults.Damaged kind file place) damage other book sound for its = damage.1 book sound for
outside files asked (faults.OtherNamespace ns) damage other book sound for its = not_other files asked ns other book sound for its
outside files asked faults.DiskFault damage other book sound for its = tt
outside files asked faults.Memory damage other book sound for its = tt

-- ---- what may be opened of it

whole_apart : depths.Whole ≡ depths.Checkpoints → ⊥
whole_apart e = cc

none_mine : (n m : ℕ) → n ≡ m → range_with_len n (m - n) ≡ []
none_mine n m same = let none : m - n ≡ 0 = omega (arith, same) in ap (range_with_len n) none

-- the entries of a book tell the targets and dates of its captures
names_by : (book : Book) (entries : List Facts) → AreEntries book entries → (entry : Facts) → Contains entries entry → NamesCapture book entry
names_by book entries are entry has =
    let of = are.of_book.each entry has in
    (of.group.stored, of.group.placed, of.uri_is, of.date_is)

-- what an archive is made of, by whether its book is told
pub record IsBasis {D : Type 0} (d : Ghosts D) (disk : D) (asked : Option (List ℕ)) (told : Bool) (opened : Opened D) : Type 0 where
  pub usable : IsUsable d told opened
  pub stands : IsTrue told → StandsFor (warc_files (d.reading disk)) (book_of opened.gathered.held)
  pub entries : IsTrue told → AreEntries (book_of opened.gathered.held) opened.gathered.entries.items
  pub in_namespace : IsIn asked (book_of opened.gathered.held)
  pub rests : IsTrue d.tells → Rests d disk (disk_of opened.journal)
  pub faults : d.faults (disk_of opened.journal) ≡ d.faults disk

-- that of volumes which were read
pub basis_of : {D : Type 0} (d : Ghosts D) (disk : D) (asked : Option (List ℕ)) (opened : Opened D) → IsOpened d disk asked opened
    → IsBasis d disk asked d.tells opened
basis_of d disk asked opened is = record {
  usable = is.usable;
  stands = is.stands;
  entries = λ so. is.entries;
  in_namespace = is.in_namespace;
  rests = is.rests;
  faults = is.faults;
}

module _ {D : Type 0} (d : Ghosts D) (laws : DiskLaws d) (disk : D) (asked : Option (List ℕ)) (limits : Limits) where
  module _ (told : Bool) (opened : Opened D) (is : IsBasis d disk asked told opened) where
    module _ (held : Holdings D) (made : IsMadeOf opened limits told held) where
      rests_to : IsTrue d.tells → Rests d disk (disk_of held.journal)
      rests_to so = subst (λ (j : Journal D). Rests d disk (disk_of j)) (sym made.journal_is) (is.rests so)

      -- each image that is left stands for the book that was opened
      for_book : IsTrue told → (image : Image) → d.images (disk_of held.journal) image → ImageStandsFor image held.book
      for_book so image left = subst (ImageStandsFor image) (sym made.book_is)
          (stands (book_of opened.gathered.held) (texts d opened.journal) image (is.usable.texts_are so) (is.usable.sound so)
          (is.usable.left (is.usable.tells so) image (subst (λ (j : Journal D). d.images (disk_of j) image) made.journal_is left)))

      sound_by : IsTrue told → IsSound held.book
      sound_by so = subst IsSound (sym made.book_is) (is.usable.sound so)

      stands_by : IsTrue told → StandsFor (warc_files (d.reading disk)) held.book
      stands_by so = subst (StandsFor (warc_files (d.reading disk))) (sym made.book_is) (is.stands so)

      one_by : IsTrue told → (book : Book) → IsSound book → IdsDifferIn book → StandsFor (warc_files (d.reading disk)) book → SameBook held.book book
      one_by so book sound ids for = one_of (d.reading disk) held.book book (record { for = stands_by so; sound = sound_by so })
          (record { for = for; sound = sound }) ids

      covered_by : (told_of d held).crash.covered (told_of d held).crash.moment
      covered_by so image left = (
        held.book,
        for_book (sym made.told_is ∙ so) image (laws.now_only (disk_of held.journal) image
            (subst (λ (t : ℕ). d.images_since (disk_of held.journal) t image) (moment_told (muted held.told d) (disk_of held.journal) so) left)),
      )

      state_by : IdsDifferIn held.book → IsState (told_of d held).crash held.book None
      state_by ids x o = inl (one_of o.1 x held.book o.3
          (for_book (sym made.told_is ∙ o.0) o.1 (now_image (muted held.told d) (laws_muted d held.told laws) (disk_of held.journal) x o)) ids)

      in_it : IsIn asked held.book
      in_it = subst (IsIn asked) (sym made.book_is) is.in_namespace

      faults_to : d.faults (disk_of held.journal) ≡ d.faults disk
      faults_to = ap (λ (j : Journal D). d.faults (disk_of j)) made.journal_is ∙ is.faults

      -- read whole
      reopened_as : told ≡ d.tells → IsSound (book_of opened.gathered.held)
          → AreEntries (book_of opened.gathered.held) opened.gathered.entries.items → IsReopened d disk asked limits held
      reopened_as same sound entries = record {
        sound = subst IsSound (sym made.book_is) sound;
        stands = λ so. stands_by (same ∙ so);
        one = λ so. one_by (same ∙ so);
        in_namespace = in_it;
        shown = made.shown entries;
        mine = none_mine held.found (length (captures held.book)) made.found;
        limits_are = made.limits_are;
        told_is = made.told_is ∙ same;
        rests = rests_to;
        quiet = quiet_by d laws disk (disk_of held.journal) rests_to;
        faults = faults_to;
        only = λ so. for_book (same ∙ so);
        covered = covered_by;
        state = state_by;
      }

      -- as deep as that, where what is told goes with the depth
      pub known_as : (depth : Depth) (known : Option Book) → told ≡ told_at depth d.tells known → (IsTrue told → IfSome known (λ book. SameBook held.book book))
          → (depth ≡ depths.Checkpoints → IsLined d disk held)
          → (IsTrue d.tells → IsReadWhole (d.reading disk) → IsReopened d disk asked limits (record held { told = d.tells }))
          → IsReopenedKnown d (opening_of disk depth asked known) limits held
      known_as depth known at same lined unsettled =
          let to : IsTrue held.told → IsTrue told = λ so. sym made.told_is ∙ so in
          record {
            told_is = made.told_is ∙ at;
            whole = λ so. reopened_as (to so ∙ sym (is.usable.tells (to so))) (is.usable.sound (to so)) (is.entries (to so));
            known_is = λ so. same (to so);
            unsettled = unsettled;
            named = made.named;
            in_namespace = in_it;
            mine = none_mine held.found (length (captures held.book)) made.found;
            limits_are = made.limits_are;
            rests = rests_to;
            quiet = quiet_by d laws disk (disk_of held.journal) rests_to;
            faults = faults_to;
            lined = lined;
          }

    -- without memory the disk comes back as it was read
    refused_as : (refused : ReopenFault × D) → refused ≡ (faults.Memory, disk_of opened.journal) → IsNotOpened d disk asked refused
    refused_as refused same = subst (IsNotOpened d disk asked) (sym same) (record {
      cause = tt;
      damage = λ told. tt;
      other = λ told. tt;
      complete = λ told book sound for its. tt;
      rests = is.rests;
      quiet = quiet_by d laws disk (disk_of opened.journal) is.rests;
      faults = is.faults;
    })

    pub no_memory : (result : Result (Holdings D) (ReopenFault × D)) → IfErr result (λ refused. refused ≡ (faults.Memory, disk_of opened.journal))
        → IfErr result (IsNotOpened d disk asked)
    no_memory (Ok held) same = tt
    no_memory (Err refused) same = refused_as refused same

  -- of volumes which were read, whatever is told: as if it were told where the disk tells
  pub as_read : (told : Bool) (opened : Opened D) → IsOpened d disk asked opened → (held : Holdings D) → IsMadeOf opened limits told held
      → IsReopened d disk asked limits (record held { told = d.tells })
  as_read told opened is held made =
      reopened_as d.tells opened (basis_of d disk asked opened is) (record held { told = d.tells }) (record {
        journal_is = made.journal_is;
        book_is = made.book_is;
        spots_are = made.spots_are;
        shown = made.shown;
        named = made.named;
        found = made.found;
        limits_are = made.limits_are;
        told_is = refl;
        lined = made.lined;
      }) refl is.sound is.entries

  pub reopened : (opened : Opened D) → IsOpened d disk asked opened → (result : Result (Holdings D) (ReopenFault × D))
      → IfOk result (IsMadeOf opened limits d.tells) → IfOk result (IsReopened d disk asked limits)
  reopened opened is (Ok held) made = reopened_as d.tells opened (basis_of d disk asked opened is) held made refl is.sound is.entries
  reopened opened is (Err refused) made = tt

  -- what reading the volumes refuses
  pub not_opened : (refused : ReopenFault × D) → IsCause asked refused.0 → (IsTrue d.tells → IsDamageIn (warc_files (d.reading disk)) refused.0)
      → (IsTrue d.tells → IsOtherIn (warc_files (d.reading disk)) asked refused.0) → (IsTrue d.tells → Rests d disk refused.1)
      → CountsFault (d.faults disk) (d.faults refused.1) refused.0 → IsNotOpened d disk asked refused
  not_opened refused cause damage other rests count = record {
    cause = cause;
    damage = damage;
    other = other;
    complete = λ told book sound for its. outside (warc_files (d.reading disk)) asked refused.0 (damage told) (other told) book sound for its;
    rests = rests;
    quiet = quiet_by d laws disk refused.1 rests;
    faults = count;
  }

  -- ---- where its book may be known

  module _ (known : Option Book) where
    -- read whole
    pub known_whole : MayBeKnown d disk asked known → (result : Result (Holdings D) (ReopenFault × D)) → IfOk result (IsReopened d disk asked limits)
        → IfOk result (IsReopenedKnown d (opening_of disk depths.Whole asked known) limits)
    known_whole may (Ok held) is = record {
      told_is = is.told_is;
      whole = λ so. is;
      known_is = λ so. by known may (sym is.told_is ∙ so);
      unsettled = λ so read. subst (λ (told : Bool). IsReopened d disk asked limits (record held { told = told })) is.told_is is;
      named = names_by held.book (contents_of held).shown is.shown;
      in_namespace = is.in_namespace;
      mine = is.mine;
      limits_are = is.limits_are;
      rests = is.rests;
      quiet = is.quiet;
      faults = is.faults;
      lined = λ other. absurd (whole_apart other);
    }
      where
        by : (k : Option Book) → MayBeKnown d disk asked k → IsTrue d.tells → IfSome k (λ book. SameBook held.book book)
        by None may so = tt
        by (Some book) may so = let it = may so in is.one so book it.stands.sound it.ids it.stands.for
    known_whole may (Err refused) is = tt

    pub not_known : MayBeKnown d disk asked known → (refused : ReopenFault × D) → IsNotOpened d disk asked refused
        → IsNotOpenedKnown d disk asked known refused
    not_known may refused not = record {
      cause = not.cause;
      complete = by known may;
      unsettled = λ so read. not;
      borne_out = λ so. inl (not.damage so, not.other so);
      rests = not.rests;
      quiet = not.quiet;
      faults = not.faults;
    }
      where
        by : (k : Option Book) → MayBeKnown d disk asked k → IfSome k (λ book. IsTrue d.tells → IsOutside refused.0)
        by None may = tt
        by (Some book) may = λ so. let it = may so in not.complete so book it.stands.sound it.stands.for it.asked_for

    pub none_known : MayBeKnown d disk asked known → (result : Result (Holdings D) (ReopenFault × D))
        → IfErr result (IsNotOpened d disk asked) → IfErr result (IsNotOpenedKnown d disk asked known)
    none_known may (Ok held) not = tt
    none_known may (Err refused) not = not_known may refused not
