-- One piece more: it is taken, or that is how following a source ends.
use Rattle.std.proofs.Common.{◌≡◌, ◌⊎◌, ℕ, ◌≤◌, Bool, true, false, IsTrue, List, [], ◌∷◌, length, Some, None, is_some, Result, Ok, Err, refl, sym, ap, subst, ◌∙◌, inl, inr, ⊎_elim, arith}
use Rattle.std.proofs.lemmas.Bool.{false≢true}
use Rattle.std.specs.Prelude.{⊤}
use Rattle.archive_core.specs.Holdings.{Holdings}
use Rattle.archive_core.specs.Looking.{OnlyLooks}
use Rattle.archive_core.specs.Told.{told_of}
use Rattle.archive_shelf.proofs.CallLaws.{no_more, opened_before}
use Rattle.archive_shelf.proofs.StoringLaws.{capture_grows, volume_grows}
use Rattle.archive_shelf.specs.Answers.{CountsIf}
use Rattle.archive_shelf.specs.Contents.{Contents}
use Rattle.archive_shelf.specs.Openings.{HasIds, IsEarlier, IsState, Keeps, KeepsCheckpoints, LeavesNoMore, Moves, SameBook, StaysCovered}
use Rattle.archive_shelf.specs.Storing.{with_capture}
use Rattle.archive_volumes.proofs.ChangeLaws.{DiskLaws, laws_muted}
use Rattle.archive_volumes.proofs.StoreLaws.{opens_earlier}
use Rattle.archive_volumes.specs.Volumes.{crash_of, muted}
use Rattle.archive_volumes.specs.Writing.{Writes, books_as}
use Rattle.capture.proofs.GrowthLaws.{growth_goes_on, grows_from_itself}
use Rattle.capture.specs.Captures.{captures}
use Rattle.capture.specs.Growth.{Grows}
use Rattle.capture.specs.declared.book.Book.{Book}
use Rattle.disk_model.specs.declared.disk.Disk.{Ghosts as Disks}
use Rattle.exchange.specs.declared.aim.Target.{Target}
use Rattle.exchange.specs.declared.fetching.FetchFault.TheVariants as fetches
use Rattle.outside.specs.Records.{Links}
use Rattle.outside.specs.declared.dialer.Transcript.{Transcript}
use Rattle.replica.proofs.StoodLaws.{stands_behind}
use Rattle.replica.proofs.TakeLaws.{IsTakenSo, IsUntakenSo, taken_so, untaken_so}
use Rattle.replica.specs.Following.{AreTaken, AsksNext, EndsBy, GoesOn, HasFollowed, IsRoomFor, KeepsWhatStood, Leads, MayLeave, OpensAtLast, OpensBehind, Step, TakesNext, is_disk_stop}
use Rattle.archive_pieces.specs.NextPieces.{Takes}
use Rattle.archive_taking.specs.TakingPieces.{TakesPiece}
use Rattle.replica.specs.declared.asking.SourceFault.{SourceFault}
use Rattle.replica.specs.declared.asking.SourceFault.TheVariants as sources
use Rattle.replica.specs.declared.following.Stop.{Stop}
use Rattle.replica.specs.declared.following.Stop.TheVariants.{Source, Piece}
use Rattle.archive_pieces.specs.declared.fault.PieceFault.{PieceFault}
use Rattle.archive_pieces.specs.declared.fault.PieceFault.TheVariants as pieces
use Rattle.warc_journal.specs.Journals.{disk_of}

room_grows : (book : Book) (piece : List ℕ) (room : Book) → IsRoomFor book piece room → Grows book room
room_grows book piece room (inl same) = subst (Grows book) (sym same) (grows_from_itself book)
room_grows book piece room (inr v) = subst (Grows book) (sym v.volume) (volume_grows book v.born)

-- what may be left, by the book with room and the book that takes the piece
may_leave : (told : Bool) (book : Book) (piece : List ℕ) (room after x : Book) → IsRoomFor book piece room → (IsTrue told → Takes book piece after)
    → SameBook x book ⊎ ((x ≡ room) ⊎ (x ≡ after)) → MayLeave told book piece x
may_leave told book piece room after x roomy takes (inl same) = inl same
may_leave told book piece room after x roomy takes (inr (inl e)) = inr (inl (subst (IsRoomFor book piece) (sym e) roomy))
may_leave told book piece room after x roomy takes (inr (inr e)) = inr (inr (λ t. subst (Takes book piece) (sym e) (takes t)))

is_other : {x y : Book} → Some y ≡ Some x → x ≡ y
is_other e = sym cc

module _ {D : Type 0} (d : Disks D) (source : Target) (tells : Bool) where
  same_goes_on : (now : Holdings D) → GoesOn d source tells now now
  same_goes_on now = record {
    grows = grows_from_itself now.book;
    same_limits = refl;
    same_told = refl;
    later = omega arith;
    covered = λ t le all. all;
    kept = λ files has. has;
    stands = λ so stood keeps. keeps;
  }

  goes_on_both : (was mid is : Holdings D) → GoesOn d source tells was mid → GoesOn d source tells mid is → GoesOn d source tells was is
  goes_on_both was mid is a b = record {
    grows = growth_goes_on was.book mid.book is.book a.grows b.grows;
    same_limits = b.same_limits ∙ a.same_limits;
    same_told = b.same_told ∙ a.same_told;
    later = omega (arith, a.later, b.later);
    covered = λ t le all. b.covered t (omega (arith, le, a.later)) (a.covered t le all);
    kept = λ files has. a.kept files (b.kept files has);
    stands = λ so stood keeps. b.stands so stood (a.stands so stood keeps);
  }

  -- ---- what is told after a call that writes

  abbrev WritesSo : (was is : Holdings D) (room after now : Book) → Result ℕ PieceFault → Type 0
  WritesSo was is room after now result = Writes (muted was.told d) (disk_of was.journal) (disk_of is.journal) (books_as was.book room after now) result

  module _ (was is : Holdings D) (same : is.told ≡ was.told) (room after now : Book) (result : Result ℕ PieceFault) (w : WritesSo was is room after now result) where
    later_by : (told_of d was).crash.moment ≤ (told_of d is).crash.moment
    later_by = subst (λ (told : Bool). (told_of d was).crash.moment ≤ (crash_of (muted told d) (disk_of is.journal)).moment) (sym same) w.later

    covered_by : StaysCovered (told_of d was).crash (told_of d is).crash
    covered_by = subst (λ (told : Bool). StaysCovered (told_of d was).crash (crash_of (muted told d) (disk_of is.journal))) (sym same) w.covered

    kept_by : KeepsCheckpoints (told_of d was).crash (told_of d is).crash
    kept_by = subst (λ (told : Bool). KeepsCheckpoints (told_of d was).crash (crash_of (muted told d) (disk_of is.journal))) (sym same) w.kept

    moves_by : HasIds was.book → Moves (told_of d was).crash (told_of d is).crash (λ x. SameBook x was.book ⊎ ((x ≡ room) ⊎ (x ≡ after)))
    moves_by ids =
        subst (λ (told : Bool). Moves (told_of d was).crash (crash_of (muted told d) (disk_of is.journal)) (λ x. SameBook x was.book ⊎ ((x ≡ room) ⊎ (x ≡ after))))
        (sym same) (w.moves ids)

    goes_on_by : Grows was.book is.book → is.limits ≡ was.limits → KeepsWhatStood d was is → GoesOn d source tells was is
    goes_on_by grows limits stands = record {
      grows = grows;
      same_limits = limits;
      same_told = same;
      later = later_by;
      covered = covered_by;
      kept = kept_by;
      stands = stands;
    }

  -- ---- a piece more

  taken_grows : (was mid : Holdings D) (piece : List ℕ) (number : ℕ) → IsTakenSo d was mid piece number → Grows was.book mid.book
  taken_grows was mid piece number t =
      subst (Grows was.book) (sym t.gained)
      (growth_goes_on was.book t.room (with_capture t.room t.stored) (room_grows was.book piece t.room t.roomy) (capture_grows t.room t.stored))

  only_last : (was mid : Holdings D) (piece : List ℕ) (number : ℕ) → IsTakenSo d was mid piece number → mid.told ≡ was.told → HasIds was.book
      → IsState (told_of d mid).crash mid.book None
  only_last was mid piece number t same ids =
      subst (λ (told : Bool). IsState (crash_of (muted told d) (disk_of mid.journal)) mid.book None) (sym same) (t.writes.only ids)

  -- no moment before it is later
  pub taken_later : (was mid : Holdings D) (piece : List ℕ) → TakesPiece d was mid piece (Ok (length (captures was.book)))
      → (told_of d was).crash.moment ≤ (told_of d mid).crash.moment
  taken_later was mid piece takes =
      let t = taken_so d was mid piece (length (captures was.book)) takes.leaves.1 in
      later_by was mid t.same_told t.room mid.book mid.book _ t.writes

  pub at_last : (result : Result ⊤ Stop) (piece : List ℕ) (reached : Holdings D) (last : Book) (Before Now : Book → Type 0) (x : Book) → (Before x → Now x)
      → OpensAtLast result piece reached last Before x → OpensAtLast result piece reached last Now x
  at_last (Ok done) piece reached last Before Now x go o = go o
  at_last (Err (Source number fault)) piece reached last Before Now x go o = go o
  at_last (Err (Piece number (pieces.Full count limit))) piece reached last Before Now x go o = go o
  at_last (Err (Piece number pieces.NotAPiece)) piece reached last Before Now x go o = go o
  at_last (Err (Piece number pieces.DiskFault)) piece reached last Before Now x go (inl same) = inl (same.0, go same.1)
  at_last (Err (Piece number pieces.DiskFault)) piece reached last Before Now x go (inr other) = inr other
  at_last (Err (Piece number (pieces.Damaged at kept found))) piece reached last Before Now x go o = go o
  at_last (Err (Piece number pieces.Memory)) piece reached last Before Now x go o = go o

  -- behind a piece the last book alone may be opened
  last_alone : (mid reached : Holdings D) (steps : List (Step D)) (links links_is : Links Transcript) → AreTaken d source tells mid links steps reached links_is
      → IsState (told_of d mid).crash mid.book None → (x : Book)
      → OpensBehind steps reached.book (λ b. (told_of d mid).crash.openings (told_of d mid).crash.moment b) x → SameBook x reached.book
  last_alone mid reached [] links links_is taken only x o = subst (λ (h : Holdings D). SameBook x h.book) (sym taken.0)
      (⊎_elim (λ same. same) (λ other. absurd (false≢true (ap is_some other))) (only x o))
  last_alone mid reached (s ∷ steps) links links_is taken only x o = o

  pub followed_more : DiskLaws d → (was mid is : Holdings D) (links_was links_mid links_is : Links Transcript) (piece : List ℕ) (result : Result ⊤ Stop)
      → AsksNext d source tells was links_was links_mid (Ok (Some piece)) → TakesPiece d was mid piece (Ok (length (captures was.book)))
      → HasFollowed d source tells mid is links_mid links_is result → HasFollowed d source tells was is links_was links_is result
  followed_more laws was mid is links_was links_mid links_is piece result asks takes f =
      let step : Step D = record { piece = piece; before = was; after = mid; links = links_mid } in
      let t = taken_so d was mid piece (length (captures was.book)) takes.leaves.1 in
      let same = t.same_told in
      let first = goes_on_by was mid same t.room mid.book mid.book _ t.writes (taken_grows was mid piece _ t) t.limits
      (stands_behind d laws was mid piece (Ok (length (captures was.book))) takes) in
      record {
        steps = step ∷ f.steps;
        reached = f.reached;
        links = f.links;
        refused = f.refused;
        taken = (refl, asks, takes, f.taken);
        ends = f.ends;
        goes_on = goes_on_both was mid is first f.goes_on;
        faults = subst (λ (n : ℕ). CountsIf (is_disk_stop result) n (told_of d is).faults) takes.faults f.faults;
        moves = λ ids last t₁ x le o. ⊎_elim
            (λ before. ⊎_elim
            (λ older. inl older)
            (λ may. inr (inl (inl (may_leave was.told was.book piece t.room mid.book x t.roomy t.takes may))))
            (moves_by was mid same t.room mid.book mid.book _ t.writes ids.0 t₁ x le before))
            (λ on. inr (⊎_elim (λ way. inl (inr way)) (λ of. inr of) on))
            (f.moves ids.1 last t₁ x (omega (arith, le, first.later)) o);
        left = λ ids last x o. at_last result f.refused f.reached is.book
            (OpensBehind f.steps f.reached.book (λ b. (told_of d mid).crash.openings (told_of d mid).crash.moment b))
            (λ y. SameBook y f.reached.book) x
            (λ behind. last_alone mid f.reached f.steps links_mid f.links f.taken (only_last was mid piece _ t same ids.0) x behind)
            (f.left ids.1 last x o);
      }

  pub leads_itself : (now : Holdings D) (links : Links Transcript) → Leads d source tells now now links links
  leads_itself now links = record { leads = λ is links_is result f. f }

  pub leads_more : DiskLaws d → (was now mid : Holdings D) (links_was links_now links_mid : Links Transcript) → Leads d source tells was now links_was links_now
      → TakesNext d source tells now mid links_now links_mid (Ok true) → Leads d source tells was mid links_was links_mid
  leads_more laws was now mid links_was links_now links_mid l takes = record {
    leads = λ is links_is result f. l.leads is links_is result
        (followed_more laws now mid is links_now links_mid links_is takes.0 result takes.1 takes.2 f);
  }

  -- ---- how it ends

  same_followed : (now : Holdings D) (links links_is : Links Transcript) (result : Result ⊤ Stop) → EndsBy d source tells result [] now links now links_is
      → is_disk_stop result ≡ false → ((Before : Book → Type 0) (x : Book) → Before x → OpensAtLast result [] now now.book Before x)
      → HasFollowed d source tells now now links links_is result
  same_followed now links links_is result ends calm at = record {
    steps = [];
    reached = now;
    links = links;
    refused = [];
    taken = (refl, refl);
    ends = ends;
    goes_on = same_goes_on now;
    faults = subst (λ (fault : Bool). CountsIf fault (told_of d now).faults (told_of d now).faults) (sym calm) refl;
    moves = λ ids last t x le o. inl o;
    left = λ ids last x o. at (λ b. (told_of d now).crash.openings (told_of d now).crash.moment b) x o;
  }

  pub ended_all : (was is : Holdings D) (links links_is : Links Transcript) → TakesNext d source tells was is links links_is (Ok false)
      → HasFollowed d source tells was is links links_is (Ok tt)
  ended_all was is links links_is next =
      subst (λ (h : Holdings D). HasFollowed d source tells was h links links_is (Ok tt)) (sym next.1)
      (same_followed was links links_is (Ok tt) (next.0, refl) refl (λ Before x o. o))

  ended_source : (was is : Holdings D) (links links_is : Links Transcript) (number : ℕ) (fault : SourceFault)
      → TakesNext d source tells was is links links_is (Err (Source number fault)) → HasFollowed d source tells was is links links_is (Err (Source number fault))
  ended_source was is links links_is number fault next =
      subst (λ (h : Holdings D). HasFollowed d source tells was h links links_is (Err (Source number fault))) (sym next.2)
      (same_followed was links links_is (Err (Source number fault)) (next.0, next.1, refl) refl (λ Before x o. o))

  module _ (laws : DiskLaws d) (was is : Holdings D) (links links_is : Links Transcript) (number : ℕ) (piece : List ℕ)
      (number_is : number ≡ length (captures was.book)) (asks : AsksNext d source tells was links links_is (Ok (Some piece))) where
    earlier : IsEarlier (told_of d is).crash
    earlier = opens_earlier (muted is.told d) (laws_muted d is.told laws) (disk_of is.journal)

    ended_quietly : (fault : PieceFault) → TakesPiece d was is piece (Err fault) → is.book ≡ was.book → is.told ≡ was.told → is.limits ≡ was.limits
        → LeavesNoMore (told_of d was).crash (told_of d is).crash
        → ((Before : Book → Type 0) (x : Book) → is.book ≡ was.book → Before x → OpensAtLast (Err (Piece number fault)) piece was is.book Before x)
        → HasFollowed d source tells was is links links_is (Err (Piece number fault))
    ended_quietly fault takes same_book same_told same_limits crash at = record {
      steps = [];
      reached = was;
      links = links;
      refused = piece;
      taken = (refl, refl);
      ends = (number_is, asks, takes);
      goes_on = record {
        grows = subst (Grows was.book) (sym same_book) (grows_from_itself was.book);
        same_limits = same_limits;
        same_told = same_told;
        later = crash.later;
        covered = crash.covered;
        kept = crash.kept;
        stands = stands_behind d laws was is piece (Err fault) takes;
      };
      faults = takes.faults;
      moves = λ ids last t x le o. inl (no_more (crash.moves t x le o));
      left = λ ids last x o. at (λ b. (told_of d was).crash.openings (told_of d was).crash.moment b) x same_book
          (opened_before (told_of d was).crash (told_of d is).crash earlier crash x o);
    }

    ended_looking : (fault : PieceFault) → TakesPiece d was is piece (Err fault) → OnlyLooks d was is
        → ((Before : Book → Type 0) (x : Book) → is.book ≡ was.book → Before x → OpensAtLast (Err (Piece number fault)) piece was is.book Before x)
        → HasFollowed d source tells was is links links_is (Err (Piece number fault))
    ended_looking fault takes looks at =
        ended_quietly fault takes (ap (λ (h : Holdings D). h.book) looks.others) (ap (λ (h : Holdings D). h.told) looks.others)
        (ap (λ (h : Holdings D). h.limits) looks.others) looks.unwritten.crash at

    abbrev RefusedSo : (told : Bool) (room after : Book) → Type 0
    RefusedSo told room after =
        ((is.book ≡ was.book) × Keeps (told_of d was).crash (crash_of (muted told d) (disk_of is.journal)) was.book)
        ⊎ (IsState (crash_of (muted told d) (disk_of is.journal)) is.book (Some room) ⊎ IsState (crash_of (muted told d) (disk_of is.journal)) is.book (Some after))

    left_by : (room after : Book) → IsRoomFor was.book piece room → (IsTrue was.told → Takes was.book piece after) → RefusedSo is.told room after → (x : Book)
        → (told_of d is).crash.openings (told_of d is).crash.moment x
        → ((is.book ≡ was.book) × (told_of d was).crash.openings (told_of d was).crash.moment x) ⊎ (SameBook x is.book ⊎ MayLeave was.told was.book piece x)
    left_by room after roomy takes (inl (same, keeps)) x o = ⊎_elim
        (λ then. inl (same, then))
        (λ alike. inr (inr (inl alike)))
        (keeps x o)
    left_by room after roomy takes (inr (inl state)) x o = ⊎_elim
        (λ alike. inr (inl alike))
        (λ other. inr (inr (may_leave was.told was.book piece room after x roomy takes (inr (inl (is_other other))))))
        (state x o)
    left_by room after roomy takes (inr (inr state)) x o = ⊎_elim
        (λ alike. inr (inl alike))
        (λ other. inr (inr (may_leave was.told was.book piece room after x roomy takes (inr (inr (is_other other))))))
        (state x o)

    left_grows : (room : Book) → IsRoomFor was.book piece room → (is.book ≡ was.book) ⊎ (is.book ≡ room) → Grows was.book is.book
    left_grows room roomy (inl same) = subst (Grows was.book) (sym same) (grows_from_itself was.book)
    left_grows room roomy (inr same) = subst (Grows was.book) (sym same) (room_grows was.book piece room roomy)

    ended_unwritten : TakesPiece d was is piece (Err pieces.DiskFault) → IsUntakenSo d was is piece
        → HasFollowed d source tells was is links links_is (Err (Piece number pieces.DiskFault))
    ended_unwritten takes u =
        let same = u.same_told in
        record {
          steps = [];
          reached = was;
          links = links;
          refused = piece;
          taken = (refl, refl);
          ends = (number_is, asks, takes);
          goes_on = goes_on_by was is same u.room u.after is.book _ u.writes (left_grows u.room u.roomy u.left) u.limits
              (stands_behind d laws was is piece (Err pieces.DiskFault) takes);
          faults = takes.faults;
          moves = λ ids last t x le o. ⊎_elim
              (λ older. inl older)
              (λ may. inr (inr (may_leave was.told was.book piece u.room u.after x u.roomy u.takes may)))
              (moves_by was is same u.room u.after is.book _ u.writes last t x le o);
          left = λ ids last x o. left_by u.room u.after u.roomy u.takes
              (subst (λ (told : Bool). RefusedSo told u.room u.after) (sym same) (u.writes.refused last)) x o;
        }

    ended_piece : (fault : PieceFault) → TakesPiece d was is piece (Err fault) → HasFollowed d source tells was is links links_is (Err (Piece number fault))
    ended_piece (pieces.Full count limit) takes =
        subst (λ (h : Holdings D). HasFollowed d source tells was h links links_is (Err (Piece number (pieces.Full count limit)))) (sym takes.leaves.3) (record {
          steps = [];
          reached = was;
          links = links;
          refused = piece;
          taken = (refl, refl);
          ends = (number_is, asks, subst (λ (h : Holdings D). TakesPiece d was h piece (Err (pieces.Full count limit))) takes.leaves.3 takes);
          goes_on = same_goes_on was;
          faults = refl;
          moves = λ ids last t x le o. inl o;
          left = λ ids last x o. o;
        })
    ended_piece pieces.NotAPiece takes = ended_looking pieces.NotAPiece takes takes.leaves.1 (λ Before x same o. o)
    ended_piece pieces.DiskFault takes = ⊎_elim
        (λ looks. ended_looking pieces.DiskFault takes looks (λ Before x same o. inl (same, o)))
        (λ u. ended_unwritten takes (untaken_so d was is piece u))
        takes.leaves.1
    ended_piece (pieces.Damaged at kept found) takes = ended_looking (pieces.Damaged at kept found) takes takes.leaves.1 (λ Before x same o. o)
    ended_piece pieces.Memory takes =
        let same = takes.leaves.0 in
        ended_quietly pieces.Memory takes (ap (λ (c : Contents). c.seen) same) (ap (λ (c : Contents). c.tells) same) (ap (λ (c : Contents). c.limits) same)
        takes.leaves.3.crash (λ Before x same o. o)

  pub ended_stop : DiskLaws d → (was is : Holdings D) (links links_is : Links Transcript) (stop : Stop) → TakesNext d source tells was is links links_is (Err stop)
      → HasFollowed d source tells was is links links_is (Err stop)
  ended_stop laws was is links links_is (Source number fault) next = ended_source was is links links_is number fault next
  ended_stop laws was is links links_is (Piece number fault) next =
      ended_piece laws was is links links_is number next.1.0 next.0 next.1.1 fault next.1.2

  pub ended_unasked : (now : Holdings D) (links : Links Transcript)
      → HasFollowed d source tells now now links links (Err (Source (length (captures now.book)) sources.Memory))
  ended_unasked now links =
      ended_source now now links links (length (captures now.book)) sources.Memory
      (refl, (λ t. record { outcome = Err fetches.Memory; logs = inl refl; comes = refl }), refl)
