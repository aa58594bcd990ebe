-- Each piece of a source leads to a front of its book.
use Rattle.std.proofs.Common.{ℕ, ◌≤◌, Bool, IsTrue, List, [], ◌∷◌, length, Result, Ok, Err, refl, sym, ap, subst, ◌∙◌, inl, inr, ⊎_elim, arith}
use Rattle.std.specs.Prelude.{⊤}
use Rattle.archive_core.specs.Holdings.{Holdings}
use Rattle.archive_taking.specs.TakingPieces.{IsNextOf, StaysBeginning, TakenPiecesLeadOn, TakesPiece}
use Rattle.archive_core.specs.Told.{told_of}
use Rattle.archive_shelf.specs.Openings.{Moves, SameBook}
use Rattle.capture.proofs.GrowthLaws.{growth_goes_on, grows_from_itself}
use Rattle.capture.specs.Captures.{captures}
use Rattle.capture.specs.Growth.{Grows}
use Rattle.capture.specs.declared.book.Book.{Book}
use Rattle.disk_model.specs.declared.disk.Disk.{Ghosts as Disks}
use Rattle.exchange.specs.declared.aim.Target.{Target}
use Rattle.outside.specs.Records.{Links}
use Rattle.outside.specs.declared.dialer.Transcript.{Transcript}
use Rattle.replica.proofs.FollowLaws.{taken_later}
use Rattle.replica.proofs.TakeLaws.{still_told}
use Rattle.replica.specs.Following.{AreTaken, EndsBy, Step}
use Rattle.replica.specs.Fronts.{ComeOf, GaveFrom, IsFrontOf, PiecesAreTaken, RefusedCameOf, ReplicasAreFronts, StopsLeaveFronts}
use Rattle.replica.specs.declared.following.Stop.{Stop}
use Rattle.replica.specs.declared.following.Stop.TheVariants.{Source, Piece}
use Rattle.archive_pieces.specs.NextPieces.{NextPiecesLeadOn}
use Rattle.archive_pieces.specs.declared.fault.PieceFault.{PieceFault}

module _ {D : Type 0} (leads : NextPiecesLeadOn) (disks : Disks D) (source : Target) (tells : Bool) where
  fronts : (steps : List (Step D)) (was reached : Holdings D) (links links_is : Links Transcript) (first last : Book)
      → AreTaken disks source tells was links steps reached links_is → IsTrue was.told → Grows was.book first → ComeOf steps first last
      → Grows reached.book last
  fronts [] was reached links links_is first last taken told grows come =
      subst (λ (h : Holdings D). Grows h.book last) (sym taken.0) (growth_goes_on was.book first last grows come)
  fronts (step ∷ steps) was reached links links_is first last taken told grows come =
      let now = come.0 in
      let gave = come.2 in
      let before = ap (λ (h : Holdings D). h.book) taken.0 in
      let has = taken.2.leaves.1 in
      let told_then : IsTrue step.before.told = subst (λ (h : Holdings D). IsTrue h.told) (sym taken.0) told in
      let grown : Grows step.before.book now
      = subst (λ (b : Book). Grows b now) (sym before) (growth_goes_on was.book first now grows come.1) in
      let lead = leads step.before.book now step.piece gave.sound grown gave.there gave.is in
      let next = lead.only gave.ids step.after.book (has.takes told_then) in
      fronts steps step.after reached step.links links_is now last taken.3 (still_told disks step.before step.after step.piece _ has ∙ told_then)
      (subst (λ (b : Book). Grows b now) (sym next) lead.grown) come.3

pub replicas_are_fronts : {D : Type 0} (disks : Disks D) → NextPiecesLeadOn → ReplicasAreFronts disks
replicas_are_fronts disks leads source tells was is links_was links_is result first last f told grows come =
    fronts leads disks source tells f.steps was f.reached links_was f.links first last f.taken told grows come

pub pieces_are_taken : {D : Type 0} (disks : Disks D) → NextPiecesLeadOn → PiecesAreTaken disks
pieces_are_taken {D} disks leads source tells was is links_was links_is number first last now f told grows come later gave =
    let then = replicas_are_fronts disks leads source tells was is links_was links_is _ first last f told grows come in
    let lead = leads f.reached.book now f.refused gave.sound (growth_goes_on f.reached.book last now then later) gave.there gave.is in
    let takes = f.ends.2 in
    takes.leaves.2 (sym (ap (λ (h : Holdings D). h.told) takes.leaves.1.others) ∙ f.goes_on.same_told ∙ told) lead.next lead.takes

-- ---- at a stop

come_on : {D : Type 0} (steps : List (Step D)) (first last : Book) → ComeOf steps first last → Grows first last
come_on [] first last come = come
come_on (step ∷ steps) first last come = growth_goes_on first come.0 last come.1 (come_on steps come.0 last come.3)

module _ {D : Type 0} (disks : Disks D) (lead : TakenPiecesLeadOn disks) (source : Target) (tells : Bool) where
  -- two calls, one behind the other
  both : (was mid is : Holdings D) (now : Book) → (told_of disks was).crash.moment ≤ (told_of disks mid).crash.moment
      → Moves (told_of disks was).crash (told_of disks mid).crash (IsFrontOf now) → Moves (told_of disks mid).crash (told_of disks is).crash (IsFrontOf now)
      → Moves (told_of disks was).crash (told_of disks is).crash (IsFrontOf now)
  both was mid is now later first more = λ t x le o.
      ⊎_elim (λ before. first t x le before) (λ (front : IsFrontOf now x). inr front) (more t x (omega (arith, le, later)) o)

  -- one call, with what came of a book of the source's
  next_of : (was : Holdings D) (book : Book) (piece : List ℕ) → IsTrue was.told → Grows was.book book → GaveFrom book (length (captures was.book)) piece
      → IsNextOf was book piece
  next_of was book piece told grown gave = record { told = told; sound = gave.sound; ids = gave.ids; grown = grown; more = gave.there; piece = gave.is }

  by_call : (was is : Holdings D) (book now : Book) (piece : List ℕ) (result : Result ℕ PieceFault) → IsTrue was.told → Grows was.book book → Grows book now
      → GaveFrom book (length (captures was.book)) piece → TakesPiece disks was is piece result
      → Moves (told_of disks was).crash (told_of disks is).crash (IsFrontOf now)
  by_call was is book now piece result told grown later gave takes =
      let stays : StaysBeginning disks was is book = (lead was is book piece result (next_of was book piece told grown gave) takes).1 in
      λ t x le o. ⊎_elim
      (λ before. inl before)
      (λ may. inr (⊎_elim
      (λ (same : SameBook x was.book). (was.book, same, growth_goes_on was.book book now grown later))
      (λ (front : Grows x book). (x, inl refl, growth_goes_on x book now front later))
      may))
      (stays.opened t x le o)

  -- what is known behind the pieces that were taken
  record Reached (was reached : Holdings D) (now : Book) : Type 0 where
    told : IsTrue reached.told
    grown : Grows reached.book now
    later : (told_of disks was).crash.moment ≤ (told_of disks reached).crash.moment
    moves : Moves (told_of disks was).crash (told_of disks reached).crash (IsFrontOf now)

  reached_by : (steps : List (Step D)) (was reached : Holdings D) (links links_is : Links Transcript) (first last now : Book)
      → AreTaken disks source tells was links steps reached links_is → IsTrue was.told → Grows was.book first → ComeOf steps first last → Grows last now
      → Reached was reached now
  reached_by [] was reached links links_is first last now taken told grown come later =
      subst (λ (h : Holdings D). Reached was h now) (sym taken.0) (record {
        told = told;
        grown = growth_goes_on was.book first now grown (growth_goes_on first last now come later);
        later = omega arith;
        moves = λ t x le o. inl o;
      })
  reached_by (step ∷ steps) was reached links links_is first last now taken told grown come later =
      let book = come.0 in
      let told_then : IsTrue step.before.told = subst (λ (h : Holdings D). IsTrue h.told) (sym taken.0) told in
      let grown_then : Grows step.before.book book = subst (λ (h : Holdings D). Grows h.book book) (sym taken.0) (growth_goes_on was.book first book grown come.1) in
      let stays : StaysBeginning disks step.before step.after book
      = (lead step.before step.after book step.piece _ (next_of step.before book step.piece told_then grown_then come.2) taken.2).1 in
      let told_behind = still_told disks step.before step.after step.piece _ taken.2.leaves.1 ∙ told_then in
      let more = reached_by steps step.after reached step.links links_is book last now taken.3 told_behind stays.seen come.3 later in
      let then = taken_later disks source tells step.before step.after step.piece taken.2 in
      let one = by_call step.before step.after book now step.piece _ told_then grown_then (growth_goes_on book last now (come_on steps book last come.3) later) come.2 taken.2 in
      subst (λ (h : Holdings D). Reached h reached now) taken.0 (record {
        told = more.told;
        grown = more.grown;
        later = omega (arith, then, more.later);
        moves = both step.before step.after reached now then one more.moves;
      })

  at_end : (result : Result ⊤ Stop) (piece : List ℕ) (reached is : Holdings D) (links links_is : Links Transcript) (now : Book)
      → EndsBy disks source tells result piece reached links is links_is → IsTrue reached.told → Grows reached.book now → RefusedCameOf result piece reached now
      → Moves (told_of disks reached).crash (told_of disks is).crash (IsFrontOf now)
  at_end (Ok done) piece reached is links links_is now ends told grown gave =
      subst (λ (h : Holdings D). Moves (told_of disks reached).crash (told_of disks h).crash (IsFrontOf now)) (sym ends.1) (λ t x le o. inl o)
  at_end (Err (Source number fault)) piece reached is links links_is now ends told grown gave =
      subst (λ (h : Holdings D). Moves (told_of disks reached).crash (told_of disks h).crash (IsFrontOf now)) (sym ends.2) (λ t x le o. inl o)
  at_end (Err (Piece number fault)) piece reached is links links_is now ends told grown gave =
      by_call reached is now now piece (Err fault) told grown (grows_from_itself now) gave ends.2

pub stops_leave_fronts : {D : Type 0} (disks : Disks D) → TakenPiecesLeadOn disks → StopsLeaveFronts disks
stops_leave_fronts {D} disks lead source tells was is links_was links_is result first last now f told grown come later gave =
    let reached = reached_by disks lead source tells f.steps was f.reached links_was f.links first last now f.taken told grown come later in
    both disks lead source tells was f.reached is now reached.later reached.moves
    (at_end disks lead source tells result f.refused f.reached is f.links links_is now f.ends reached.told reached.grown gave)
