-- Laws of a file that was written in one range alone since a sync of it was done, or cut before that: what is in doubt of it, and how that is mended.
use Rattle.std.proofs.Common.{◌≡◌, ◌⊎◌, ◌<◌, ◌≤◌, ◌+◌, ◌-◌, ℕ, zero, suc, Bool, true, false, Option, Some, None, List, [], ◌∷◌, ◌++◌, map, length, take, drop, refl, sym, ap, ◌∙◌, subst, inl, inr, ⊎_elim, arith, length-take, length-drop, take-append-drop}
use Rattle.std.proofs.lemmas.List.{take_all, take_min, take-take, drop_all, drop-take}
use Rattle.std.proofs.lemmas.Bool.{cases_lt}
use Rattle.std.proofs.lemmas.Option.{same_Some}
use Rattle.std.proofs.Math.Seq.{take-add, take-append_seam, take-append-add}
use Rattle.std.specs.Option.{option_map}
use Rattle.disk_model.specs.declared.kind.Kind.{Kind}
use Rattle.disk_model.specs.Image.{Image, file_count, file_of, with_file, written}
use Rattle.disk_model.specs.Crash.{Torn, Within, Elapses, Cut}
use Rattle.disk_model.specs.steps.CrashLaws.{torn_none, torn_written as write_torn, cut_none, cut_front}
use Rattle.disk_model.specs.steps.ImageLaws.{with_file-file_of}
use Rattle.folder_model.specs.DiskCalls.{SyncDone, SyncsLeave}
use Rattle.folder_model.specs.File.{FileDeed, Made, Wrote, Shortened, Synced, Listed, Sync, Crash, read_of, MayHold, IsLeft, AreBytesSure, AreBytesLeft}
use Rattle.folder_model.specs.Folder.{Did, FolderPast, did_to, deeds_of, contents_of, Contents, Deed, MayLeave}
use Rattle.folder_model.specs.Known.{IsInDoubt, Knows}
use Rattle.folder_model.specs.Ranges.{IsTornIn, IsTornAt, AreMending, MendsIn}
use Rattle.folder_model.specs.Whole.{done_to, AreWrites, WritesWithin, Covers}
use Rattle.folder_model.specs.Seen.{NamesApart, images_of, FolderIs, IsNamed}
use Rattle.folder_model.specs.Times.{Times, IsTimed, moment_of, goes_on, images_since_of}
use Rattle.folder_model.specs.steps.FileLaws.{sync_then_crash, read_is_held, bytes_sure-made}
use Rattle.folder_model.specs.steps.FolderLaws.{synced_file, adds_none, deeds_of-same, deeds_of-other, names_cases}
use Rattle.folder_model.specs.steps.KnownLaws.{or_still, done_deeds, drop_map, settled_sure}
use Rattle.folder_model.specs.steps.ReadingLaws.{contents_of-same, folder_is-changed, folder_is-synced, is_named-did}
use Rattle.folder_model.specs.steps.SeenLaws.{synced_within}
use Rattle.folder_model.specs.steps.SureLaws.{file_sync_is_durable}
use Rattle.folder_model.specs.steps.TimeLaws.{goes_on_timed, deeds_elapse}
use Rattle.folder_model.specs.steps.TornLaws.{torn_wider, torn_again, torn_nothing, front_of_torn, torn_taken, behind_torn, cut_taken}

-- ---- torn bytes

-- bytes written over by those that are read there
pub written_again : (at : ℕ) (some reading : List ℕ) → some ≡ take (length some) (drop at reading) → written reading at some ≡ reading
written_again at some reading is =
    (λ i. (take at reading ++ is i) ++ drop (at + length some) reading)
    ∙ (λ i. sym (take-add at (length some) reading) i ++ drop (at + length some) reading)
    ∙ take-append-drop (at + length some) reading

-- a front of the range that is read
pub front_of_range : (at many : ℕ) (some rest reading : List ℕ) → some ++ rest ≡ take many (drop at reading) → length some ≤ many → some ≡ take (length some) (drop at reading)
front_of_range at many some rest reading whole fits =
    sym (take-append_seam some rest)
    ∙ ap (take (length some)) whole
    ∙ take-take (length some) many (drop at reading) fits

-- bytes that differ in the range and behind what is read, written over in the range by what is read there, and cut where that ends
mended_bytes : (at many : ℕ) (old reading : List ℕ) → at ≤ length reading → take at old ≡ take at reading → drop (at + many) (take (length reading) old) ≡ drop (at + many) reading
    → take (length reading) (written old at (take many (drop at reading))) ≡ reading
mended_bytes at many old reading inside front behind =
    let some : List ℕ = take many (drop at reading) in
    let before : (take at old ++ some) ≡ take (at + many) reading = (λ i. front i ++ some) ∙ sym (take-add at many reading) in
    ⊎_elim
    (λ short.
    let all : take (at + many) reading ≡ reading = take_all (at + many) reading (omega (arith, short)) in
    let len : length (take at old ++ some) ≡ length reading = ap length (before ∙ all) in
    ap (λ (k : ℕ). take k (written old at some)) (sym len)
    ∙ take-append_seam (take at old ++ some) (drop (at + length some) old)
    ∙ before ∙ all)
    (λ long.
    let m : ℕ = length reading - (at + many) in
    let sum : length reading ≡ at + many + m = omega (arith, long) in
    let len : length some ≡ many = omega (arith, length-take many (drop at reading), length-drop at reading, long) in
    let ends : at + length some ≡ at + many = omega (arith, len) in
    let size : length (take at old ++ some) ≡ at + many = omega (arith, ap length before, length-take (at + many) reading, long) in
    let whole : length reading ≡ length (take at old ++ some) + m = omega (arith, sum, size) in
    let rest : take m (drop (at + many) old) ≡ drop (at + many) reading =
    sym (drop-take (at + many) m old) ∙ ap (λ (k : ℕ). drop (at + many) (take k old)) (sym sum) ∙ behind in
    ap (λ (k : ℕ). take k (written old at some)) whole
    ∙ take-append-add (take at old ++ some) (drop (at + length some) old) m
    ∙ (λ i. before i ++ take m (drop (ends i) old))
    ∙ ap (λ (xs : List ℕ). take (at + many) reading ++ xs) rest
    ∙ take-append-drop (at + many) reading)
    (cases_lt (length reading) (at + many))

-- ---- one file

-- a file of which a crash leaves what reads find
pub torn_left : (first : Option (List ℕ)) (deeds : List FileDeed) (reading : List ℕ) → AreBytesLeft first deeds → read_of first deeds ≡ Some reading → IsTornIn first deeds 0 0
torn_left first deeds reading left is =
    let same : (bytes : List ℕ) → MayHold first deeds Crash bytes → bytes ≡ reading = λ bytes holds. same_Some bytes reading (sym (left bytes holds) ∙ is) in
    record {
      reading = reading;
      is = is;
      inside = omega arith;
      before = λ bytes holds. refl;
      behind = λ bytes holds. ap (take (length reading)) (same bytes holds) ∙ take_all (length reading) reading (omega arith);
      again = λ old bytes holds torn. subst (MayHold first deeds Crash) (sym (torn_nothing 0 old bytes (omega arith) torn)) holds;
      fronts = λ bytes len long holds. subst (MayHold first deeds Crash) (sym (take_all len bytes (omega (arith, long, ap length (same bytes holds))))) holds;
    }

-- a file that is as it was synced
pub torn_clean : (first : Option (List ℕ)) (deeds : List FileDeed) (reading : List ℕ) → AreBytesSure first deeds → read_of first deeds ≡ Some reading
    → IsTornIn first (Synced true ∷ deeds) 0 0
torn_clean first deeds reading sure is = torn_left first (Synced true ∷ deeds) reading sure is

-- where a crash may leave the same and reads find the same
pub torn_same : (first : Option (List ℕ)) (deeds : List FileDeed) (since : Option (List ℕ)) (more : List FileDeed) (at many : ℕ)
    → ((bytes : List ℕ) → MayHold since more Crash bytes → MayHold first deeds Crash bytes)
    → ((bytes : List ℕ) → MayHold first deeds Crash bytes → MayHold since more Crash bytes)
    → read_of since more ≡ read_of first deeds
    → IsTornIn first deeds at many → IsTornIn since more at many
torn_same first deeds since more at many to from same torn = record {
  reading = torn.reading;
  is = same ∙ torn.is;
  inside = torn.inside;
  before = λ bytes holds. torn.before bytes (to bytes holds);
  behind = λ bytes holds. torn.behind bytes (to bytes holds);
  again = λ old bytes holds is. from bytes (torn.again old bytes (to old holds) is);
  fronts = λ bytes len long holds. from (take len bytes) (torn.fronts bytes len long (to bytes holds));
}

-- a sync that fails leaves the same in doubt
pub torn_failed : (first : Option (List ℕ)) (deeds : List FileDeed) (at many : ℕ) → IsTornIn first deeds at many → IsTornIn first (Synced false ∷ deeds) at many
torn_failed first deeds at many torn = torn_same first deeds first (Synced false ∷ deeds) at many (λ bytes holds. holds) (λ bytes holds. holds) refl torn

pub torn_listed : (first : Option (List ℕ)) (deeds : List FileDeed) (at many : ℕ) (done : Bool) → IsTornIn first deeds at many → IsTornIn first (Listed done ∷ deeds) at many
torn_listed first deeds at many done torn = torn_same first deeds first (Listed done ∷ deeds) at many (λ bytes holds. holds) (λ bytes holds. holds) refl torn

-- a file that was just made
pub torn_made : (first : Option (List ℕ)) (deeds : List FileDeed) → IsTornIn first (Listed true ∷ Synced true ∷ Made ∷ deeds) 0 0
torn_made first deeds =
    torn_listed first (Synced true ∷ Made ∷ deeds) 0 0 true (torn_clean first (Made ∷ deeds) [] (bytes_sure-made first deeds) refl)

-- a write within the range
pub torn_within : (first : Option (List ℕ)) (deeds : List FileDeed) (at many place : ℕ) (some : List ℕ) (rest : ℕ) → IsTornIn first deeds at many
    → at ≤ place → place + (length some + rest) ≤ at + many → IsTornIn first (Wrote place some rest ∷ deeds) at many
torn_within first deeds at many place some rest torn above below =
    let reading : List ℕ = torn.reading in
    let now : List ℕ = written reading place some in
    let step : Torn at many reading now =
    torn_wider at many place (length some + rest) reading now above below (write_torn place (length some + rest) reading some (omega arith)) in
    let before : (bytes : List ℕ) → MayHold first (Wrote place some rest ∷ deeds) Crash bytes → MayHold first deeds Crash bytes =
    λ bytes holds. torn.again holds.0 bytes holds.1 (torn_wider at many place (length some + rest) holds.0 bytes above below holds.2) in
    record {
      reading = now;
      is = ap (λ (o : Option (List ℕ)). option_map (λ old. written old place some) o) torn.is;
      inside = omega (arith, torn.inside, step.no_shorter);
      before = λ bytes holds. torn.before bytes (before bytes holds) ∙ sym (front_of_torn at many reading now torn.inside step);
      behind = λ bytes holds. behind_torn at many reading now bytes step (torn.behind bytes (before bytes holds));
      again = λ old bytes holds is. (bytes, torn.again old bytes (before old holds) is, torn_none place (length some + rest) bytes);
      fronts = λ bytes len long holds.
          (take len bytes, torn.fronts bytes len (omega (arith, long, step.no_shorter)) (before bytes holds), torn_none place (length some + rest) (take len bytes));
    }

-- what a cut that isn't below what is read leaves was left before
cut_held : (first : Option (List ℕ)) (deeds : List FileDeed) (at many : ℕ) (torn : IsTornIn first deeds at many) (old new : List ℕ)
    → MayHold first deeds Crash old → Cut (length torn.reading) old new → MayHold first deeds Crash new
cut_held first deeds at many torn old new holds cut =
    let reading : List ℕ = torn.reading in
    ⊎_elim
    (λ longer.
    let short : length reading ≤ at + many =
    omega (
      arith,
      longer,
      cut.no_longer,
      ap length (torn.behind old holds),
      length-drop (at + many) (take (length reading) old),
      length-take (length reading) old,
      length-drop (at + many) reading,
    ) in
    torn.again old new holds
    (record {
      no_shorter = omega (arith, longer);
      no_longer = omega (arith, cut.no_longer, short);
      before = ap (take at) (cut.same ∙ take_all (length new) old (omega (arith, longer)));
      after =
          drop_all (at + many) new (omega (arith, longer, cut.no_longer, short))
          ∙ sym (drop_all (at + many) old (omega (arith, longer, cut.no_longer, short)));
    }))
    (λ within.
    let front : new ≡ take (length new) old = sym (take_all (length old) new within) ∙ cut.same in
    ⊎_elim
    (λ more. subst (MayHold first deeds Crash) (sym front) (torn.fronts old (length new) (omega (arith, more, cut.no_shorter)) holds))
    (λ few.
    subst (MayHold first deeds Crash) (sym (take_all (length new) old (omega (arith, few, cut.no_shorter))) ∙ sym front) holds)
    (cases_lt (length reading) (length old)))
    (cases_lt (length old) (length new))

-- such a cut
torn_shortened : (first : Option (List ℕ)) (deeds : List FileDeed) (at many len rest : ℕ) → (torn : IsTornIn first deeds at many) → len ≡ length torn.reading + rest
    → IsTornIn first (Shortened len rest ∷ deeds) at many
torn_shortened first deeds at many len rest torn is_len =
    let asked : len - rest ≡ length torn.reading = omega (arith, is_len) in
    torn_same first deeds first (Shortened len rest ∷ deeds) at many
    (λ bytes holds. cut_held first deeds at many torn holds.0 bytes holds.1 (subst (λ (k : ℕ). Cut k holds.0 bytes) asked holds.2))
    (λ bytes holds. (bytes, holds, cut_none (len - rest) bytes))
    (ap (λ (o : Option (List ℕ)). option_map (take len) o) torn.is
    ∙ ap (λ (b : List ℕ). Some b) (take_all len torn.reading (omega (arith, is_len)))
    ∙ sym torn.is)
    torn

-- what it leaves was left before
cut_adds_none : (first : Option (List ℕ)) (deeds : List FileDeed) (at many len rest : ℕ) → (torn : IsTornIn first deeds at many) → len ≡ length torn.reading + rest
    → (left : Option (List ℕ)) → IsLeft first (Shortened len rest ∷ deeds) left → IsLeft first deeds left
cut_adds_none first deeds at many len rest torn is_len None is = is
cut_adds_none first deeds at many len rest torn is_len (Some bytes) is =
    let asked : len - rest ≡ length torn.reading = omega (arith, is_len) in
    cut_held first deeds at many torn is.0 bytes is.1 (subst (λ (k : ℕ). Cut k is.0 bytes) asked is.2)

-- Once the range is written anew as it is read, and the file cut where that ends, a sync answers for the file.
pub range_anew_is_sure : (first : Option (List ℕ)) (deeds : List FileDeed) (at many : ℕ) (reading : List ℕ) → IsTornIn first deeds at many → read_of first deeds ≡ Some reading
    → AreBytesSure first (Shortened (length reading) 0 ∷ Wrote at (take many (drop at reading)) 0 ∷ deeds)
range_anew_is_sure first deeds at many reading torn is bytes holds =
    let some : List ℕ = take many (drop at reading) in
    let its : torn.reading ≡ reading = same_Some torn.reading reading (sym torn.is ∙ is) in
    let anew : (held : List ℕ) → MayHold first deeds Sync held → take (length reading) (written held at some) ≡ reading =
    λ held left.
    let crash : MayHold first deeds Crash held = sync_then_crash first deeds held left in
    mended_bytes at many held reading (omega (arith, torn.inside, ap length its)) (torn.before held crash ∙ ap (take at) its)
    (subst (λ (r : List ℕ). drop (at + many) (take (length r) held) ≡ drop (at + many) r) its (torn.behind held crash)) in
    let cut = holds.1 in
    ap (λ (o : Option (List ℕ)). option_map (take (length reading)) (option_map (λ old. written old at some) o)) is
    ∙ ap (λ (b : List ℕ). Some b)
    (anew reading (read_is_held first deeds reading is)
    ∙ sym (anew cut.0 cut.1)
    ∙ ap (take (length reading)) (sym cut.2)
    ∙ sym holds.2)

-- and that adds nothing to what a crash may leave of it
anew_adds_none : (first : Option (List ℕ)) (deeds : List FileDeed) (at many place : ℕ) (some : List ℕ) (rest : ℕ) → IsTornIn first deeds at many → place ≡ at → length some + rest ≤ many
    → (left : Option (List ℕ)) → IsLeft first (Wrote place some rest ∷ deeds) left → IsLeft first deeds left
anew_adds_none first deeds at many place some rest torn here sum None is = is
anew_adds_none first deeds at many place some rest torn here sum (Some bytes) is =
    torn.again is.0 bytes is.1 (torn_wider at many place (length some + rest) is.0 bytes (omega (arith, here)) (omega (arith, here, sum)) is.2)

-- where nothing was written, what is read is a front of what a crash leaves
front_held : (first : Option (List ℕ)) (deeds : List FileDeed) (at : ℕ) (torn : IsTornIn first deeds at 0) (bytes : List ℕ) → MayHold first deeds Crash bytes
    → take (length torn.reading) bytes ≡ torn.reading
front_held first deeds at torn bytes holds =
    let all : List ℕ = take (length torn.reading) bytes in
    let none : at + 0 ≡ at = omega arith in
    let front : take at all ≡ take at torn.reading = take-take at (length torn.reading) bytes torn.inside ∙ torn.before bytes holds in
    let back : drop at all ≡ drop at torn.reading =
    ap (λ (k : ℕ). drop k all) (sym none) ∙ torn.behind bytes holds ∙ ap (λ (k : ℕ). drop k torn.reading) none in
    sym (take-append-drop at all) ∙ (λ i. front i ++ back i) ∙ take-append-drop at torn.reading

-- so it isn't longer
front_short : (first : Option (List ℕ)) (deeds : List FileDeed) (at : ℕ) (torn : IsTornIn first deeds at 0) (bytes : List ℕ) → MayHold first deeds Crash bytes
    → length torn.reading ≤ length bytes
front_short first deeds at torn bytes holds = omega (arith, ap length (front_held first deeds at torn bytes holds), length-take (length torn.reading) bytes)

-- and then a cut leaves the file so that nothing was written
torn_cut : (first : Option (List ℕ)) (deeds : List FileDeed) (at len : ℕ) → (torn : IsTornIn first deeds at 0) → len ≤ length torn.reading → IsTornIn first (Shortened len 0 ∷ deeds) 0 0
torn_cut first deeds at len torn inside =
    let reading : List ℕ = torn.reading in
    let all : len - 0 ≡ len = omega arith in
    let size : length (take len reading) ≡ len = omega (arith, length-take len reading, inside) in
    let cut : (bytes : List ℕ) (holds : MayHold first (Shortened len 0 ∷ deeds) Crash bytes) → Cut len holds.0 bytes = λ bytes holds. subst (λ (k : ℕ). Cut k holds.0 bytes) all holds.2 in
    let long : (bytes : List ℕ) (holds : MayHold first (Shortened len 0 ∷ deeds) Crash bytes) → len ≤ length holds.0 =
    λ bytes holds. omega (arith, inside, front_short first deeds at torn holds.0 holds.1) in
    record {
      reading = take len reading;
      is = ap (λ (o : Option (List ℕ)). option_map (take len) o) torn.is;
      inside = omega arith;
      before = λ bytes holds. refl;
      behind = λ bytes holds.
          let was : List ℕ = holds.0 in
          let front : bytes ≡ take (length bytes) was = cut_front len was bytes (long bytes holds) (cut bytes holds) in
          ap (λ (k : ℕ). take k bytes) size
          ∙ ap (take len) front
          ∙ take-take len (length bytes) was (omega (arith, (cut bytes holds).no_shorter, long bytes holds))
          ∙ sym (take-take len (length reading) was inside)
          ∙ ap (take len) (front_held first deeds at torn was holds.1);
      again = λ old bytes holds is. subst (MayHold first (Shortened len 0 ∷ deeds) Crash) (sym (torn_nothing 0 old bytes (omega arith) is)) holds;
      fronts = λ bytes k enough holds. (
        holds.0,
        holds.1,
        subst (λ (j : ℕ). Cut j holds.0 (take k bytes)) (sym all) (cut_taken len k holds.0 bytes (long bytes holds) (omega (arith, size, enough)) (cut bytes holds)),
      );
    }

-- ---- in a folder

-- a deed on the file, and one on another
pub torn_did : (past : FolderPast) (n : List ℕ) (deed : FileDeed) (at many : ℕ) → IsTornIn (past.first n) (deed ∷ deeds_of n past.deeds) at many → IsTornAt (did_to past n deed) n at many
torn_did past n deed at many torn = subst (λ (ds : List FileDeed). IsTornIn (past.first n) ds at many) (sym (deeds_of-same n deed past.deeds)) torn

pub torn_other : (past : FolderPast) (n other : List ℕ) (deed : FileDeed) (at many : ℕ) → (other ≡ n → ⊥) → IsTornAt past other at many → IsTornAt (did_to past n deed) other at many
torn_other past n other deed at many apart torn = subst (λ (ds : List FileDeed). IsTornIn (past.first other) ds at many) (sym (deeds_of-other other n deed past.deeds apart)) torn

-- what writes leave of a file is what was left before, torn within their range
writes_back : (past : FolderPast) (n : List ℕ) (at many : ℕ) (deeds : List FileDeed) (bytes : List ℕ) → AreWrites at many deeds
    → MayHold ((done_to past n deeds).first n) (deeds_of n (done_to past n deeds).deeds) Crash bytes
    → (was : List ℕ) × MayHold (past.first n) (deeds_of n past.deeds) Crash was × Torn at many was bytes
writes_back past n at many [] bytes writes holds = (bytes, holds, torn_none at many bytes)
writes_back past n at many (Made ∷ earlier) bytes writes holds = absurd writes
writes_back past n at many (Wrote place some rest ∷ earlier) bytes writes holds =
    let mid : FolderPast = done_to past n earlier in
    let here : MayHold (mid.first n) (Wrote place some rest ∷ deeds_of n mid.deeds) Crash bytes =
    subst (λ (ds : List FileDeed). MayHold (mid.first n) ds Crash bytes) (deeds_of-same n (Wrote place some rest) mid.deeds) holds in
    let back = writes_back past n at many earlier here.0 writes.2 here.1 in
    (back.0, back.1, torn_again at many back.0 here.0 bytes back.2 (torn_wider at many place (length some + rest) here.0 bytes writes.0 writes.1 here.2))
writes_back past n at many (Shortened len rest ∷ earlier) bytes writes holds = absurd writes
writes_back past n at many (Synced done ∷ earlier) bytes writes holds = absurd writes
writes_back past n at many (Listed done ∷ earlier) bytes writes holds = absurd writes

-- and what reads find is torn so
writes_read : (past : FolderPast) (n : List ℕ) (at many : ℕ) (deeds : List FileDeed) (reading : List ℕ) → AreWrites at many deeds → contents_of past n ≡ Some reading
    → (now : List ℕ) × (contents_of (done_to past n deeds) n ≡ Some now) × Torn at many reading now
writes_read past n at many [] reading writes is = (reading, is, torn_none at many reading)
writes_read past n at many (Made ∷ earlier) reading writes is = absurd writes
writes_read past n at many (Wrote place some rest ∷ earlier) reading writes is =
    let was = writes_read past n at many earlier reading writes.2 is in (
      written was.0 place some,
      contents_of-same (done_to past n earlier) n (Wrote place some rest) ∙ ap (λ (o : Option (List ℕ)). option_map (λ old. written old place some) o) was.1,
      torn_again at many reading was.0 (written was.0 place some) was.2
          (torn_wider at many place (length some) was.0 (written was.0 place some) writes.0 (omega (arith, writes.1)) (write_torn place (length some) was.0 some (omega arith))),
    )
writes_read past n at many (Shortened len rest ∷ earlier) reading writes is = absurd writes
writes_read past n at many (Synced done ∷ earlier) reading writes is = absurd writes
writes_read past n at many (Listed done ∷ earlier) reading writes is = absurd writes

-- the first write to a file that is as it was synced, or a cut of that
pub torn_written : (old new : FolderPast) (n : List ℕ) (start at many : ℕ) → (torn : IsTornAt old n start 0) → at ≤ length torn.reading
    → WritesWithin n at many old new → Covers n at many old new → IsTornAt new n at many
torn_written old new n start at many torn inside within covers =
    let reading : List ℕ = torn.reading in
    let read = writes_read old n at many within.deeds reading within.writes torn.is in
    let now : List ℕ = read.0 in
    let step : Torn at many reading now = read.2 in
    let back : (bytes : List ℕ) → MayHold (new.first n) (deeds_of n new.deeds) Crash bytes → (was : List ℕ) × MayHold (old.first n) (deeds_of n old.deeds) Crash was × Torn at many was bytes =
    λ bytes holds. writes_back old n at many within.deeds bytes within.writes
    (subst (λ (p : FolderPast). MayHold (p.first n) (deeds_of n p.deeds) Crash bytes) within.whole holds) in
    let long : (was : List ℕ) → MayHold (old.first n) (deeds_of n old.deeds) Crash was → length reading ≤ length was = front_short (old.first n) (deeds_of n old.deeds) start torn in
    let front : (was : List ℕ) → MayHold (old.first n) (deeds_of n old.deeds) Crash was → take (length reading) was ≡ reading = front_held (old.first n) (deeds_of n old.deeds) start torn in
    record {
      reading = now;
      is = ap (λ (p : FolderPast). contents_of p n) within.whole ∙ read.1;
      inside = omega (arith, inside, step.no_shorter);
      before = λ bytes holds.
          let was = back bytes holds in
          front_of_torn at many was.0 bytes (omega (arith, inside, long was.0 was.1)) was.2
          ∙ sym (take-take at (length reading) was.0 inside)
          ∙ ap (take at) (front was.0 was.1)
          ∙ sym (front_of_torn at many reading now inside step);
      behind = λ bytes holds.
          let was = back bytes holds in
          behind_torn at many reading now bytes step
          ((torn_taken at many (length reading) was.0 bytes inside (omega (arith, inside, long was.0 was.1)) was.2).after
          ∙ ap (drop (at + many)) (front was.0 was.1));
      again = λ some bytes holds is.
          let was = back some holds in
          covers was.0 bytes (omega (arith, inside, long was.0 was.1)) was.1 (torn_again at many was.0 some bytes was.2 is);
      fronts = λ bytes len enough holds.
          let was = back bytes holds in
          let within_was : at ≤ length was.0 = omega (arith, inside, long was.0 was.1) in
          covers (take len was.0) (take len bytes) (omega (arith, length-take len was.0, within_was, inside, enough, step.no_shorter))
          (torn.fronts was.0 len (omega (arith, enough, step.no_shorter)) was.1)
          (torn_taken at many len was.0 bytes (omega (arith, inside, enough, step.no_shorter)) within_was was.2);
    }

-- a cut of such a file
pub torn_cut_to : (old new : FolderPast) (n : List ℕ) (start len : ℕ) → (torn : IsTornAt old n start 0) → len ≤ length torn.reading → new ≡ did_to old n (Shortened len 0) → IsTornAt new n 0 0
torn_cut_to old new n start len torn inside whole =
    subst (λ (p : FolderPast). IsTornAt p n 0 0) (sym whole) (torn_did old n (Shortened len 0) 0 0 (torn_cut (old.first n) (deeds_of n old.deeds) start len torn inside))

-- fewer deeds of a mending
fewer_mending : (at many k : ℕ) (reading : List ℕ) (deeds : List FileDeed) → AreMending at many reading deeds → AreMending at many reading (drop k deeds)
fewer_mending at many zero reading deeds mending = mending
fewer_mending at many (suc k) reading [] mending = mending
fewer_mending at many (suc k) reading (Made ∷ earlier) mending = absurd mending
fewer_mending at many (suc k) reading (Wrote place some rest ∷ earlier) mending = fewer_mending at many k reading earlier mending.3
fewer_mending at many (suc k) reading (Shortened len rest ∷ earlier) mending = fewer_mending at many k reading earlier mending.1
fewer_mending at many (suc k) reading (Synced done ∷ earlier) mending = fewer_mending at many k reading earlier mending.1
fewer_mending at many (suc k) reading (Listed done ∷ earlier) mending = absurd mending

-- they leave each name on the disk
mending_named : (past : FolderPast) (n m : List ℕ) (at many : ℕ) (reading : List ℕ) (deeds : List FileDeed) → AreMending at many reading deeds → IsNamed past m → IsNamed (done_to past n deeds) m
mending_named past n m at many reading [] mending named = named
mending_named past n m at many reading (Made ∷ earlier) mending named = absurd mending
mending_named past n m at many reading (Wrote place some rest ∷ earlier) mending named =
    is_named-did (done_to past n earlier) n m (Wrote place some rest) (λ e. cc) (mending_named past n m at many reading earlier mending.3 named)
mending_named past n m at many reading (Shortened len rest ∷ earlier) mending named =
    is_named-did (done_to past n earlier) n m (Shortened len rest) (λ e. cc) (mending_named past n m at many reading earlier mending.1 named)
mending_named past n m at many reading (Synced done ∷ earlier) mending named =
    is_named-did (done_to past n earlier) n m (Synced done) (λ e. cc) (mending_named past n m at many reading earlier mending.1 named)
mending_named past n m at many reading (Listed done ∷ earlier) mending named = absurd mending

-- and of other files what syncs answer for
others_sure : (past : FolderPast) (n m : List ℕ) (deeds : List FileDeed) → (m ≡ n → ⊥) → AreBytesSure (past.first m) (deeds_of m past.deeds)
    → AreBytesSure ((done_to past n deeds).first m) (deeds_of m (done_to past n deeds).deeds)
others_sure past n m [] differs sure = sure
others_sure past n m (deed ∷ earlier) differs sure =
    let mid : FolderPast = done_to past n earlier in
    subst (AreBytesSure (mid.first m)) (sym (deeds_of-other m n deed mid.deeds differs)) (others_sure past n m earlier differs sure)

-- what a mending leaves: the folder is read as before, the file is torn as before, and no more is left
pub record IsMended (name : Kind → ℕ → List ℕ) (n : List ℕ) (at many : ℕ) (old new : FolderPast) (reading : Image) : Type 0 where
  pub is : FolderIs name new reading
  pub torn : IsTornAt new n at many
  pub within : (contents : Contents) → MayLeave new contents → MayLeave old contents

module _ (name : Kind → ℕ → List ℕ) (apart : NamesApart name) (kind : Kind) (file at many : ℕ) (old : FolderPast) (reading : Image)
    (is : FolderIs name old reading) (there : file < file_count reading kind) (torn : IsTornAt old (name kind file) at many) where
  pub mended : (deeds : List FileDeed) → AreMending at many (file_of reading kind file) deeds → IsMended name (name kind file) at many old (done_to old (name kind file) deeds) reading
  mended [] mending = record { is = is; torn = torn; within = λ contents left. left }
  mended (Made ∷ earlier) mending = absurd mending
  mended (Wrote place some rest ∷ earlier) mending =
      let n : List ℕ = name kind file in
      let was = mended earlier mending.3 in
      let mid : FolderPast = done_to old n earlier in
      let bytes : List ℕ = file_of reading kind file in
      let front : some ≡ take (length some) (drop place bytes) = mending.2 ∙ ap (λ (k : ℕ). take (length some) (drop k bytes)) (sym mending.0) in
      let same : written bytes place some ≡ bytes = written_again place some bytes front in
      record {
        is =
            subst (FolderIs name (did_to mid n (Wrote place some rest)))
            (ap (λ (b : List ℕ). with_file reading kind file b) same ∙ with_file-file_of reading kind file)
            (folder_is-changed name apart mid reading kind file (Wrote place some rest) (written bytes place some) (λ e. cc) was.is there
            (ap (λ (o : Option (List ℕ)). option_map (λ b. written b place some) o) (was.is.seen.there kind file there)));
        torn = torn_did mid n (Wrote place some rest) at many
            (torn_within (mid.first n) (deeds_of n mid.deeds) at many place some rest was.torn (omega (arith, mending.0)) (omega (arith, mending.0, mending.1)));
        within = λ contents left. was.within contents
            (adds_none mid n (Wrote place some rest)
            (anew_adds_none (mid.first n) (deeds_of n mid.deeds) at many place some rest was.torn mending.0 mending.1) contents left);
      }
  mended (Shortened len rest ∷ earlier) mending =
      let n : List ℕ = name kind file in
      let was = mended earlier mending.1 in
      let mid : FolderPast = done_to old n earlier in
      let bytes : List ℕ = file_of reading kind file in
      let same : take len bytes ≡ bytes = take_all len bytes (omega (arith, mending.0)) in
      let its : was.torn.reading ≡ bytes = same_Some was.torn.reading bytes (sym was.torn.is ∙ was.is.seen.there kind file there) in
      let asked : len ≡ length was.torn.reading + rest = omega (arith, mending.0, ap length its) in
      record {
        is =
            subst (FolderIs name (did_to mid n (Shortened len rest)))
            (ap (λ (b : List ℕ). with_file reading kind file b) same ∙ with_file-file_of reading kind file)
            (folder_is-changed name apart mid reading kind file (Shortened len rest) (take len bytes) (λ e. cc) was.is there
            (ap (λ (o : Option (List ℕ)). option_map (take len) o) (was.is.seen.there kind file there)));
        torn = torn_did mid n (Shortened len rest) at many (torn_shortened (mid.first n) (deeds_of n mid.deeds) at many len rest was.torn asked);
        within = λ contents left. was.within contents
            (adds_none mid n (Shortened len rest) (cut_adds_none (mid.first n) (deeds_of n mid.deeds) at many len rest was.torn asked) contents left);
      }
  mended (Synced done ∷ earlier) mending =
      let n : List ℕ = name kind file in
      let was = mended earlier mending.1 in
      let mid : FolderPast = done_to old n earlier in
      record {
        is = folder_is-synced name mid reading n done was.is;
        torn = torn_did mid n (Synced done) at many
            (subst (λ (b : Bool). IsTornIn (mid.first n) (Synced b ∷ deeds_of n mid.deeds) at many) (sym mending.0) (torn_failed (mid.first n) (deeds_of n mid.deeds) at many was.torn));
        within = λ contents left. was.within contents (synced_file mid n done contents left);
      }
  mended (Listed done ∷ earlier) mending = absurd mending

  -- after some of the deeds no more is left either
  some_mended : (deeds : List FileDeed) (k : ℕ) (image : Image) → AreMending at many (file_of reading kind file) deeds
      → images_of name (record old { deeds = drop k (map (λ d. Did (name kind file) d) deeds) ++ old.deeds }) image → images_of name old image
  some_mended deeds k image mending left =
      let n : List ℕ = name kind file in
      let some : record old { deeds = drop k (map (λ d. Did n d) deeds) ++ old.deeds } ≡ done_to old n (drop k deeds) =
      ap (λ (ds : List Deed). record old { deeds = ds ++ old.deeds }) (drop_map n k deeds) ∙ sym (done_deeds old n (drop k deeds)) in (
        left.0,
        (mended (drop k deeds) (fewer_mending at many k (file_of reading kind file) deeds mending)).within left.0 (subst (λ (p : FolderPast). MayLeave p left.0) some left.1),
        left.2,
      )

  mending_now : (deeds : List FileDeed) (known : Kind → ℕ) (gave_up : Bool) (doubts : Kind → Option ℕ) (times : Times)
      → AreMending at many (file_of reading kind file) deeds → Knows name old known gave_up doubts times reading → IsInDoubt name doubts (name kind file)
      → SyncsLeave name old (done_to old (name kind file) deeds) known gave_up doubts times reading
  mending_now deeds known gave_up doubts times mending knows this =
      let n : List ℕ = name kind file in
      let new : FolderPast = done_to old n deeds in
      let added : List Deed = map (λ d. Did n d) deeds in
      let more : new ≡ record old { deeds = added ++ old.deeds } = done_deeds old n deeds in
      let all = mended deeds mending in
      record {
        knows = record {
          is = all.is;
          timed = subst (λ (p : FolderPast). IsTimed (goes_on times p) p) (sym more) (goes_on_timed times old added knows.timed);
          numbers = knows.numbers;
          no_fewer = knows.no_fewer;
          one_more = knows.one_more;
          named = λ k f inside. mending_named old n (name k f) at many (file_of reading kind file) deeds mending (knows.named k f inside);
          sure = λ goes m.
              ⊎_elim
              (λ same. inl (subst (IsInDoubt name doubts) (sym same.0) this))
              (λ other. or_still (λ sure. others_sure old n m deeds other.0 sure) (knows.sure goes m))
              (names_cases m n);
        };
        within = λ image left. (left.0, all.within left.0 left.1, left.2);
        time = subst (λ (p : FolderPast). Elapses (moment_of times) (moment_of (goes_on times p)) (images_since_of name old times) (images_since_of name p (goes_on times p)) (images_of name p)) (sym more)
            (deeds_elapse name old times added (images_of name (record old { deeds = added ++ old.deeds })) knows.timed (λ k image left. inl (some_mended deeds k image mending left)));
      }

  -- the range written anew, and the file cut where it ends
  pub anew_mending : AreMending at many (file_of reading kind file) (Shortened (length (file_of reading kind file)) 0 ∷ Wrote at (take many (drop at (file_of reading kind file))) 0 ∷ [])
  anew_mending =
      let bytes : List ℕ = file_of reading kind file in (
        omega arith,
        (
          refl,
          omega (arith, length-take many (drop at bytes)),
          sym (ap (λ (k : ℕ). take k (drop at bytes)) (length-take many (drop at bytes)) ∙ take_min many (drop at bytes)),
          tt,
        ),
      )

  pub anew_is_sure : AreBytesSure (old.first (name kind file))
      (deeds_of (name kind file)
      (done_to old (name kind file) (Shortened (length (file_of reading kind file)) 0 ∷ Wrote at (take many (drop at (file_of reading kind file))) 0 ∷ [])).deeds)
  anew_is_sure =
      let n : List ℕ = name kind file in
      let bytes : List ℕ = file_of reading kind file in
      let first : FileDeed = Wrote at (take many (drop at bytes)) 0 in
      let second : FileDeed = Shortened (length bytes) 0 in
      subst (AreBytesSure (old.first n))
      (sym (deeds_of-same n second (did_to old n first).deeds ∙ ap (λ (ds : List FileDeed). second ∷ ds) (deeds_of-same n first old.deeds)))
      (range_anew_is_sure (old.first n) (deeds_of n old.deeds) at many bytes torn (is.seen.there kind file there))

  mended_now : (known : Kind → ℕ) (doubts left : Kind → Option ℕ) (times : Times)
      → Knows name old known false doubts times reading → file < known kind → ((m : List ℕ) → IsInDoubt name doubts m → (m ≡ name kind file) ⊎ IsInDoubt name left m)
      → SyncDone name kind file old
      (did_to (done_to old (name kind file) (Shortened (length (file_of reading kind file)) 0 ∷ Wrote at (take many (drop at (file_of reading kind file))) 0 ∷ [])) (name kind file) (Synced true))
      known left times reading
  mended_now known doubts left times knows ours settles =
      let n : List ℕ = name kind file in
      let bytes : List ℕ = file_of reading kind file in
      let deeds : List FileDeed = Shortened (length bytes) 0 ∷ Wrote at (take many (drop at bytes)) 0 ∷ [] in
      let was : FolderPast = done_to old n deeds in
      let all = mended deeds anew_mending in
      record {
        knows = record {
          is = folder_is-synced name was reading n true all.is;
          timed = goes_on_timed times old (Did n (Synced true) ∷ Did n (Shortened (length bytes) 0) ∷ Did n (Wrote at (take many (drop at bytes)) 0) ∷ []) knows.timed;
          numbers = knows.numbers;
          no_fewer = knows.no_fewer;
          one_more = knows.one_more;
          named = λ k f inside. is_named-did was n (name k f) (Synced true) (λ e. cc) (mending_named old n (name k f) at many bytes deeds anew_mending (knows.named k f inside));
          sure = λ goes m.
              ⊎_elim
              (λ same. settled_sure was n (IsInDoubt name doubts) (IsInDoubt name left) m
              (subst (λ (k : List ℕ). IsInDoubt name doubts k ⊎ AreBytesSure (was.first k) (deeds_of k was.deeds)) (sym same.0) (inr anew_is_sure)) (settles m) anew_is_sure)
              (λ other. settled_sure was n (IsInDoubt name doubts) (IsInDoubt name left) m (or_still (λ sure. others_sure old n m deeds other.0 sure) (knows.sure goes m)) (settles m) anew_is_sure)
              (names_cases m n);
        };
        durable = file_sync_is_durable name was reading kind file all.is there (mending_named old n n at many bytes deeds anew_mending (knows.named kind file ours)) anew_is_sure;
        within = λ image left.
            let before = synced_within name was n true image left in
            (before.0, all.within before.0 before.1, before.2);
        time = deeds_elapse name old times (Did n (Synced true) ∷ Did n (Shortened (length bytes) 0) ∷ Did n (Wrote at (take many (drop at bytes)) 0) ∷ [])
            (images_of name (did_to was n (Synced true))) knows.timed
            (λ k image left. each k image left);
      }
    where
      each : (k : ℕ) (image : Image)
          → images_of name (record old {
            deeds = drop k (Did (name kind file) (Synced true) ∷ Did (name kind file) (Shortened (length (file_of reading kind file)) 0)
                ∷ Did (name kind file) (Wrote at (take many (drop at (file_of reading kind file))) 0) ∷ []) ++ old.deeds;
          }) image
          → images_of name old image
          ⊎ images_of name
          (did_to (done_to old (name kind file) (Shortened (length (file_of reading kind file)) 0 ∷ Wrote at (take many (drop at (file_of reading kind file))) 0 ∷ [])) (name kind file) (Synced true)) image
      each zero image left = inr left
      each (suc k) image left =
          inl (some_mended (Shortened (length (file_of reading kind file)) 0 ∷ Wrote at (take many (drop at (file_of reading kind file))) 0 ∷ []) k image anew_mending left)

pub range_anew_adds_none : (name : Kind → ℕ → List ℕ) → NamesApart name → (kind : Kind) (file at many : ℕ) (old new : FolderPast) (reading : Image)
    → FolderIs name old reading → file < file_count reading kind → IsTornAt old (name kind file) at many → MendsIn (name kind file) at many (file_of reading kind file) old new
    → Within (images_of name old) (images_of name new)
range_anew_adds_none name apart kind file at many old new reading is there torn mends image left = (
  left.0,
  (mended name apart kind file at many old reading is there torn mends.deeds mends.mending).within left.0 (subst (λ (p : FolderPast). MayLeave p left.0) mends.whole left.1),
  left.2,
)

pub mending : (name : Kind → ℕ → List ℕ) → NamesApart name
    → (kind : Kind) (file at many : ℕ) (old new : FolderPast) (known : Kind → ℕ) (gave_up : Bool) (doubts : Kind → Option ℕ) (times : Times) (reading : Image)
    → Knows name old known gave_up doubts times reading → file < file_count reading kind → IsTornAt old (name kind file) at many → IsInDoubt name doubts (name kind file)
    → MendsIn (name kind file) at many (file_of reading kind file) old new
    → SyncsLeave name old new known gave_up doubts times reading
mending name apart kind file at many old new known gave_up doubts times reading knows there torn this mends =
    subst (λ (p : FolderPast). SyncsLeave name old p known gave_up doubts times reading) (sym mends.whole)
    (mending_now name apart kind file at many old reading knows.is there torn mends.deeds known gave_up doubts times mends.mending knows this)

pub mended_sync : (name : Kind → ℕ → List ℕ) → NamesApart name
    → (kind : Kind) (file at many : ℕ) (old mid new : FolderPast) (known : Kind → ℕ) (doubts left : Kind → Option ℕ) (times : Times) (reading : Image)
    → Knows name old known false doubts times reading → file < known kind → IsTornAt old (name kind file) at many
    → ((m : List ℕ) → IsInDoubt name doubts m → (m ≡ name kind file) ⊎ IsInDoubt name left m)
    → mid ≡ did_to (did_to old (name kind file) (Wrote at (take many (drop at (file_of reading kind file))) 0)) (name kind file) (Shortened (length (file_of reading kind file)) 0)
    → new ≡ did_to mid (name kind file) (Synced true)
    → SyncDone name kind file old new known left times reading
mended_sync name apart kind file at many old mid new known doubts left times reading knows ours torn settles anew whole =
    subst (λ (p : FolderPast). SyncDone name kind file old p known left times reading) (sym (whole ∙ ap (λ (p : FolderPast). did_to p (name kind file) (Synced true)) anew))
    (mended_now name apart kind file at many old reading knows.is (omega (arith, ours, knows.no_fewer kind)) torn known doubts left times knows ours settles)
