-- Laws of what several calls do to a file.
use Rattle.std.proofs.Common.{◌<◌, ◌^◌, ◌≡◌, ◌≤◌, ◌+◌, ◌-◌, ℕ, Option, Some, List, [], ◌∷◌, ◌++◌, length, take, drop, refl, sym, ap, ◌∙◌, subst, ⊎_elim, arith, append_assoc, length-append, length-take, length-drop, take-append-drop}
use Rattle.std.proofs.lemmas.Bool.{cases_lt}
use Rattle.std.proofs.lemmas.List.{append-nil, take_all, take_at, drop_at, take-append-le}
use Rattle.std.specs.Option.{option_map, unwrap_or}
use Rattle.std.proofs.Math.Seq.{take-add}
use Rattle.disk_model.specs.declared.kind.Kind.{Kind}
use Rattle.disk_model.specs.Image.{Image, file_count, file_of, with_file, written}
use Rattle.disk_model.specs.Crash.{Torn, OnFile, Follows}
use Rattle.disk_model.specs.steps.CrashLaws.{torn_none, torn_written, length-written, on_file_none}
use Rattle.disk_model.specs.steps.ImageLaws.{file_of-with_file, with_file-with_file, with_file_past}
use Rattle.folder_model.specs.Calls.{WritesInPart}
use Rattle.folder_model.specs.File.{FileDeed, Made, Wrote, Shortened, Synced, Listed, Crash, MayHold}
use Rattle.folder_model.specs.Folder.{Contents, FolderPast, did_to, deeds_of, contents_of, bytes_of, MayLeave}
use Rattle.folder_model.specs.Seen.{NamesApart, images_of}
use Rattle.folder_model.specs.Whole.{done_to, AreWrites, Covers, IsInFile, IsWriting}
use Rattle.folder_model.specs.steps.FolderLaws.{takes_none, wrote_keeps, deeds_of-same}
use Rattle.folder_model.specs.steps.ReadingLaws.{contents_of-same}
use Rattle.folder_model.specs.steps.SeenLaws.{write_follows}
use Rattle.folder_model.specs.steps.TornLaws.{torn_wider, torn_again, torn_nothing, torn_split}

-- a step that may be taken twice, on one file
on_file_again : (kind : Kind) (file : ℕ) (Step : List ℕ → List ℕ → Type 0) → ((a b c : List ℕ) → Step a b → Step b c → Step a c)
    → (one two three : Image) → OnFile kind file Step one two → OnFile kind file Step two three → OnFile kind file Step one three
on_file_again kind file Step again one two three first second = record {
  bytes = second.bytes;
  step =
      ⊎_elim
      (λ there. again (file_of one kind file) first.bytes second.bytes first.step
      (subst (λ (b : List ℕ). Step b second.bytes) (ap (λ (i : Image). file_of i kind file) first.whole ∙ file_of-with_file one kind file first.bytes there) second.step))
      (λ past. subst (λ (i : Image). Step (file_of i kind file) second.bytes) (first.whole ∙ with_file_past one kind file first.bytes past) second.step)
      (cases_lt file (file_count one kind));
  whole =
      second.whole ∙ ap (λ (i : Image). with_file i kind file second.bytes) first.whole
      ∙ with_file-with_file one kind file first.bytes second.bytes;
}

-- writes within a range are one torn write of it
pub writes_follow : (name : Kind → ℕ → List ℕ) → NamesApart name → (kind : Kind) (file : ℕ) → file < 2 ^ 32 → (past : FolderPast) (at many : ℕ) (deeds : List FileDeed)
    → AreWrites at many deeds
    → Follows (OnFile kind file (Torn at many)) (images_of name past) (images_of name (done_to past (name kind file) deeds))
writes_follow name apart kind file number past at many [] writes image left =
    (image, left, on_file_none kind file (Torn at many) image (torn_none at many (file_of image kind file)))
writes_follow name apart kind file number past at many (Made ∷ earlier) writes image left = absurd writes
writes_follow name apart kind file number past at many (Wrote place bytes rest ∷ earlier) writes image left =
    let was = write_follows name apart kind file number (done_to past (name kind file) earlier) place bytes rest image left in
    let first = writes_follow name apart kind file number past at many earlier writes.2 was.0 was.1 in
    let wider : OnFile kind file (Torn at many) was.0 image = record {
      bytes = was.2.bytes;
      step = torn_wider at many place (length bytes + rest) (file_of was.0 kind file) was.2.bytes writes.0 writes.1 was.2.step;
      whole = was.2.whole;
    } in
    (first.0, first.1, on_file_again kind file (Torn at many) (torn_again at many) first.0 was.0 image first.2 wider)
writes_follow name apart kind file number past at many (Shortened len rest ∷ earlier) writes image left = absurd writes
writes_follow name apart kind file number past at many (Synced done ∷ earlier) writes image left = absurd writes
writes_follow name apart kind file number past at many (Listed done ∷ earlier) writes image left = absurd writes

-- and take nothing away from what a crash may leave
pub writes_keep : (past : FolderPast) (n : List ℕ) (at many : ℕ) (deeds : List FileDeed) (contents : Contents)
    → AreWrites at many deeds → MayLeave past contents → MayLeave (done_to past n deeds) contents
writes_keep past n at many [] contents writes left = left
writes_keep past n at many (Made ∷ earlier) contents writes left = absurd writes
writes_keep past n at many (Wrote place bytes rest ∷ earlier) contents writes left =
    takes_none (done_to past n earlier) n (Wrote place bytes rest)
    (wrote_keeps ((done_to past n earlier).first n) (deeds_of n (done_to past n earlier).deeds) place bytes rest)
    contents (writes_keep past n at many earlier contents writes.2 left)
writes_keep past n at many (Shortened len rest ∷ earlier) contents writes left = absurd writes
writes_keep past n at many (Synced done ∷ earlier) contents writes left = absurd writes
writes_keep past n at many (Listed done ∷ earlier) contents writes left = absurd writes

-- ---- a write in parts

-- before the first part
pub none_written : (name : List ℕ) (at : ℕ) (bytes : List ℕ) (past : FolderPast) → IsInFile past name at → IsWriting name at bytes 0 past past
none_written name at bytes past in_file =
    let start : at + 0 ≡ at = omega arith in
    let nothing : take at in_file.bytes ≡ take at in_file.bytes ++ [] = sym (append-nil (take at in_file.bytes)) in
    record {
      within = record { deeds = []; writes = tt; whole = refl };
      before = in_file.bytes;
      was = in_file.there;
      now = in_file.bytes;
      is = in_file.there;
      torn = torn_none at (length bytes) in_file.bytes;
      front = ap (λ (n : ℕ). take n in_file.bytes) start ∙ nothing;
      reach = omega (arith, in_file.inside);
      covers = λ was bytes inside holds torn. subst (MayHold (past.first name) (deeds_of name past.deeds) Crash) (sym (torn_nothing at was bytes inside torn)) holds;
    }

-- what a write at the end of the part so far leaves of it: the part, and the new bytes behind it
front_written : (now some : List ℕ) (place n : ℕ) → place ≤ length now → n ≤ length some → take (place + n) (written now place some) ≡ take place now ++ take n some
front_written now some place n inside fits =
    let len : length (take place now) ≡ place = length-take place now ∙ omega (arith, inside) in
    take-append-le (place + n) (take place now ++ some) (drop (place + length some) now) (omega (arith, length-append (take place now) some, len, fits))
    ∙ take_behind (take place now) some place n len
  where
    take_behind : (front some : List ℕ) (place n : ℕ) → length front ≡ place → take (place + n) (front ++ some) ≡ front ++ take n some
    take_behind front some place n len =
        take-add place n (front ++ some)
        ∙ (λ i. take_at front some place len i ++ take n (drop_at front some place len i))

-- one write more covers what it writes, and what it was to write
pub one_covers : (name : List ℕ) (at done n place : ℕ) (some : List ℕ) (rest : ℕ) (old mid new : FolderPast) → place ≡ at + done → n ≤ length some + rest
    → Covers name at done old mid → new ≡ did_to mid name (Wrote place some rest) → Covers name at (done + n) old new
one_covers name at done n place some rest old mid new is_place few so_far whole was bytes inside holds torn =
    let parts = torn_split at done n was bytes inside torn in
    let deed : FileDeed = Wrote place some rest in
    let held : MayHold (mid.first name) (deed ∷ deeds_of name mid.deeds) Crash bytes = (
      parts.0,
      so_far was parts.0 inside holds parts.1,
      torn_wider place (length some + rest) (at + done) n parts.0 bytes (omega (arith, is_place)) (omega (arith, is_place, few)) parts.2,
    ) in
    subst (λ (p : FolderPast). MayHold (p.first name) (deeds_of name p.deeds) Crash bytes) (sym whole)
    (subst (λ (ds : List FileDeed). MayHold (mid.first name) ds Crash bytes) (sym (deeds_of-same name deed mid.deeds)) held)

-- one write more, at the end of the part so far, of which `some` bytes stand there and the first n of them are the next ones
one_written : (name : List ℕ) (at : ℕ) (bytes : List ℕ) (done n place : ℕ) (some : List ℕ) (rest : ℕ) (old mid new : FolderPast)
    → done + n ≤ length bytes → n ≤ length some → place ≡ at + done → done + (length some + rest) ≤ length bytes
    → take n some ≡ take n (drop done bytes)
    → IsWriting name at bytes done old mid
    → new ≡ did_to mid name (Wrote place some rest)
    → IsWriting name at bytes (done + n) old new
one_written name at bytes done n place some rest old mid new fits few is_place in_range next so_far whole =
    let now : List ℕ = written so_far.now place some in
    let inside : place ≤ length so_far.now = omega (arith, so_far.reach, is_place) in
    let stands : take (place + n) now ≡ take place so_far.now ++ take n some = front_written so_far.now some place n inside few in
    let ends : at + (done + n) ≡ place + n = omega (arith, is_place) in
    let begin : take place so_far.now ≡ take at so_far.before ++ take done bytes = ap (λ (k : ℕ). take k so_far.now) is_place ∙ so_far.front in
    let longer : place + length some ≤ length now = omega (arith, length-written so_far.now place some, inside) in
    record {
      within = record {
        deeds = Wrote place some rest ∷ so_far.within.deeds;
        writes = (omega (arith, is_place), omega (arith, is_place, in_range), so_far.within.writes);
        whole = whole ∙ ap (λ (p : FolderPast). did_to p name (Wrote place some rest)) so_far.within.whole;
      };
      before = so_far.before;
      was = so_far.was;
      now = now;
      is =
          ap (λ (p : FolderPast). contents_of p name) whole
          ∙ contents_of-same mid name (Wrote place some rest)
          ∙ ap (λ (o : Option (List ℕ)). option_map (λ old. written old place some) o) so_far.is;
      torn = torn_again at (length bytes) so_far.before so_far.now now so_far.torn
          (torn_wider at (length bytes) place (length some) so_far.now now (omega (arith, is_place)) (omega (arith, is_place, in_range))
          (torn_written place (length some) so_far.now some (omega arith)));
      front =
          ap (λ (k : ℕ). take k now) ends ∙ stands
          ∙ (λ i. begin i ++ next i)
          ∙ append_assoc (take at so_far.before) (take done bytes) (take n (drop done bytes))
          ∙ ap (λ (xs : List ℕ). take at so_far.before ++ xs) (sym (take-add done n bytes));
      reach = omega (arith, ends, longer, few);
      covers = one_covers name at done n place some rest old mid new is_place (omega (arith, few)) so_far.covers whole;
    }

-- a part that was written
pub part_written : (name : List ℕ) (at : ℕ) (bytes : List ℕ) (done n place : ℕ) (old mid new : FolderPast)
    → done + n ≤ length bytes → place ≡ at + done
    → IsWriting name at bytes done old mid
    → new ≡ did_to mid name (Wrote place (take n (drop done bytes)) 0)
    → IsWriting name at bytes (done + n) old new
part_written name at bytes done n place old mid new fits is_place so_far whole =
    let len : length (take n (drop done bytes)) ≡ n = length-take n (drop done bytes) ∙ omega (arith, length-drop done bytes, fits) in
    one_written name at bytes done n place (take n (drop done bytes)) 0 old mid new fits (omega (arith, len)) is_place (omega (arith, len, fits))
    (take_all n (take n (drop done bytes)) (omega (arith, len))) so_far whole

-- a call that failed leaves the part so far
pub part_failed : (name : List ℕ) (at : ℕ) (bytes : List ℕ) (done place : ℕ) (some : List ℕ) (rest : ℕ) (old mid new : FolderPast)
    → done ≤ length bytes → place ≡ at + done → length some + rest ≡ length (drop done bytes)
    → IsWriting name at bytes done old mid
    → new ≡ did_to mid name (Wrote place some rest)
    → IsWriting name at bytes done old new
part_failed name at bytes done place some rest old mid new inside is_place sum so_far whole =
    let same : done + 0 ≡ done = omega arith in
    subst (λ (k : ℕ). IsWriting name at bytes k old new) same
    (one_written name at bytes done 0 place some rest old mid new (omega (arith, inside)) (omega arith) is_place (omega (arith, sum, length-drop done bytes, inside))
    refl so_far whole)

-- a call that failed covers all that it was to write
pub failed_covers : (name : List ℕ) (at : ℕ) (bytes : List ℕ) (done place : ℕ) (piece : List ℕ) (old mid new : FolderPast) → done ≤ length bytes → place ≡ at + done
    → piece ≡ drop done bytes → Covers name at done old mid → WritesInPart name place piece mid new → Covers name at (length bytes) old new
failed_covers name at bytes done place piece old mid new inside is_place is so_far part =
    let all : length part.bytes + length part.rest ≡ length bytes - done = sym (length-append part.bytes part.rest) ∙ ap length (part.all ∙ is) ∙ length-drop done bytes in
    let sum : done + (length bytes - done) ≡ length bytes = omega (arith, inside) in
    subst (λ (k : ℕ). Covers name at k old new) sum
    (one_covers name at done (length bytes - done) place part.bytes (length part.rest) old mid new is_place (omega (arith, all)) so_far part.whole)

-- once all is written reads find the bytes in their place
pub all_written : (name : List ℕ) (at : ℕ) (bytes : List ℕ) (old new : FolderPast) → (writing : IsWriting name at bytes (length bytes) old new)
    → contents_of new name ≡ Some (written writing.before at bytes)
all_written name at bytes old new writing =
    let front : take (at + length bytes) writing.now ≡ take at writing.before ++ bytes =
    writing.front ∙ ap (λ (xs : List ℕ). take at writing.before ++ xs) (take_all (length bytes) bytes (omega arith)) in
    writing.is ∙ ap (λ (b : List ℕ). Some b)
    (sym (take-append-drop (at + length bytes) writing.now)
    ∙ (λ i. front i ++ writing.torn.after i))

-- the end of the part so far isn't past the end of the file
pub writing_inside : (name : List ℕ) (at : ℕ) (bytes : List ℕ) (done place : ℕ) (old new : FolderPast) → place ≡ at + done → IsWriting name at bytes done old new
    → place ≤ length (bytes_of new name)
writing_inside name at bytes done place old new is_place writing =
    let found : bytes_of new name ≡ writing.now = ap (λ (o : Option (List ℕ)). unwrap_or o []) writing.is in
    omega (arith, is_place, writing.reach, ap length found)
