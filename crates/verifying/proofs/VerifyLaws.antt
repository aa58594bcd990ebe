-- A volume more was checked; what an archive tells of its volumes; and what was told of them all.
use Rattle.std.proofs.Common.{◌≡◌, ℕ, zero, suc, ◌+◌, ◌<◌, ◌≤◌, Bool, true, false, ◌||◌, nat_eq, List, [], ◌∷◌, ◌++◌, length, get_or, All, refl, sym, ap, subst, ◌∙◌, inl, inr, ⊎_elim, arith, append_assoc, append-nil, length-append}
use Rattle.std.specs.Prelude.{IsTrue, None, Option, codes, map}
use Rattle.std.specs.List.{list_any}
use Rattle.std.proofs.lemmas.Bool.{cases_lt}
use Rattle.std.proofs.lemmas.List.{map-append}
use Rattle.std.proofs.lemmas.List.Concat.{flat_map-append}
use Rattle.std.proofs.lemmas.List.Elements.{All-append, All-cons, All-nil}
use Rattle.archive_core.specs.Holdings.{Holdings}
use Rattle.archive_reopening.specs.Known.{IsReopenedKnown, by_checkpoints}
use Rattle.archive_opening.specs.Counting.{HasCountsOf, HasInfo}
use Rattle.archive_volumes.specs.Facts.{facts_from, facts_of}
use Rattle.archive_volumes.specs.declared.volume_facts.VolumeFacts.{VolumeFacts}
use Rattle.capture.specs.Captures.{captures_in}
use Rattle.capture.specs.Faults.{Rose}
use Rattle.capture.specs.Tails.{IsCommitted}
use Rattle.capture.specs.declared.book.Book.{Book}
use Rattle.capture.specs.declared.book.Volume.{Volume}
use Rattle.disk_model.specs.Image.{Image, file_count, file_of, files_of}
use Rattle.disk_model.specs.declared.disk.Disk.{Ghosts as Disks}
use Rattle.disk_model.specs.declared.kind.Kind.TheVariants.{Warc}
use Rattle.fixity.specs.Verdicts.{IsVerdict, volume_of}
use Rattle.fixity.specs.declared.verdict.Verdict.{Verdict}
use Rattle.outside.specs.declared.sink.Sink.{Ghosts as Sinks}
use Rattle.command.specs.Opening.{IsOpened, usual_limits}
use Rattle.command.specs.Printing.{Prints, printed_as}
use Rattle.verifying.specs.Verifies.{Checked, ChecksVolumes, IsRight, IsVerified, is_damaged, lines_of, verdict_line}
use Rattle.verifying.specs.declared.plan.Plan.{Plan}
use Rattle.verifying.specs.declared.report.Report.{Report}
use Rattle.command.specs.declared.status.Status.{Status}
use Rattle.command.specs.declared.status.Status.TheVariants.{Archive, Memory}
use Rattle.verifying.specs.steps.Verifying.{HasChecked, IsThere}
use Rattle.warc_journal.specs.Journals.{disk_of}
use Rattle.warc_text.proofs.InfoLaws.{infos_are_committed}
use Rattle.warc_text.specs.StandsFor.{commit_byte}

-- ---- a volume more

or_swap : (a b c : Bool) → (a || (b || c)) ≡ (b || (a || c))
or_swap true true c = refl
or_swap true false c = refl
or_swap false b c = refl

damage_push : (checked : List Checked) (c : Checked)
    → list_any (λ (x : Checked). is_damaged x.verdict) (checked ++ c ∷ []) ≡ (is_damaged c.verdict || list_any (λ (x : Checked). is_damaged x.verdict) checked)
damage_push [] c = refl
damage_push (x ∷ checked) c =
    ap (λ (b : Bool). is_damaged x.verdict || b) (damage_push checked c)
    ∙ or_swap (is_damaged x.verdict) (is_damaged c.verdict) (list_any (λ (y : Checked). is_damaged y.verdict) checked)

pub checked_more : (tells : Bool) (image : Image) (plan : Plan) (facts : VolumeFacts) (others : List VolumeFacts) (was is : Report) (last : Bool) (verdict : Verdict)
    → last ≡ nat_eq (suc facts.volume) (length plan.volumes.items)
    → (IsTrue tells → IsVerdict (volume_of facts.volume plan.namespace facts.first facts.count last) (file_of image Warc facts.volume) verdict)
    → is.lines.items ≡ was.lines.items ++ verdict_line facts.volume verdict → is.damaged ≡ (is_damaged verdict || was.damaged)
    → HasChecked tells image plan (facts ∷ others) was → HasChecked tells image plan others is
checked_more tells image plan facts others was is last verdict last_is right lines damaged before =
    let c : Checked = record { facts = facts; verdict = verdict } in
    let last_right : IsTrue tells → IsRight plan.namespace (length plan.volumes.items) image c =
    λ told. subst (λ (b : Bool). IsVerdict (volume_of facts.volume plan.namespace facts.first facts.count b) (file_of image Warc facts.volume) verdict) last_is
    (right told) in
    record {
      checked = before.checked ++ c ∷ [];
      front = ap (λ (l : List VolumeFacts). l ++ others) (map-append (λ (x : Checked). x.facts) before.checked (c ∷ []))
          ∙ append_assoc (map (λ (x : Checked). x.facts) before.checked) (facts ∷ []) others ∙ before.front;
      right = λ told. All-append (IsRight plan.namespace (length plan.volumes.items) image) before.checked (c ∷ []) (before.right told)
          (All-cons (IsRight plan.namespace (length plan.volumes.items) image) c [] (last_right told) (All-nil (IsRight plan.namespace (length plan.volumes.items) image)));
      lines_are = lines ∙ ap (λ (l : List ℕ). l ++ verdict_line facts.volume verdict) before.lines_are
          ∙ ap (λ (l : List ℕ). lines_of before.checked ++ l) (sym (append-nil (verdict_line facts.volume verdict)))
          ∙ sym (flat_map-append (λ (x : Checked). verdict_line x.facts.volume x.verdict) before.checked (c ∷ []));
      damaged_is = damaged ∙ ap (λ (b : Bool). is_damaged verdict || b) before.damaged_is ∙ sym (damage_push before.checked c);
    }

-- what is checked is said of the same image, where the disk tells
pub has_image : (tells : Bool) (a b : Image) (plan : Plan) (rest : List VolumeFacts) (report : Report) → (IsTrue tells → a ≡ b)
    → HasChecked tells a plan rest report → HasChecked tells b plan rest report
has_image tells a b plan rest report same has = record {
  checked = has.checked;
  front = has.front;
  right = λ told. subst (λ (i : Image). All (IsRight plan.namespace (length plan.volumes.items) i) has.checked) (same told) (has.right told);
  lines_are = has.lines_are;
  damaged_is = has.damaged_is;
}

-- ---- what an archive tells of its volumes

pub facts_within : (most volume first : ℕ) (volumes : List Volume) → first + length (captures_in volumes) ≤ most
    → All (λ (facts : VolumeFacts). facts.first + facts.count ≤ most) (facts_from volume first volumes)
facts_within most volume first [] le = All-nil (λ (facts : VolumeFacts). facts.first + facts.count ≤ most)
facts_within most volume first (v ∷ volumes) le =
    let long = length-append v.captures (captures_in volumes) in
    All-cons (λ (facts : VolumeFacts). facts.first + facts.count ≤ most) _ (facts_from (suc volume) (first + length v.captures) volumes) (omega (arith, le, long))
    (facts_within most (suc volume) (first + length v.captures) volumes (omega (arith, le, long)))

pub facts_there : (files volume first : ℕ) (volumes : List Volume) → volume + length volumes ≤ files
    → All (λ (facts : VolumeFacts). facts.volume < files) (facts_from volume first volumes)
facts_there files volume first [] le = All-nil (λ (facts : VolumeFacts). facts.volume < files)
facts_there files volume first (v ∷ volumes) le =
    All-cons (λ (facts : VolumeFacts). facts.volume < files) _ (facts_from (suc volume) (first + length v.captures) volumes) (omega (arith, le))
    (facts_there files (suc volume) (first + length v.captures) volumes (omega (arith, le)))

-- a file that begins with a warcinfo is there
info_there : (image : Image) (namespace : List ℕ) (volume : ℕ) → HasInfo image namespace volume → volume < file_count image Warc
unfolding file_of
info_there image namespace volume info = ⊎_elim
    (λ (there : volume < file_count image Warc). there)
    (λ (past : file_count image Warc ≤ volume).
    let begins = info.1.begins in
    let some : 1 < length begins.text = (subst (IsCommitted commit_byte) (sym begins.is.composed) (infos_are_committed namespace volume info.1.born)).more in
    absurd (omega (arith, some, ap length (sym (get_or_past (files_of image Warc) volume past) ∙ begins.composed), length-append begins.text begins.rest)))
    (cases_lt volume (file_count image Warc))
  where
    get_or_past : (files : List (List ℕ)) (n : ℕ) → length files ≤ n → get_or files n [] ≡ []
    get_or_past [] n past = refl
    get_or_past (f ∷ fs) zero past = absurd (omega (arith, past))
    get_or_past (f ∷ fs) (suc n) past = get_or_past fs n (omega (arith, past))

counted_there : (image : Image) (book : Book) → HasCountsOf image book → length book.volumes ≤ file_count image Warc
counted_there image book counts = by (length book.volumes) refl
  where
    by : (n : ℕ) → length book.volumes ≡ n → length book.volumes ≤ file_count image Warc
    by zero none = omega (arith, none)
    by (suc n) some = omega (arith, some, info_there image book.namespace n (counts.infos n (omega (arith, some))))

-- the files of an archive that was opened are there
pub reopened_there : {D : Type 0} (disks : Disks D) (known : Option Book) (disk is : D) (held : Holdings D) (items : List VolumeFacts)
    → IsReopenedKnown disks (by_checkpoints disk None known) usual_limits held → is ≡ disk_of held.journal → items ≡ facts_of held.book → IsTrue disks.tells
    → All (IsThere (disks.reading is)) items
reopened_there disks known disk is held items reopened closed listed told =
    let same : disks.reading is ≡ disks.reading disk = ap disks.reading closed ∙ (reopened.rests told).read in
    let there : All (IsThere (disks.reading disk)) (facts_of held.book) =
    facts_there (file_count (disks.reading disk) Warc) 0 0 held.book.volumes (omega (arith, counted_there (disks.reading disk) held.book ((reopened.lined refl).counts told))) in
    subst (λ (i : Image). All (IsThere i) items) (sym same) (subst (λ (l : List VolumeFacts). All (IsThere (disks.reading disk)) l) (sym listed) there)

-- ---- what was told

-- the disk failed, which was told behind the lines of what was checked before
pub broke_off : {D O : Type 0} (disks : Disks D) (sinks : Sinks O) (plan : Plan) (report : Report) (lines : List ℕ) (was is : D) (out_was out_is : O) (status : Status)
    → (rest : List VolumeFacts) × HasChecked disks.tells (disks.reading was) plan rest report → Rose (disks.faults was) (disks.faults is)
    → lines ≡ report.lines.items ++ codes "disk fault\n" → Prints sinks Archive lines out_was out_is status
    → ChecksVolumes disks sinks plan.namespace plan.volumes.items was is out_was out_is status
broke_off disks sinks plan report lines was is out_was out_is status (rest, has) rose put printed = inl (
  has.checked,
  rest,
  has.front,
  has.right,
  inr (
    rose,
    subst (λ (l : List ℕ). Prints sinks Archive l out_was out_is status) (put ∙ ap (λ (l : List ℕ). l ++ codes "disk fault\n") has.lines_are) printed,
  ),
)

-- what was checked on a disk that was given back as it was
checks_from : {D O : Type 0} (disks : Disks D) (sinks : Sinks O) (namespace : List ℕ) (volumes : List VolumeFacts) (was closed is : D) (out_was out_is : O) (status : Status)
    → (IsTrue disks.tells → disks.reading closed ≡ disks.reading was) → disks.faults closed ≡ disks.faults was
    → ChecksVolumes disks sinks namespace volumes closed is out_was out_is status → ChecksVolumes disks sinks namespace volumes was is out_was out_is status
checks_from disks sinks namespace volumes was closed is out_was out_is status read faults (inl (checked, rest, front, right, ends)) = inl (
  checked,
  rest,
  front,
  λ told. subst (λ (i : Image). All (IsRight namespace (length volumes) i) checked) (read told) (right told),
  ⊎_elim
      (λ all. inl (all.0, all.1 ∙ faults, all.2))
      (λ failed. inr (subst (λ (n : ℕ). Rose n (disks.faults is)) faults failed.0, failed.1))
      ends,
)
checks_from disks sinks namespace volumes was closed is out_was out_is status read faults (inr lacks) = inr lacks

-- an archive that was opened
module _ {D O : Type 0} (disks : Disks D) (sinks : Sinks O) (known : Option Book) (was closed : D) (held : Holdings D)
    (opened : IsOpened disks (by_checkpoints was None known) held) (shut : closed ≡ disk_of held.journal) (out_was out_opened : O) (silent : out_opened ≡ out_was) where
  read : IsTrue disks.tells → disks.reading closed ≡ disks.reading was
  read told = ap disks.reading shut ∙ (opened.is.rests told).read

  verified : (is : D) (out_is : O) (status : Status) → (IsTrue disks.tells → disks.reading is ≡ disks.reading was)
      → ChecksVolumes disks sinks held.book.namespace (facts_of held.book) was is out_was out_is status → IsVerified disks sinks (by_checkpoints was None known) is (printed_as out_was out_is status)
  verified is out_is status reading checked = record {
    held = held;
    opened = opened;
    reading = reading;
    checked = checked;
  }

  -- it was checked and closed
  pub verified_by : (is : D) (plan : Plan) (out_is : O) (status : Status) → plan.namespace ≡ held.book.namespace → plan.volumes.items ≡ facts_of held.book
      → ChecksVolumes disks sinks plan.namespace plan.volumes.items closed is out_opened out_is status → (IsTrue disks.tells → disks.reading is ≡ disks.reading closed)
      → IsVerified disks sinks (by_checkpoints was None known) is (printed_as out_was out_is status)
  verified_by is plan out_is status namespace volumes checks reading =
      verified is out_is status (λ told. reading told ∙ read told)
      (checks_from disks sinks _ _ was closed is out_was out_is status read (ap disks.faults shut ∙ opened.is.faults)
      (subst (λ (o : O). ChecksVolumes disks sinks held.book.namespace (facts_of held.book) closed is o out_is status) silent
      (subst (λ (l : List VolumeFacts). ChecksVolumes disks sinks held.book.namespace l closed is out_opened out_is status) volumes
      (subst (λ (n : List ℕ). ChecksVolumes disks sinks n plan.volumes.items closed is out_opened out_is status) namespace checks))))

  -- there was no memory to say what is due
  pub not_planned : IsVerified disks sinks (by_checkpoints was None known) closed (printed_as out_was out_opened Memory)
  not_planned = verified closed out_opened Memory read (inr (record { status_is = refl; same = silent }))
