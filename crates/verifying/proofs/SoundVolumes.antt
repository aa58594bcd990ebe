-- Of a sound book whose texts the files hold each volume is sound, and so is what is told of it.
use Rattle.std.proofs.Common.{◌≡◌, ℕ, zero, suc, ◌+◌, ◌^◌, ◌<◌, ◌≤◌, Bool, true, false, ◌||◌, nat_eq, List, [], ◌∷◌, ◌++◌, length, map, take, drop, get_or, All, Some, slice_get, refl, sym, ap, subst, ◌∙◌, inl, inr, arith, append_assoc, append-nil, length-append, eq-eqb}
use Rattle.std.proofs.Math.Seq.{drop-append_seam, take-append_seam}
use Rattle.std.specs.List.{list_any}
use Rattle.std.proofs.lemmas.Bool.{cases_lt}
use Rattle.std.proofs.lemmas.List.{drop-drop}
use Rattle.std.proofs.lemmas.List.Elements.{All-cons, All-get_or, All-head, All-nil, All-tail}
use Rattle.std.proofs.lemmas.Option.{get_or_from_slice_get, slice_get_within}
use Rattle.archive_shelf.specs.Openings.{ImageStandsFor}
use Rattle.archive_volumes.specs.Facts.{facts_from, facts_of}
use Rattle.archive_volumes.specs.declared.volume_facts.VolumeFacts.{VolumeFacts}
use Rattle.capture.specs.Captures.{captures_in, first_number}
use Rattle.capture.specs.Tails.{IsRest}
use Rattle.capture.specs.declared.book.Book.{Book}
use Rattle.capture.specs.declared.book.Volume.{Volume}
use Rattle.disk_model.specs.Image.{Image, file_of}
use Rattle.disk_model.specs.declared.kind.Kind.TheVariants.{Warc}
use Rattle.fixity.proofs.OneVerdict.{one_verdict}
use Rattle.fixity.specs.Verdicts.{GroupStands, InfoEndsAt, IsSoundRest, IsVerdict, StandsUpTo, volume_of}
use Rattle.fixity.specs.declared.verdict.Verdict.{Verdict}
use Rattle.fixity.specs.declared.verdict.Verdict.TheVariants.{Sound}
use Rattle.verifying.specs.Verified.{SoundVolumesVerify}
use Rattle.verifying.specs.Verifies.{Checked, IsRight, is_damaged}
use Rattle.time_text.specs.Texts.{InRange}
use Rattle.warc_scan.proofs.FoundGroups.{group_found, group_is_found}
use Rattle.warc_journal.specs.Extents.{warc_files}
use Rattle.warc_text.proofs.BookLaws.{captures_in-append, slice_get-append}
use Rattle.warc_text.specs.Books.{IsGroupText, IsVolumeText, joined}
use Rattle.warc_text.specs.Records.{info_text}
use Rattle.warc_text.specs.Sound.{IsSound}
use Rattle.warc_text.specs.StandsFor.{StandsFor, commit_byte}

-- ---- what stands in a volume's file

-- a group is no longer than all of them
group_within : (groups : List (List ℕ)) (j : ℕ) → j < length groups → length (get_or groups j []) ≤ length (joined groups)
group_within [] j less = absurd (omega (arith, less))
group_within (g ∷ groups) zero less = omega (arith, length-append g (joined groups))
group_within (g ∷ groups) (suc j) less =
    omega (arith, length-append g (joined groups), group_within groups j (omega (arith, less)))

empty_rest : (last : Bool) → IsSoundRest last []
empty_rest true = inl refl
empty_rest false = refl

last_rest : (last : Bool) (rest : List ℕ) → last ≡ true → IsRest commit_byte rest → IsSoundRest last rest
last_rest true rest e is = is
last_rest false rest e is = cc e

module _ (book : Book) (sound : IsSound book) where
  groups_stand : (k first count : ℕ) (last : Bool) (bytes tail : List ℕ) (groups : List (List ℕ)) (n from : ℕ)
      → ((j : ℕ) → j < length groups → IsGroupText book (first + n + j) (get_or groups j []))
      → ((j : ℕ) → j < length groups → length (get_or groups j []) < 2 ^ 63)
      → StandsUpTo (volume_of k book.namespace first count last) bytes n from → drop from bytes ≡ joined groups ++ tail
      → (place : ℕ) × StandsUpTo (volume_of k book.namespace first count last) bytes (n + length groups) place × (drop place bytes ≡ tail)
  groups_stand k first count last bytes tail [] n from each short stands behind =
      let same : n ≡ n + 0 = omega arith in
      (from, subst (λ m. StandsUpTo (volume_of k book.namespace first count last) bytes m from) same stands, behind)
  groups_stand k first count last bytes tail (g ∷ groups) n from each short stands behind =
      let here : first + n + 0 ≡ first + n = omega arith in
      let is : IsGroupText book (first + n) g = subst (λ m. IsGroupText book m g) here (each 0 (omega arith)) in
      let small : length g < 2 ^ 63 = short 0 (omega arith) in
      let whole : drop from bytes ≡ g ++ (joined groups ++ tail) = behind ∙ append_assoc g (joined groups) tail in
      let group : GroupStands book.namespace (first + n) bytes from (from + length g) = record {
        group = group_found book sound (first + n) g is small;
        begins = record { text = g; rest = joined groups ++ tail; composed = whole; is = group_is_found book sound (first + n) g is small };
        ends = refl;
      } in
      let next : drop (from + length g) bytes ≡ joined groups ++ tail =
      sym (drop-drop (length g) from bytes) ∙ ap (drop (length g)) whole ∙ drop-append_seam g (joined groups ++ tail) in
      let further : (j : ℕ) → j < length groups → IsGroupText book (first + suc n + j) (get_or groups j []) =
      λ j less. let m : first + n + suc j ≡ first + suc n + j = omega arith in
      subst (λ m. IsGroupText book m (get_or groups j [])) m (each (suc j) (omega (arith, less))) in
      let rest = groups_stand k first count last bytes tail groups (suc n) (from + length g) further (λ j less. short (suc j) (omega (arith, less)))
      (from, stands, group) next in
      let all : suc n + length groups ≡ n + suc (length groups) = omega arith in
      (rest.0, subst (λ m. StandsUpTo (volume_of k book.namespace first count last) bytes m rest.0) all rest.1, rest.2)

  -- a volume's file is its text, and what may stand behind it
  file_stands : (k first count : ℕ) (last : Bool) (text tail file : List ℕ) → (is : IsVolumeText book k text) → first ≡ first_number book k
      → count ≡ length is.volume.captures → file ≡ text ++ tail → IsSoundRest last tail
      → (place : ℕ) × IsVerdict (volume_of k book.namespace first count last) file (Sound place)
  file_stands k first count last text tail file is first_is count_is composed rest =
      let info = info_text book.namespace k is.volume.born in
      let whole : file ≡ info ++ (joined is.groups ++ tail) =
      composed ∙ ap (λ (l : List ℕ). l ++ tail) is.composed ∙ append_assoc info (joined is.groups) tail in
      let born : InRange is.volume.born =
      subst (λ (v : Volume). InRange v.born) (get_or_from_slice_get book.volumes k is.volume is.volume is.placed)
      (All-get_or (λ (v : Volume). InRange v.born) book.volumes k is.volume (slice_get_within book.volumes k is.volume is.placed) sound.births) in
      let begins : InfoEndsAt k book.namespace file (length info) = record {
        born = is.volume.born;
        begins = record {
          text = info;
          rest = joined is.groups ++ tail;
          composed = whole;
          is = record { namespace_is = sound.namespace_is; date = born; composed = refl; len_is = refl };
        };
      } in
      let long : length (joined is.groups) < 2 ^ 62 =
      omega (arith, sound.short_texts k text is, ap length is.composed, length-append info (joined is.groups)) in
      let each : (j : ℕ) → j < length is.groups → IsGroupText book (first + 0 + j) (get_or is.groups j []) =
      λ j less. let m : first_number book k + j ≡ first + 0 + j = omega (arith, first_is) in
      subst (λ m. IsGroupText book m (get_or is.groups j [])) m (is.each j less) in
      let behind : drop (length info) file ≡ joined is.groups ++ tail = ap (drop (length info)) whole ∙ drop-append_seam info (joined is.groups ++ tail) in
      let stood = groups_stand k first count last file tail is.groups 0 (length info) each (λ j less. omega (arith, group_within is.groups j less, long)) begins behind in
      let all : 0 + length is.groups ≡ count = omega (arith, is.count, count_is) in (
        stood.0,
        (
          subst (λ m. StandsUpTo (volume_of k book.namespace first count last) file m stood.0) all stood.1,
          subst (λ (l : List ℕ). IsSoundRest last l) (sym stood.2) rest,
        ),
      )

  volume_stands : (files : List (List ℕ)) (k first count : ℕ) → StandsFor files book → k < length book.volumes → first ≡ first_number book k
      → ((v : Volume) → slice_get book.volumes k ≡ Some v → count ≡ length v.captures)
      → (place : ℕ) × IsVerdict (volume_of k book.namespace first count (nat_eq (suc k) (length book.volumes))) (get_or files k []) (Sound place)
  volume_stands files k first count stands there first_is count_is =
      let last = nat_eq (suc k) (length book.volumes) in
      let text = get_or stands.texts k [] in
      let is : IsVolumeText book k text = stands.are.each k (omega (arith, there, stands.are.count)) in
      elim (cases_lt (k + 1) (length stands.texts)) [
        | inl less ↦ file_stands k first count last text [] (get_or files k []) is first_is (count_is is.volume is.placed)
            (stands.held.sealed k less ∙ sym (append-nil text)) (empty_rest last)
        | inr past ↦
            let held = stands.held.last k (omega (arith, past, there, stands.are.count)) in
            let e : suc k ≡ length book.volumes = omega (arith, past, there, stands.are.count) in
            file_stands k first count last text held.rest (get_or files k []) is first_is (count_is is.volume is.placed) held.composed
            (last_rest last held.rest (eq-eqb (suc k) (length book.volumes) e) held.unfinished)
      ]

-- ---- what an archive tells of its volumes

-- what is told of one of the volumes
record IsFact (volumes : List Volume) (facts : VolumeFacts) : Type 0 where
  within : facts.volume < length volumes
  first_is : facts.first ≡ length (captures_in (take facts.volume volumes))
  count_is : (v : Volume) → slice_get volumes facts.volume ≡ Some v → facts.count ≡ length v.captures

facts_are : (before volumes : List Volume) → All (IsFact (before ++ volumes)) (facts_from (length before) (length (captures_in before)) volumes)
facts_are before [] = All-nil (IsFact (before ++ []))
facts_are before (v ∷ volumes) =
    let all = before ++ v ∷ volumes in
    let on : (before ++ v ∷ []) ++ volumes ≡ all = append_assoc before (v ∷ []) volumes in
    let next : length (before ++ v ∷ []) ≡ suc (length before) = omega (arith, length-append before (v ∷ [])) in
    let sum : length (captures_in (before ++ v ∷ [])) ≡ length (captures_in before) + length v.captures =
    omega (
      arith,
      ap length (captures_in-append before (v ∷ [])),
      length-append (captures_in before) (captures_in (v ∷ [])),
      ap length (append-nil v.captures),
    ) in
    let placed : slice_get all (length before) ≡ Some v =
    ap (slice_get all) (omega arith) ∙ slice_get-append before (v ∷ volumes) 0 in
    let here : IsFact all (record { volume = length before; first = length (captures_in before); count = length v.captures }) = record {
      within = omega (arith, length-append before (v ∷ volumes));
      first_is = ap (λ (l : List Volume). length (captures_in l)) (sym (take-append_seam before (v ∷ volumes)));
      count_is = λ w is. let same : v ≡ w = cc (placed, is) in ap (λ (x : Volume). length x.captures) same;
    } in
    let rest : All (IsFact all) (facts_from (suc (length before)) (length (captures_in before) + length v.captures) volumes) =
    subst (λ (l : List Volume). All (IsFact l) (facts_from (suc (length before)) (length (captures_in before) + length v.captures) volumes)) on
    (subst (λ m. All (IsFact ((before ++ v ∷ []) ++ volumes)) (facts_from m (length (captures_in before) + length v.captures) volumes)) next
    (subst (λ m. All (IsFact ((before ++ v ∷ []) ++ volumes)) (facts_from (length (before ++ v ∷ [])) m volumes)) sum (facts_are (before ++ v ∷ []) volumes))) in
    All-cons (IsFact all) _ (facts_from (suc (length before)) (length (captures_in before) + length v.captures) volumes) here rest

pub facts_long : (volume first : ℕ) (volumes : List Volume) → length (facts_from volume first volumes) ≡ length volumes
facts_long volume first [] = refl
facts_long volume first (v ∷ volumes) = ap (λ n. suc n) (facts_long (suc volume) (first + length v.captures) volumes)

-- ---- none of them is damaged

fact_sound : (image : Image) (book : Book) (c : Checked) → ImageStandsFor image book → IsFact book.volumes c.facts
    → IsRight book.namespace (length (facts_of book)) image c → is_damaged c.verdict ≡ false
unfolding file_of
fact_sound image book c stands fact right =
    let count : length (facts_of book) ≡ length book.volumes = facts_long 0 0 book.volumes in
    let stood = volume_stands book stands.sound (warc_files image) c.facts.volume c.facts.first c.facts.count stands.for fact.within fact.first_is fact.count_is in
    let one : c.verdict ≡ Sound stood.0 =
    one_verdict (volume_of c.facts.volume book.namespace c.facts.first c.facts.count (nat_eq (suc c.facts.volume) (length book.volumes))) (file_of image Warc c.facts.volume) c.verdict (Sound stood.0)
    (subst (λ n. IsRight book.namespace n image c) count right) stood.1 in
    ap (λ (v : Verdict). is_damaged v) one

none_damaged : (image : Image) (book : Book) (checked : List Checked) → ImageStandsFor image book
    → All (IsFact book.volumes) (map (λ (c : Checked). c.facts) checked)
    → All (IsRight book.namespace (length (facts_of book)) image) checked → list_any (λ (c : Checked). is_damaged c.verdict) checked ≡ false
none_damaged image book [] stands facts right = refl
none_damaged image book (c ∷ checked) stands facts right =
    ap (λ (b : Bool). b || list_any (λ (x : Checked). is_damaged x.verdict) checked)
    (fact_sound image book c stands (All-head (IsFact book.volumes) c.facts (map (λ (x : Checked). x.facts) checked) facts)
    (All-head (IsRight book.namespace (length (facts_of book)) image) c checked right))
    ∙ none_damaged image book checked stands (All-tail (IsFact book.volumes) c.facts (map (λ (x : Checked). x.facts) checked) facts)
    (All-tail (IsRight book.namespace (length (facts_of book)) image) c checked right)

pub sound_volumes_verify : SoundVolumesVerify
sound_volumes_verify image book checked stands all right =
    none_damaged image book checked stands (subst (All (IsFact book.volumes)) (sym all) (facts_are [] book.volumes)) right
