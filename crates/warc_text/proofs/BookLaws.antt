-- Files stand for one sound book at most: volume by volume, and group by group.
use Rattle.std.proofs.Common.{◌≡◌, ℕ, suc, ◌+◌, ◌^◌, ◌<◌, ◌≤◌, List, [], ◌∷◌, ◌++◌, length, length-append, append_assoc, append-nil, take, take_at, refl, sym, ap, ap₂, subst, ◌∙◌, inl, inr, arith}
use Rattle.std.specs.Prelude.{⊤, Some, slice_get, slice_index_or, unwrap_or, Option}
use Rattle.std.proofs.lemmas.Bool.{cases_lt}
use Rattle.capture.specs.Captures.{captures_in, captures, first_number}
use Rattle.capture.specs.declared.book.Book.{Book}
use Rattle.capture.specs.declared.book.Volume.{Volume}
use Rattle.capture.specs.declared.captured.Stored.{Stored}
use Rattle.warc_text.specs.Records.{info_text}
use Rattle.warc_text.specs.Groups.{IdsDiffer}
use Rattle.warc_text.specs.Ids.{IsUuid}
use Rattle.warc_text.specs.Books.{joined, IsGroupText, IsVolumeText}
use Rattle.capture.specs.Tails.{IsRest}
use Rattle.warc_text.specs.Sound.{IsSound}
use Rattle.warc_text.specs.StandsFor.{commit_byte, StandsFor, FilesStandForOneBook, FilesStandForNoVolume}
use Rattle.warc_text.proofs.InfoLaws.{BeginsRecord, begins-append, begins-info, info_front}
use Rattle.warc_text.proofs.GroupLaws.{IsGroupOf, group_of, group_front, begins-group, rest_begins_no_record}

-- ---- lists

pub slice_get-append : {X : Type 0} (xs ys : List X) (k : ℕ) → slice_get (xs ++ ys) (length xs + k) ≡ slice_get ys k
slice_get-append [] ys k = ap (slice_get ys) (omega arith)
slice_get-append (x ∷ xs) ys k =
    let one : suc (length xs) + k ≡ suc (length xs + k) = omega arith in
    ap (slice_get (x ∷ (xs ++ ys))) one ∙ slice_get-append xs ys k

-- what stands behind so many others
pub get_behind : {X : Type 0} (all front : List X) (x : X) (others : List X) (n : ℕ) → all ≡ front ++ x ∷ others → length front ≡ n → slice_get all n ≡ Some x
get_behind {X} all front x others n e long =
    ap (λ (l : List X). slice_get l n) e ∙ ap (slice_get (front ++ x ∷ others)) (omega (arith, long)) ∙ slice_get-append front (x ∷ others) 0

pub captures_in-append : (vs ws : List Volume) → captures_in (vs ++ ws) ≡ captures_in vs ++ captures_in ws
captures_in-append [] ws = refl
captures_in-append (v ∷ vs) ws = ap (λ (l : List Stored). v.captures ++ l) (captures_in-append vs ws) ∙ sym (append_assoc v.captures (captures_in vs) (captures_in ws))

-- ---- the groups of a volume

-- the groups are those of the captures, numbered from here on
abbrev pub AreGroupsOf : List ℕ → ℕ → List Stored → List (List ℕ) → Type 0
AreGroupsOf namespace n [] [] = ⊤
AreGroupsOf namespace n (c ∷ cs) (g ∷ gs) = IsGroupOf namespace n c g × AreGroupsOf namespace (suc n) cs gs
AreGroupsOf namespace n [] (g ∷ gs) = ⊥
AreGroupsOf namespace n (c ∷ cs) [] = ⊥

groups_of : (book : Book) (n : ℕ) (front cs behind : List Stored) (gs : List (List ℕ)) → IsSound book → captures book ≡ front ++ (cs ++ behind) → length front ≡ n
    → length gs ≡ length cs → ((j : ℕ) → j < length gs → IsGroupText book (n + j) (slice_index_or gs j [])) → AreGroupsOf book.namespace n cs gs
groups_of book n front [] behind [] sound e long count each = tt
groups_of book n front [] behind (g ∷ gs) sound e long count each = absurd (omega (arith, count))
groups_of book n front (c ∷ cs) behind [] sound e long count each = absurd (omega (arith, count))
groups_of book n front (c ∷ cs) behind (g ∷ gs) sound e long count each =
    let text : IsGroupText book n g = subst (λ m. IsGroupText book m g) (omega arith) (each 0 (omega arith)) in
    let next : captures book ≡ (front ++ c ∷ []) ++ (cs ++ behind) = e ∙ sym (append_assoc front (c ∷ []) (cs ++ behind)) in
    let longer : length (front ++ c ∷ []) ≡ suc n = length-append front (c ∷ []) ∙ omega (arith, long) in
    let others : (j : ℕ) → j < length gs → IsGroupText book (suc n + j) (slice_index_or gs j []) =
    λ j lt. subst (λ m. IsGroupText book m (slice_index_or gs j [])) (omega arith) (each (suc j) (omega (arith, lt))) in (
      group_of book n c g sound (get_behind (captures book) front c (cs ++ behind) n e long) text,
      groups_of book (suc n) (front ++ c ∷ []) cs behind gs sound next longer (omega (arith, count)) others,
    )

-- texts that begin with groups of one number are of the same captures
same_groups : (namespace : List ℕ) (count n : ℕ) (cs ds : List Stored) (gs hs : List (List ℕ)) (r q : List ℕ) → IdsDiffer namespace count → n + length cs ≤ count
    → AreGroupsOf namespace n cs gs → AreGroupsOf namespace n ds hs → length (joined gs) < 2 ^ 62 → length (joined hs) < 2 ^ 62 → IsRest commit_byte r → IsRest commit_byte q
    → joined gs ++ r ≡ joined hs ++ q → cs ≡ ds
same_groups namespace count n [] [] gs hs r q differ within are are₂ short short₂ rest rest₂ same = refl
same_groups namespace count n [] (d ∷ ds) [] (h ∷ hs) r q differ within are are₂ short short₂ rest rest₂ same =
    absurd (rest_begins_no_record r rest (subst BeginsRecord (sym same) (begins-append (h ++ joined hs) q (begins-append h (joined hs) (begins-group namespace n d h are₂.0)))))
same_groups namespace count n (c ∷ cs) [] (g ∷ gs) [] r q differ within are are₂ short short₂ rest rest₂ same =
    absurd (rest_begins_no_record q rest₂ (subst BeginsRecord same (begins-append (g ++ joined gs) r (begins-append g (joined gs) (begins-group namespace n c g are.0)))))
same_groups namespace count n (c ∷ cs) (d ∷ ds) (g ∷ gs) (h ∷ hs) r q differ within are are₂ short short₂ rest rest₂ same =
    let longer = length-append g (joined gs) in
    let longer₂ = length-append h (joined hs) in
    let apart : g ++ (joined gs ++ r) ≡ h ++ (joined hs ++ q) = sym (append_assoc g (joined gs) r) ∙ same ∙ append_assoc h (joined hs) q in
    let first = group_front namespace count n c d g h (joined gs ++ r) (joined hs ++ q) differ (omega (arith, within)) are.0 are₂.0 (omega (arith, longer, short)) (omega (arith, longer₂, short₂)) apart in
    let others = same_groups namespace count (suc n) cs ds gs hs r q differ (omega (arith, within)) are.1 are₂.1 (omega (arith, longer, short)) (omega (arith, longer₂, short₂)) rest rest₂ first.1 in
    ap₂ (λ (s : Stored) (l : List Stored). s ∷ l) first.0 others
same_groups namespace count n [] ds (g ∷ gs) hs r q differ within are are₂ short short₂ rest rest₂ same = absurd are
same_groups namespace count n (c ∷ cs) ds [] hs r q differ within are are₂ short short₂ rest rest₂ same = absurd are
same_groups namespace count n [] (d ∷ ds) [] [] r q differ within are are₂ short short₂ rest rest₂ same = absurd are₂
same_groups namespace count n (c ∷ cs) [] (g ∷ gs) (h ∷ hs) r q differ within are are₂ short short₂ rest rest₂ same = absurd are₂
same_groups namespace count n (c ∷ cs) (d ∷ ds) (g ∷ gs) [] r q differ within are are₂ short short₂ rest rest₂ same = absurd are₂

-- ---- a volume's file

-- the file is the volume's, whose first capture has this number
pub record IsFileOf (namespace : List ℕ) (k n : ℕ) (volume : Volume) (file : List ℕ) : Type 0 where
  pub groups : List (List ℕ)
  pub rest : List ℕ
  pub are : AreGroupsOf namespace n volume.captures groups
  pub short : length (joined groups) < 2 ^ 62
  pub unfinished : IsRest commit_byte rest
  pub composed : file ≡ info_text namespace k volume.born ++ (joined groups ++ rest)

file_of : (book : Book) (k n : ℕ) (front : List Volume) (v : Volume) (others : List Volume) (text rest : List ℕ) → IsSound book → book.volumes ≡ front ++ v ∷ others → length front ≡ k
    → length (captures_in front) ≡ n → IsVolumeText book k text → IsRest commit_byte rest → IsFileOf book.namespace k n v (text ++ rest)
file_of book k n front v others text rest sound e long number is unfinished =
    let volume : is.volume ≡ v = ap (λ (o : Option Volume). unwrap_or o v) (sym is.placed ∙ get_behind book.volumes front v others k e long) in
    let first : first_number book k ≡ n = ap (λ (l : List Volume). length (captures_in (take k l))) e ∙ ap (λ (l : List Volume). length (captures_in l)) (take_at front (v ∷ others) k long) ∙ number in
    let all : captures book ≡ captures_in front ++ (v.captures ++ captures_in others) = ap captures_in e ∙ captures_in-append front (v ∷ others) in
    let count : length is.groups ≡ length v.captures = is.count ∙ ap (λ (w : Volume). length w.captures) volume in
    let composed : text ≡ info_text book.namespace k v.born ++ joined is.groups = is.composed ∙ ap (λ (w : Volume). info_text book.namespace k w.born ++ joined is.groups) volume in
    let short = sound.short_texts k text is in
    record {
      groups = is.groups;
      rest = rest;
      are = groups_of book n (captures_in front) v.captures (captures_in others) is.groups sound all number count (λ j lt. subst (λ m. IsGroupText book (m + j) (slice_index_or is.groups j [])) first (is.each j lt));
      short = omega (arith, short, ap (λ (l : List ℕ). length l) composed, length-append (info_text book.namespace k v.born) (joined is.groups));
      unfinished = unfinished;
      composed = ap (λ (l : List ℕ). l ++ rest) composed ∙ append_assoc (info_text book.namespace k v.born) (joined is.groups) rest;
    }

same_namespace : (namespace other : List ℕ) (k n m : ℕ) (v w : Volume) (file : List ℕ) → IsUuid namespace → IsUuid other → IsFileOf namespace k n v file → IsFileOf other k m w file → namespace ≡ other
same_namespace namespace other k n m v w file is is₂ of of₂ =
    (info_front namespace other k v.born w.born (joined of.groups ++ of.rest) (joined of₂.groups ++ of₂.rest) is is₂ (sym of.composed ∙ of₂.composed)).0

same_volume : (namespace : List ℕ) (count k n : ℕ) (v w : Volume) (file : List ℕ) → IsUuid namespace → IdsDiffer namespace count → n + length v.captures ≤ count
    → IsFileOf namespace k n v file → IsFileOf namespace k n w file → v ≡ w
same_volume namespace count k n v w file is differ within of of₂ =
    let infos = info_front namespace namespace k v.born w.born (joined of.groups ++ of.rest) (joined of₂.groups ++ of₂.rest) is is (sym of.composed ∙ of₂.composed) in
    let captures₂ = same_groups namespace count n v.captures w.captures of.groups of₂.groups of.rest of₂.rest differ within of.are of₂.are of.short of₂.short of.unfinished of₂.unfinished infos.2 in
    λ i. record { born = infos.1 i; captures = captures₂ i }

-- ---- all volumes

-- the files from this one on are those of the volumes
abbrev pub AreFilesOf : List ℕ → ℕ → ℕ → List (List ℕ) → List Volume → Type 0
AreFilesOf namespace k n files [] = ⊤
AreFilesOf namespace k n files (v ∷ vs) =
    IsFileOf namespace k n v (slice_index_or files k []) × AreFilesOf namespace (suc k) (n + length v.captures) files vs

same_volumes : (namespace : List ℕ) (count k n : ℕ) (files : List (List ℕ)) (vs ws : List Volume) → IsUuid namespace → IdsDiffer namespace count
    → n + length (captures_in vs) ≤ count → length vs ≡ length ws → AreFilesOf namespace k n files vs → AreFilesOf namespace k n files ws → vs ≡ ws
same_volumes namespace count k n files [] [] is differ within long are are₂ = refl
same_volumes namespace count k n files [] (w ∷ ws) is differ within long are are₂ = absurd (omega (arith, long))
same_volumes namespace count k n files (v ∷ vs) [] is differ within long are are₂ = absurd (omega (arith, long))
same_volumes namespace count k n files (v ∷ vs) (w ∷ ws) is differ within long are are₂ =
    let sum = length-append v.captures (captures_in vs) in
    let first : v ≡ w = same_volume namespace count k n v w (slice_index_or files k []) is differ (omega (arith, sum, within)) are.0 are₂.0 in
    let behind : AreFilesOf namespace (suc k) (n + length v.captures) files ws = subst (λ (u : Volume). AreFilesOf namespace (suc k) (n + length u.captures) files ws) (sym first) are₂.1 in
    let others = same_volumes namespace count (suc k) (n + length v.captures) files vs ws is differ (omega (arith, sum, within)) (omega (arith, long)) are.1 behind in
    ap₂ (λ (u : Volume) (l : List Volume). u ∷ l) first others

same_file : (namespace : List ℕ) (k n : ℕ) (v : Volume) (file whole : List ℕ) → file ≡ whole → IsFileOf namespace k n v whole → IsFileOf namespace k n v file
same_file namespace k n v file whole same of = subst (IsFileOf namespace k n v) (sym same) of

-- the file of a volume by its place: the last, or another
file_at : (files : List (List ℕ)) (book : Book) (k n : ℕ) (front : List Volume) (v : Volume) (others : List Volume) → IsSound book → StandsFor files book
    → book.volumes ≡ front ++ v ∷ others → length front ≡ k → length (captures_in front) ≡ n → IsFileOf book.namespace k n v (slice_index_or files k [])
file_at files book k n front v others sound stands e long number =
    let count : length book.volumes ≡ k + suc (length others) = ap (λ (l : List Volume). length l) e ∙ length-append front (v ∷ others) ∙ omega (arith, long) in
    let texts : length stands.texts ≡ length book.volumes = stands.are.count in
    let text = slice_index_or stands.texts k [] in
    let volume = stands.are.each k (omega (arith, texts, count)) in
    elim (cases_lt (k + 1) (length stands.texts)) [
      | inl lt ↦ let whole : slice_index_or files k [] ≡ text ++ [] = stands.held.sealed k lt ∙ sym (append-nil text) in
          same_file book.namespace k n v (slice_index_or files k []) (text ++ []) whole (file_of book k n front v others text [] sound e long number volume (inl refl))
      | inr ge ↦ let last = stands.held.last k (omega (arith, ge, texts, count)) in
          same_file book.namespace k n v (slice_index_or files k []) (text ++ last.rest) last.composed (file_of book k n front v others text last.rest sound e long number volume last.unfinished)
    ]

files_of : (files : List (List ℕ)) (book : Book) (k n : ℕ) (front vs : List Volume) → IsSound book → StandsFor files book
    → book.volumes ≡ front ++ vs → length front ≡ k → length (captures_in front) ≡ n → AreFilesOf book.namespace k n files vs
files_of files book k n front [] sound stands e long number = tt
files_of files book k n front (v ∷ vs) sound stands e long number =
    let next : book.volumes ≡ (front ++ v ∷ []) ++ vs = e ∙ sym (append_assoc front (v ∷ []) vs) in
    let longer : length (front ++ v ∷ []) ≡ suc k = length-append front (v ∷ []) ∙ omega (arith, long) in
    let sum : length (captures_in (front ++ v ∷ [])) ≡ n + length v.captures =
    ap (λ (l : List Stored). length l) (captures_in-append front (v ∷ [])) ∙ length-append (captures_in front) (v.captures ++ []) ∙ omega (arith, number, length-append v.captures []) in (
      file_at files book k n front v vs sound stands e long number,
      files_of files book (suc k) (n + length v.captures) (front ++ v ∷ []) vs sound stands next longer sum,
    )

-- ---- the number of volumes

begins-volume : (book : Book) (k : ℕ) (text : List ℕ) → IsVolumeText book k text → BeginsRecord text
begins-volume book k text is =
    subst BeginsRecord (sym is.composed) (begins-append (info_text book.namespace k is.volume.born) (joined is.groups) (begins-info book.namespace k is.volume.born))

begins-file : (files : List (List ℕ)) (book : Book) (k : ℕ) → StandsFor files book → k < length book.volumes → BeginsRecord (slice_index_or files k [])
begins-file files book k stands within =
    let texts : length stands.texts ≡ length book.volumes = stands.are.count in
    let text = slice_index_or stands.texts k [] in
    let is : BeginsRecord text = begins-volume book k text (stands.are.each k (omega (arith, texts, within))) in
    elim (cases_lt (k + 1) (length stands.texts)) [
      | inl lt ↦ subst BeginsRecord (sym (stands.held.sealed k lt)) is
      | inr ge ↦ let last = stands.held.last k (omega (arith, ge, texts, within)) in
          subst BeginsRecord (sym last.composed) (begins-append text last.rest is)
    ]

no_more_volumes : (files : List (List ℕ)) (a b : Book) → StandsFor files a → StandsFor files b → length a.volumes ≤ length b.volumes
no_more_volumes files a b stands stands₂ =
    elim (cases_lt (length b.volumes) (length a.volumes)) [
      | inl more ↦ absurd (rest_begins_no_record (slice_index_or files (length b.volumes) [])
          (stands₂.held.further (length b.volumes) (omega (arith, stands.held.enough, stands.are.count, more)) (omega (arith, stands₂.are.count)))
          (begins-file files a (length b.volumes) stands more))
      | inr fewer ↦ fewer
    ]

pub files_stand_for_no_volume : FilesStandForNoVolume
files_stand_for_no_volume files a b stands stands₂ none = omega (arith, no_more_volumes files b a stands₂ stands, none)

-- ---- the book

first_namespace : (namespace other : List ℕ) (files : List (List ℕ)) (vs ws : List Volume) → IsUuid namespace → IsUuid other → 0 < length vs → length vs ≡ length ws
    → AreFilesOf namespace 0 0 files vs → AreFilesOf other 0 0 files ws → namespace ≡ other
first_namespace namespace other files [] ws is is₂ some long are are₂ = absurd (omega (arith, some))
first_namespace namespace other files (v ∷ vs) [] is is₂ some long are are₂ = absurd (omega (arith, long))
first_namespace namespace other files (v ∷ vs) (w ∷ ws) is is₂ some long are are₂ = same_namespace namespace other 0 0 0 v w (slice_index_or files 0 []) is is₂ are.0 are₂.0

pub files_stand_for_one_book : FilesStandForOneBook
files_stand_for_one_book files a b sound sound₂ differ stands stands₂ some =
    let long : length a.volumes ≡ length b.volumes = omega (arith, no_more_volumes files a b stands stands₂, no_more_volumes files b a stands₂ stands) in
    let are = files_of files a 0 0 [] a.volumes sound stands refl refl refl in
    let are₂ = files_of files b 0 0 [] b.volumes sound₂ stands₂ refl refl refl in
    let namespaces : a.namespace ≡ b.namespace = first_namespace a.namespace b.namespace files a.volumes b.volumes sound.namespace_is sound₂.namespace_is some long are are₂ in
    let others : AreFilesOf a.namespace 0 0 files b.volumes = subst (λ (n : List ℕ). AreFilesOf n 0 0 files b.volumes) (sym namespaces) are₂ in
    let volumes₂ : a.volumes ≡ b.volumes = same_volumes a.namespace (length (captures a)) 0 0 files a.volumes b.volumes sound.namespace_is differ (omega arith) long are others in
    λ i. record { namespace = namespaces i; volumes = volumes₂ i }
