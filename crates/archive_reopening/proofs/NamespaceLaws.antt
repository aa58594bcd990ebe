-- Files that stand for a book with a volume tell its namespace, whatever the ids of its captures are.
use Rattle.std.proofs.Common.{◌≡◌, ℕ, ◌+◌, ◌<◌, ◌≤◌, List, [], ◌++◌, length, sym, ap, ◌∙◌, ⊎_elim, arith, append-nil, append_assoc}
use Rattle.std.specs.Prelude.{slice_index_or}
use Rattle.std.proofs.lemmas.Bool.{cases_lt}
use Rattle.capture.specs.declared.book.Book.{Book}
use Rattle.warc_text.proofs.InfoLaws.{info_front}
use Rattle.warc_text.specs.Books.{IsVolumeText, joined}
use Rattle.warc_text.specs.Records.{info_text}
use Rattle.warc_text.specs.Sound.{IsSound}
use Rattle.warc_text.specs.StandsFor.{StandsFor}

-- the first file begins with a warcinfo of the book
record BeginsIn (namespace file : List ℕ) : Type 0 where
  born : ℕ
  rest : List ℕ
  composed : file ≡ info_text namespace 0 born ++ rest

begins_with : (book : Book) (text rest file : List ℕ) → IsVolumeText book 0 text → file ≡ text ++ rest → BeginsIn book.namespace file
begins_with book text rest file is composed = record {
  born = is.volume.born;
  rest = joined is.groups ++ rest;
  composed = composed ∙ ap (λ (t : List ℕ). t ++ rest) is.composed ∙ append_assoc (info_text book.namespace 0 is.volume.born) (joined is.groups) rest;
}

begins_in : (files : List (List ℕ)) (book : Book) → StandsFor files book → 0 < length book.volumes → BeginsIn book.namespace (slice_index_or files 0 [])
begins_in files book stands some =
    let text : List ℕ = slice_index_or stands.texts 0 [] in
    let is : IsVolumeText book 0 text = stands.are.each 0 (omega (arith, stands.are.count, some)) in
    ⊎_elim
    (λ (sealed : 0 + 1 < length stands.texts).
    begins_with book text [] (slice_index_or files 0 []) is (stands.held.sealed 0 sealed ∙ sym (append-nil text)))
    (λ (behind : length stands.texts ≤ 0 + 1).
    let last = stands.held.last 0 (omega (arith, behind, stands.are.count, some)) in
    begins_with book text last.rest (slice_index_or files 0 []) is last.composed)
    (cases_lt (0 + 1) (length stands.texts))

pub one_namespace : (files : List (List ℕ)) (a b : Book) → IsSound a → IsSound b → StandsFor files a → StandsFor files b
    → 0 < length a.volumes → 0 < length b.volumes → a.namespace ≡ b.namespace
one_namespace files a b sound sound₂ stands stands₂ some some₂ =
    let first = begins_in files a stands some in
    let second = begins_in files b stands₂ some₂ in
    (info_front a.namespace b.namespace 0 first.born second.born first.rest second.rest sound.namespace_is sound₂.namespace_is
    (sym first.composed ∙ second.composed)).0
