-- A file is read in one way.
use Rattle.std.proofs.Common.{◌≡◌, ℕ, ◌+◌, ◌≤◌, List, [], ◌∷◌, ◌++◌, length, drop, refl, sym, ap, subst, ◌∙◌, arith, append_assoc, length-append, append-nil}
use Rattle.std.specs.Prelude.{All, slice_index_or}
use Rattle.std.proofs.lemmas.List.Elements.{All-head, All-tail}
use Rattle.httparse.specs.Grammar.{Field, LineEnd, print_section}
use Rattle.httparse.proofs.GrammarLemmas.{section_unique}
use Rattle.capture.specs.Fields.{named_values}
use Rattle.warc_reader.specs.Laws.{FilesAreNotRefused, FilesAreOne, RecordsAreOne, RefusalsAreOne}
use Rattle.warc_reader.specs.Records.{BeginsWithRecord, IsBehindVersion, IsRecord, TellsBlock, WarcRecord, print_behind, print_record, print_records, record_end, version_line}
use Rattle.warc_reader.proofs.RecordLaws.{behind_one_version, one_length, same_front}

same_minor : (m n : ℕ) (x y : List ℕ) → version_line m ++ x ≡ version_line n ++ y → m ≡ n
unfolding version_line
same_minor m n x y e = let digit : 48 + m ≡ 48 + n = ap (λ t. slice_index_or t 7 0) e in omega (arith, digit)

behind_end : (x y : List ℕ) → record_end ++ x ≡ record_end ++ y → x ≡ y
unfolding record_end
behind_end x y e = ap (drop 4) e

regroup : (s b e r : List ℕ) → s ++ b ++ e ++ r ≡ s ++ (b ++ (e ++ r))
regroup s b e r = append_assoc (s ++ b) e r ∙ append_assoc s b (e ++ r)

-- the parts of one text behind a version line
record SameParts (fields named : List Field) (end last : LineEnd) (block kept rest other : List ℕ) : Type 0 where
  fields_are : fields ≡ named
  end_is : end ≡ last
  block_is : block ≡ kept
  rest_is : rest ≡ other

same_parts : (fields named : List Field) (end last : LineEnd) (block kept rest other : List ℕ) → IsBehindVersion fields end block
    → IsBehindVersion named last kept → print_behind fields end block ++ rest ≡ print_behind named last kept ++ other
    → SameParts fields named end last block kept rest other
same_parts fields named end last block kept rest other first second e =
    let text = print_section fields end ++ (block ++ (record_end ++ rest)) in
    let there : text ≡ print_section named last ++ (kept ++ (record_end ++ other)) =
    sym (regroup (print_section fields end) block record_end rest) ∙ e ∙ regroup (print_section named last) kept record_end other in
    let same = section_unique text fields named end last (block ++ (record_end ++ rest)) (kept ++ (record_end ++ other))
    (first.valid, refl) (second.valid, there) in
    let told : TellsBlock (named_values fields) (length kept) = subst (λ fs. TellsBlock (named_values fs) (length kept)) (sym same.0) second.tells in
    let len = one_length (named_values fields) (length block) (length kept) first.tells told in
    let front = same_front block kept (record_end ++ rest) (record_end ++ other) len same.2 in
    record { fields_are = same.0; end_is = same.1; block_is = front.0; rest_is = behind_end rest other front.1 }

pub one_record : RecordsAreOne
one_record r s rest other first second e =
    let behind = print_behind r.fields r.end r.block in
    let other_behind = print_behind s.fields s.end s.block in
    let there : version_line r.minor ++ (behind ++ rest) ≡ version_line s.minor ++ (other_behind ++ other) =
    sym (append_assoc (version_line r.minor) behind rest) ∙ e ∙ append_assoc (version_line s.minor) other_behind other in
    let minor = same_minor r.minor s.minor (behind ++ rest) (other_behind ++ other) there in
    let same = same_parts r.fields s.fields r.end s.end r.block s.block rest other first.1 second.1
    (behind_one_version r.minor s.minor (behind ++ rest) (other_behind ++ other) there) in (
      λ i. record { minor = minor i; fields = same.fields_are i; end = same.end_is i; block = same.block_is i },
      same.rest_is,
    )

-- ---- lists of records

pub record_has_bytes : (r : WarcRecord) → 1 ≤ length (print_record r)
unfolding version_line
record_has_bytes r = omega arith

no_bytes : (r : WarcRecord) (rest : List ℕ) → [] ≡ print_record r ++ rest → ⊥
no_bytes r rest e = absurd (omega (arith, ap length e, length-append (print_record r) rest, record_has_bytes r))

-- how two readings of one text go: where both go on there is one record more, and where one has ended the other may go on
same_lists : (records others : List WarcRecord) (rest other : List ℕ) → All IsRecord records → All IsRecord others
    → ¬ (BeginsWithRecord rest) → ¬ (BeginsWithRecord other) → print_records records ++ rest ≡ print_records others ++ other → records ≡ others
same_lists [] [] rest other first second none neither e = refl
same_lists [] (s ∷ others) rest other first second none neither e =
    absurd (none (s, print_records others ++ other, All-head IsRecord s others second, e ∙ append_assoc (print_record s) (print_records others) other))
same_lists (r ∷ records) [] rest other first second none neither e =
    absurd (neither (
      r,
      print_records records ++ rest,
      All-head IsRecord r records first,
      sym e ∙ append_assoc (print_record r) (print_records records) rest,
    ))
same_lists (r ∷ records) (s ∷ others) rest other first second none neither e =
    let there : print_record r ++ (print_records records ++ rest) ≡ print_record s ++ (print_records others ++ other) =
    sym (append_assoc (print_record r) (print_records records) rest) ∙ e ∙ append_assoc (print_record s) (print_records others) other in
    let same = one_record r s (print_records records ++ rest) (print_records others ++ other) (All-head IsRecord r records first)
    (All-head IsRecord s others second) there in
    let behind = same_lists records others rest other (All-tail IsRecord r records first) (All-tail IsRecord s others second) none neither same.1 in
    λ i. same.0 i ∷ behind i

nothing_begins : BeginsWithRecord [] → ⊥
nothing_begins begins = no_bytes begins.0 begins.1 begins.3

pub one_file : FilesAreOne
one_file records others text first second =
    same_lists records others [] [] first.0 second.0 nothing_begins nothing_begins
    (append-nil (print_records records) ∙ sym first.1 ∙ second.1 ∙ sym (append-nil (print_records others)))

pub not_refused : FilesAreNotRefused
not_refused records text at is refused =
    let same = same_lists records refused.records [] refused.rest is.0 refused.before nothing_begins refused.none
    (append-nil (print_records records) ∙ sym is.1 ∙ refused.composed) in
    let split : print_records refused.records ++ [] ≡ print_records refused.records ++ refused.rest =
    append-nil (print_records refused.records) ∙ ap print_records (sym same) ∙ sym is.1 ∙ refused.composed in
    refused.goes_on (sym (same_front (print_records refused.records) (print_records refused.records) [] refused.rest refl split).1)

pub one_refusal : RefusalsAreOne
one_refusal text at other first second =
    let same = same_lists first.records second.records first.rest second.rest first.before second.before first.none second.none
    (sym first.composed ∙ second.composed) in
    first.place ∙ ap (λ rs. length (print_records rs)) same ∙ sym second.place
