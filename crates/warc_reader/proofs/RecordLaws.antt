-- A record stands at the front of a text in one way.
use Rattle.std.proofs.Common.{◌≡◌, ℕ, ◌<◌, ◌≤◌, List, [], ◌∷◌, ◌++◌, map, length, take, drop, Some, refl, sym, ap, subst, ◌∙◌, arith, append_assoc, append-nil}
use Rattle.std.specs.Prelude.{All, IfOk, Result, Ok, Err}
use Rattle.std.specs.Str.Parse.{digits_value}
use Rattle.std.proofs.lemmas.List.{take_at, drop_at, length-map}
use Rattle.httparse.specs.Grammar.{Field, IsField, LineEnd, print_section, ReadsSection}
use Rattle.httparse.proofs.GrammarLemmas.{section_unique}
use Rattle.httparse.specs.Spans.{name_and_value}
use Rattle.capture.specs.Fields.{NamedValue, named_values}
use Rattle.capture.specs.Head.{section_len}
use Rattle.capture.specs.HeadLaws.{SectionsEnd}
use Rattle.capture.specs.declared.limits.TheConstants.{FIELD_LIMIT, HEAD_LIMIT}
use Rattle.http_head.specs.Heads.{named_value}
use Rattle.http_head.specs.Sections.{HoldsFields}
use Rattle.http_head.specs.declared.head.Field.{Field as Part}
use Rattle.warc_reader.specs.Records.{BeginsWithRecord, HasNoneBehind, HasVersion, HoldsBehindVersion, HoldsRecord, TellsBlock, TellsLength, print_behind, record_end, version_line}
use Rattle.warc_reader.specs.declared.record.Record.{Record}
use Rattle.warc_reader.specs.declared.record.RecordFault.{RecordFault}

-- ---- the version line

-- what stands behind a version line is one text
pub behind_one_version : (m n : ℕ) (x y : List ℕ) → version_line m ++ x ≡ version_line n ++ y → x ≡ y
unfolding version_line
behind_one_version m n x y e = ap (drop 10) e

pub record_holds : (text rest : List ℕ) (parts : Record) → HasVersion text rest → HoldsBehindVersion rest parts → HoldsRecord text parts
record_holds text rest parts version behind = record {
  form = record { minor = version.minor; fields = behind.fields; end = behind.end; block = parts.block.now };
  valid = (version.low, behind.valid);
  composed =
      version.composed ∙ ap (λ t. version_line version.minor ++ t) behind.composed
      ∙ sym (append_assoc (version_line version.minor) (print_behind behind.fields behind.end parts.block.now) parts.rest.now);
  fields_are = behind.fields_are;
  block_is = refl;
}

pub no_record : (text rest : List ℕ) → HasVersion text rest → HasNoneBehind rest → BeginsWithRecord text → ⊥
no_record text rest version none begins =
    let r = begins.0 in
    let more = begins.1 in
    let valid = begins.2 in
    let behind = print_behind r.fields r.end r.block in
    let e : version_line version.minor ++ rest ≡ version_line r.minor ++ (behind ++ more) =
    sym version.composed ∙ begins.3 ∙ append_assoc (version_line r.minor) behind more in
    none r.fields r.end r.block more valid.1 (behind_one_version version.minor r.minor rest (behind ++ more) e)

pub no_version : (text : List ℕ) → ((minor : ℕ) (rest : List ℕ) → minor ≤ 1 → ¬ (text ≡ version_line minor ++ rest)) → BeginsWithRecord text → ⊥
no_version text none begins =
    let r = begins.0 in
    let behind = print_behind r.fields r.end r.block in
    none r.minor (behind ++ begins.1) begins.2.0 (begins.3 ∙ append_assoc (version_line r.minor) behind begins.1)

-- ---- the section

regroup : (s b e r : List ℕ) → s ++ b ++ e ++ r ≡ s ++ (b ++ e ++ r)
regroup s b e r = append_assoc (s ++ b) e r ∙ append_assoc s b (e ++ r) ∙ ap (λ t. s ++ t) (sym (append_assoc b e r))

pub same_front : (a b x y : List ℕ) → length a ≡ length b → a ++ x ≡ b ++ y → (a ≡ b) × (x ≡ y)
same_front a b x y len e = (
  sym (take_at a x (length a) refl) ∙ ap (take (length a)) e ∙ take_at b y (length a) (sym len),
  sym (drop_at a x (length a) refl) ∙ ap (drop (length a)) e ∙ drop_at b y (length a) (sym len),
)

same_some : (a b : ℕ) → Some a ≡ Some b → a ≡ b
same_some a b e = cc

-- a text behind a version line begins with its section
pub none_without_section : (text : List ℕ)
    → ((fields : List Field) (end : LineEnd) (rest : List ℕ) → All IsField fields → length (print_section fields end) ≤ HEAD_LIMIT
    → ¬ (text ≡ print_section fields end ++ rest))
    → HasNoneBehind text
none_without_section text none = λ fields end block rest valid e.
    none fields end (block ++ record_end ++ rest) valid.valid valid.short (e ∙ regroup (print_section fields end) block record_end rest)

-- where the text splits, its section does
pub record IsSplit (text section behind : List ℕ) : Type 0 where
  pub ends_at : SectionsEnd
  pub composed : text ≡ section ++ behind
  pub ends : section_len text ≡ Some (length section)

pub split_at_section : (text section behind : List ℕ) → IsSplit text section behind → (fields : List Field) (end : LineEnd) (rest : List ℕ)
    → All IsField fields → text ≡ print_section fields end ++ rest → (section ≡ print_section fields end) × (behind ≡ rest)
split_at_section text section behind split fields end rest valid e =
    let there : section_len text ≡ Some (length (print_section fields end)) = ap section_len e ∙ split.ends_at fields end rest valid in
    let len = same_some (length section) (length (print_section fields end)) (sym split.ends ∙ there) in
    same_front section (print_section fields end) behind rest len (sym split.composed ∙ e)

pub none_without_fields : (text section behind : List ℕ) → IsSplit text section behind
    → ((fields : List Field) (end : LineEnd) → ReadsSection section fields end [] → ¬ (length fields ≤ FIELD_LIMIT)) → HasNoneBehind text
none_without_fields text section behind split none = λ fields end block rest valid e.
    let at = split_at_section text section behind split fields end (block ++ record_end ++ rest) valid.valid
    (e ∙ regroup (print_section fields end) block record_end rest) in
    none fields end (valid.valid, at.0 ∙ sym (append-nil (print_section fields end))) valid.few

-- ---- the block

pub none_without_block : (text section behind : List ℕ) (parts : List Part) → IsSplit text section behind → HoldsFields section parts
    → ((block rest : List ℕ) → TellsBlock (map named_value parts) (length block) → ¬ (behind ≡ block ++ record_end ++ rest))
    → HasNoneBehind text
none_without_block text section behind parts split holds none = λ fields end block rest valid e.
    let at = split_at_section text section behind split fields end (block ++ record_end ++ rest) valid.valid
    (e ∙ regroup (print_section fields end) block record_end rest) in
    let reads : ReadsSection section fields end [] = (valid.valid, at.0 ∙ sym (append-nil (print_section fields end))) in
    let same = section_unique section holds.section.fields fields holds.section.end end [] [] holds.section.reads reads in
    let told : map named_value parts ≡ named_values fields = holds.fields_are ∙ ap named_values same.0 in
    none block rest (subst (λ fs. TellsBlock fs (length block)) (sym told) valid.tells) at.1

pub behind_holds : (text section behind : List ℕ) (parts : Record) → text ≡ section ++ behind → length section ≤ HEAD_LIMIT
    → HoldsFields section parts.fields → length parts.fields ≤ FIELD_LIMIT
    → TellsBlock (map named_value parts.fields) (length parts.block.now) → behind ≡ parts.block.now ++ record_end ++ parts.rest.now
    → HoldsBehindVersion text parts
behind_holds text section behind parts composed short holds few tells split =
    let fields = holds.section.fields in
    let end = holds.section.end in
    let printed : section ≡ print_section fields end = holds.section.reads.1 ∙ append-nil (print_section fields end) in
    let many : length parts.fields ≡ length fields =
    sym (length-map parts.fields named_value) ∙ ap length holds.fields_are ∙ length-map fields name_and_value in
    record {
      fields = fields;
      end = end;
      valid = record {
        valid = holds.section.reads.0;
        short = omega (arith, short, ap length printed);
        few = omega (arith, few, many);
        tells = subst (λ fs. TellsBlock fs (length parts.block.now)) holds.fields_are tells;
      };
      composed =
          composed ∙ ap (λ s. s ++ behind) printed ∙ ap (λ b. print_section fields end ++ b) split
          ∙ sym (regroup (print_section fields end) parts.block.now record_end parts.rest.now);
      fields_are = holds.fields_are;
    }

-- ---- the length

digits_once : (fields : List NamedValue) (n m : ℕ) → TellsLength fields n → TellsLength fields m → n ≡ m
digits_once fields n m first second =
    let one : first.value ∷ [] ≡ second.value ∷ [] = sym first.one ∙ second.one in
    first.told ∙ ap (digits_value 10) (heads first.value second.value one) ∙ sym second.told
  where
    heads : (a b : List ℕ) → a ∷ [] ≡ b ∷ [] → a ≡ b
    heads a b e = cc

-- the fields tell one length
pub one_length : (fields : List NamedValue) (n m : ℕ) → TellsBlock fields n → TellsBlock fields m → n ≡ m
one_length fields n m first second = digits_once fields n m first.length_told second.length_told

-- ---- results

pub if_ok : {T E : Type 0} (P Q : T → Type 0) → ((x : T) → P x → Q x) → (r : Result T E) → IfOk r P → IfOk r Q
if_ok P Q f (Ok x) h = f x h
if_ok P Q f (Err e) h = tt

-- ---- a section of too many fields

pub same_fields : (section : List ℕ) (parts : List Part) (fields : List Field) (end : LineEnd) → HoldsFields section parts
    → ReadsSection section fields end [] → map named_value parts ≡ named_values fields
same_fields section parts fields end holds reads =
    holds.fields_are
    ∙ ap named_values (section_unique section holds.section.fields fields holds.section.end end [] [] holds.section.reads reads).0

pub too_many : (section : List ℕ) (parts slice : List Part) → HoldsFields section parts → slice ≡ parts → FIELD_LIMIT < length slice
    → (fields : List Field) (end : LineEnd) → ReadsSection section fields end [] → ¬ (length fields ≤ FIELD_LIMIT)
too_many section parts slice holds is many fields end reads = λ few.
    let same = same_fields section parts fields end holds reads in
    absurd (omega (arith, many, ap length is, few, sym (length-map parts named_value) ∙ ap length same ∙ length-map fields name_and_value))

abbrev record_err : RecordFault → Result Record RecordFault
record_err fault = Err fault

pub same_err : (a b : RecordFault) → record_err a ≡ record_err b → a ≡ b
same_err a b e = cc
