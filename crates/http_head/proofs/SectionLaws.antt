-- What the parser's answers say of a text that is to be one section of field lines, and where such a section ends.
use Rattle.std.proofs.Common.{◌≡◌, ◌≢◌, ℕ, zero, suc, ◌+◌, ◌-◌, ◌≤◌, true, List, [], ◌∷◌, ◌++◌, length, take, drop, get_or, Option, Some, None, Ok, inl, inr, refl, sym, ap, subst, ◌∙◌, arith, append-nil, length-take}
use Rattle.std.specs.Prelude.{All, IfOk, Result, map}
use Rattle.std.specs.Char.{is_ascii_digit}
use Rattle.std.proofs.lemmas.Bool.Decides.{eqb_tells}
use Rattle.std.proofs.lemmas.List.{drop_all, take_all, take_more, take-append-drop}
use Rattle.std.proofs.lemmas.List.Elements.{All-cons, All-nil}
use Rattle.std.proofs.lemmas.Result.{IfOk-weaker}
use Rattle.httparse.specs.declared.Status.TheVariants.{Complete}
use Rattle.httparse.specs.declared.spans.HeaderSpan.{HeaderSpan}
use Rattle.httparse.specs.Grammar.{LineEnd, IsField, print_section, ReadsSection, ResponseHead, print_response, AllPass, is_value_byte}
use Rattle.httparse.specs.Grammar as grammar
use Rattle.httparse.specs.Spans.{header_bytes, IsSectionOf, FindsSection, SectionOverflows}
use Rattle.capture.specs.Head.{head_end, head_len, section_len}
use Rattle.capture.specs.HeadLaws.{SectionsEnd}
use Rattle.capture.specs.Message.{BeginsWithResponse}
use Rattle.capture.proofs.HeadLaws.{response_heads_end}
use Rattle.capture.specs.declared.memory.Memory.{Memory}
use Rattle.http_head.specs.steps.HeadSeek.{seek_after}
use Rattle.http_head.specs.steps.HeadSpans.{SpansSection, HasAsciiNames}
use Rattle.http_head.specs.Sections.{IsSection, HoldsFields}
use Rattle.http_head.specs.Heads.{named_value}
use Rattle.http_head.specs.declared.head.Field.{Field}
use Rattle.http_head.specs.declared.seek.Seek.TheVariants.{AfterLf, Ended}
use Rattle.http_head.proofs.FrontLaws.{rest_len-stays}
use Rattle.http_head.proofs.GrammarLaws.{line_feeds, line_feeds-section, names_are_ascii}
use Rattle.http_head.proofs.SeekLaws.{cases_byte, shift, rest_len, rest_len-going, rest_len-some, rest_len-last, seeks_end}

-- ---- what the parser finds

-- a section has a LF for each of its fields
room : (text : List ℕ) (is : IsSection text) → length is.fields ≤ line_feeds text
room text is =
    subst (λ t. length is.fields ≤ line_feeds t) (sym is.reads.1) (line_feeds-section [] is.fields is.end [])

pub spans_section : (text : List ℕ) (headers : List HeaderSpan) (len count : ℕ) → IsSectionOf text 0 headers (len, count)
    → len ≡ length text → SpansSection text headers count
spans_section text headers len count of whole =
    let rest : drop len text ≡ [] = drop_all len text (omega (arith, whole)) in
    record {
      section = record {
        fields = of.0;
        end = of.1;
        reads = (of.2.reads.0, of.2.reads.1 ∙ ap (λ r. print_section of.0 of.1 ++ r) rest);
      };
      fields_are = of.2.fields_are;
    }

pub no_section_of_other_len : (text : List ℕ) (many : ℕ) (headers : List HeaderSpan) (len count : ℕ)
    → FindsSection text 0 many headers (Ok (Complete (len, count))) → many ≡ line_feeds text → len ≢ length text
    → IsSection text → ⊥
no_section_of_other_len text many headers len count finds enough other is =
    let at = finds is.fields is.end [] is.reads (omega (arith, room text is, enough)) in
    other (omega (arith, at.len_is, ap length (is.reads.1 ∙ append-nil (print_section is.fields is.end))))

pub no_section_without_room : (text : List ℕ) (many : ℕ) → SectionOverflows many text → many ≡ line_feeds text
    → IsSection text → ⊥
no_section_without_room text many overflows enough is =
    let reads : ReadsSection (text ++ []) is.fields is.end [] = (is.reads.0, append-nil text ∙ is.reads.1) in
    absurd (omega (arith, overflows [] is.fields is.end [] reads, room text is, enough))

pub section_names_are_ascii : (text : List ℕ) (headers : List HeaderSpan) (count : ℕ) → SpansSection text headers count
    → HasAsciiNames text (take count headers)
section_names_are_ascii text headers count of =
    names_are_ascii text (take count headers) of.section.fields of.fields_are of.section.reads.0

pub holds_fields : (text : List ℕ) (headers used : List HeaderSpan) (count : ℕ) (copied : Result (List Field) Memory)
    → SpansSection text headers count → used ≡ take count headers
    → IfOk copied (λ parts. map named_value parts ≡ map (header_bytes text) used) → IfOk copied (HoldsFields text)
holds_fields text headers used count copied of front =
    IfOk-weaker copied (λ parts. map named_value parts ≡ map (header_bytes text) used) (HoldsFields text) (
    λ parts same. record {
      section = of.section;
      fields_are = same ∙ ap (map (header_bytes text)) front ∙ of.fields_are;
    }
    )

-- ---- where a section ends

shift-one_same : (o p : Option ℕ) → shift 1 o ≡ shift 1 p → o ≡ p
shift-one_same None None e = refl
shift-one_same None (Some n) e = cc
shift-one_same (Some m) None e = cc
shift-one_same (Some m) (Some n) e = let f : 1 + m ≡ 1 + n = cc in ap Some (omega (arith, f))

-- behind a LF a head ends where a section does
behind_lf : (s : List ℕ) → head_len (10 ∷ s) ≡ shift 1 (section_len s)
behind_lf [] = refl
behind_lf (b ∷ s) =
    elim (cases_byte b) [
      | inl lf ↦ subst (λ c. head_len (10 ∷ c ∷ s) ≡ shift 1 (section_len (c ∷ s))) (sym lf) refl
      | inr no_lf ↦ elim no_lf [
        | inl cr ↦ subst (λ c. head_len (10 ∷ c ∷ s) ≡ shift 1 (section_len (c ∷ s))) (sym cr) (behind_lf_cr s)
        | inr other ↦ rw (other.0, other.1) refl
      ]
    ]
  where
    behind_lf_cr : (s : List ℕ) → head_len (10 ∷ 13 ∷ s) ≡ shift 1 (section_len (13 ∷ s))
    behind_lf_cr [] = refl
    behind_lf_cr (b ∷ s) =
        elim (eqb_tells b 10) [
          | inl lf ↦ subst (λ c. head_len (10 ∷ 13 ∷ c ∷ s) ≡ shift 1 (section_len (13 ∷ c ∷ s))) (sym lf.1) refl
          | inr not_lf ↦ rw not_lf.0 refl
        ]

section_is_rest : (s : List ℕ) → section_len s ≡ rest_len AfterLf s
section_is_rest s = shift-one_same _ _ (sym (behind_lf s) ∙ (seeks_end s).after_lf)

some_since_not_none : (o : Option ℕ) → o ≢ None → (n : ℕ) × (o ≡ Some n)
some_since_not_none None h = absurd (h refl)
some_since_not_none (Some n) h = (n, refl)

-- the machine that seeks the end of a head, behind a LF, finds the end of a section
pub found_section : (text : List ℕ) (u : ℕ) → u ≤ length text → seek_after AfterLf (take u text) ≡ Ended
    → seek_after AfterLf (take (u - 1) text) ≢ Ended → Some u ≡ section_len text
found_section text zero fits ended going = cc
found_section text (suc k) fits ended going =
    let same : suc k - 1 ≡ k = omega arith in
    let before : seek_after AfterLf (take k text) ≢ Ended = rw same at going in
    let more : suc k ≡ k + 1 = omega arith in
    let last : take (suc k) text ≡ take k text ++ get_or text k 0 ∷ [] = rw more (take_more text k 0 (omega arith)) in
    let found = some_since_not_none (rest_len AfterLf (take (suc k) text)) (rest_len-some AfterLf (take (suc k) text) ended) in
    let place : found.0 ≡ length (take k text) + 1 =
    rest_len-last AfterLf (take k text) (get_or text k 0) found.0 before (ap (rest_len AfterLf) (sym last) ∙ found.1) in
    let whole : rest_len AfterLf text ≡ Some found.0 =
    ap (rest_len AfterLf) (sym (take-append-drop (suc k) text))
    ∙ rest_len-stays AfterLf (take (suc k) text) (drop (suc k) text) found.0 found.1 in
    let len : found.0 ≡ suc k = omega (arith, place, length-take k text) in
    ap Some (sym len) ∙ sym whole ∙ sym (section_is_rest text)

pub found_no_section : (text : List ℕ) (u : ℕ) → u ≡ length text → seek_after AfterLf (take u text) ≢ Ended
    → None ≡ section_len text
found_no_section text u all going =
    let whole : take u text ≡ text = take_all u text (omega (arith, all)) in
    sym (section_is_rest text ∙ rest_len-going AfterLf text (λ e. going (ap (seek_after AfterLf) whole ∙ e)))

-- ---- a section of the grammar ends at its first empty line, as it does behind the first line of a head

-- the head of a first line and these fields
abbrev head_of : List grammar.Field → LineEnd → ResponseHead
head_of fields last = record {
  blank = [];
  minor = 0;
  digits = 50 ∷ 48 ∷ 48 ∷ [];
  reason = None;
  line_end = grammar.lf;
  fields = fields;
  last = last;
}

three_digits : AllPass is_ascii_digit (50 ∷ 48 ∷ 48 ∷ [])
three_digits =
    let digit : ℕ → Type 0 = λ b. is_ascii_digit b ≡ true in
    All-cons digit 50 (48 ∷ 48 ∷ []) refl (All-cons digit 48 (48 ∷ []) refl (All-cons digit 48 [] refl (All-nil digit)))

head_begins : (fields : List grammar.Field) (last : LineEnd) (rest : List ℕ) → All IsField fields
    → BeginsWithResponse (print_response (head_of fields last) ++ rest) (head_of fields last) rest
head_begins fields last rest all = record {
  reads = (
    record { minor = omega arith; digits = (refl, three_digits); reason = All-nil (λ b. is_value_byte b ≡ true); fields = all },
    refl,
  );
  at_once = refl;
  status = omega arith;
  no_switch = λ e. omega (arith, e);
}

-- the twelve bytes of the first line
behind_twelve : (o : Option ℕ)
    → shift 0 (shift 1 (shift 1 (shift 1 (shift 1 (shift 1 (shift 1 (shift 1 (shift 1 (shift 1 (shift 1 (shift 1 (shift 1 o)))))))))))) ≡ shift 12 o
behind_twelve None = refl
behind_twelve (Some n) = ap Some (omega arith)

first_line_passed : (fields : List grammar.Field) (last : LineEnd) (rest : List ℕ)
    → head_end (print_response (head_of fields last) ++ rest) ≡ shift 12 (head_len (10 ∷ (print_section fields last ++ rest)))
unfolding print_response
first_line_passed fields last rest = behind_twelve (head_len (10 ∷ (print_section fields last ++ rest)))

head_length : (fields : List grammar.Field) (last : LineEnd) → length (print_response (head_of fields last)) ≡ 13 + length (print_section fields last)
unfolding print_response
head_length fields last = omega arith

thirteen_less : (o : Option ℕ) (n m : ℕ) → shift 12 (shift 1 o) ≡ Some n → n ≡ 13 + m → o ≡ Some m
thirteen_less None n m e long = cc
thirteen_less (Some k) n m e long = let f : 12 + (1 + k) ≡ n = cc in ap Some (omega (arith, f, long))

pub sections_end : SectionsEnd
sections_end fields last rest all =
    let section = print_section fields last in
    let whole = response_heads_end (print_response (head_of fields last) ++ rest) (head_of fields last) rest (head_begins fields last rest all) in
    thirteen_less (section_len (section ++ rest)) (length (print_response (head_of fields last))) (length section)
    (ap (shift 12) (sym (behind_lf (section ++ rest))) ∙ sym (first_line_passed fields last rest) ∙ whole) (head_length fields last)
