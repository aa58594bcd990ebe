-- Whether a response is marked as cut, and the type of its block, at the front of bytes.
use Rattle.std.proofs.Common.{◌≡◌, ℕ, ◌<◌, Bool, true, false, List, [], ◌∷◌, ◌++◌, length, get_or, refl, sym, ap, ◌∙◌, arith}
use Rattle.std.specs.Prelude.{⊤, codes}
use Rattle.std.proofs.Math.ListN.{get_or-append}
use Rattle.warc_text.specs.Lines.{content_line, cut_line, field}
use Rattle.warc_text.specs.declared.kind.RecordKind.TheVariants as kinds
use Rattle.record_opening.specs.Stops.{Differs, NoneStands, Refuses}
use Rattle.record_opening.specs.declared.stop.Stop.{Stop}
use Rattle.record_opening.specs.declared.stop.Stop.TheVariants.{Open}
use Rattle.record_opening.proofs.Pieces.{two}
use Rattle.record_opening.proofs.Refusals.{begins_ends, differs_behind, differs_more}

-- what stands there
abbrev pub cut_text : Bool → List ℕ
cut_text cut = cut_line cut ++ content_line kinds.Response

abbrev pub IsCut : Bool → Type 0
IsCut cut = ⊤

-- the first letter of either
marked_letter : (other : List ℕ) → get_or (cut_text true ++ other) 0 0 ≡ 87
unfolding cut_line field
marked_letter other = refl

whole_letter : (other : List ℕ) → get_or (cut_text false ++ other) 0 0 ≡ 67
unfolding cut_line content_line field
whole_letter other = refl

first_of_all : (bytes after text : List ℕ) → 0 < length bytes → bytes ++ after ≡ text → get_or text 0 0 ≡ get_or bytes 0 0
first_of_all bytes after text some e = ap (λ (l : List ℕ). get_or l 0 0) (sym e) ∙ get_or-append bytes after 0 0 some

-- bytes that begin with a `W` have no whole response's line
no_whole : (stop : Stop) (bytes : List ℕ) → 0 < length bytes → get_or bytes 0 0 ≡ 87 → Refuses stop bytes (cut_text false)
no_whole stop bytes some first after other e =
    let same = first_of_all bytes after (cut_text false ++ other) some e in
    absurd (omega (arith, first, same, whole_letter other))

-- and those that begin with another byte no mark
no_mark : (stop : Stop) (bytes : List ℕ) → 0 < length bytes → ¬ (get_or bytes 0 0 ≡ 87) → Refuses stop bytes (cut_text true)
no_mark stop bytes some other_letter after other e =
    absurd (other_letter (sym (first_of_all bytes after (cut_text true ++ other) some e) ∙ marked_letter other))

by_cut : (stop : Stop) (bytes : List ℕ) → Refuses stop bytes (cut_text true) → Refuses stop bytes (cut_text false) → (cut : Bool) → Refuses stop bytes (cut_text cut)
by_cut stop bytes marked whole true = marked
by_cut stop bytes marked whole false = whole

marked_refused : (stop : Stop) (bytes : List ℕ) → 0 < length bytes → get_or bytes 0 0 ≡ 87 → Differs stop bytes (cut_text true) → NoneStands IsCut cut_text stop bytes
marked_refused stop bytes some first d = record {
  refuses = λ cut is. by_cut stop bytes d.refuses (no_whole stop bytes some first) cut;
  line = d.line;
  ends = λ open_. (true, tt, begins_ends (cut_text true) bytes (d.ends open_));
}

pub mark_refused : (stop : Stop) (bytes : List ℕ) → 0 < length bytes → get_or bytes 0 0 ≡ 87 → Differs stop bytes (codes "WARC-Truncated: disconnect\r\n") → NoneStands IsCut cut_text stop bytes
unfolding cut_line field
mark_refused stop bytes some first d = marked_refused stop bytes some first (differs_more stop bytes (cut_line true) (content_line kinds.Response) d)

pub marked_content_refused : (stop : Stop) (bytes behind : List ℕ) → 0 < length bytes → get_or bytes 0 0 ≡ 87 → bytes ≡ codes "WARC-Truncated: disconnect\r\n" ++ behind
    → Differs stop behind (content_line kinds.Response) → NoneStands IsCut cut_text stop bytes
unfolding cut_line field
marked_content_refused stop bytes behind some first e d =
    marked_refused stop bytes some first (differs_behind stop bytes (cut_line true) behind (content_line kinds.Response) e d)

pub content_refused : (stop : Stop) (bytes : List ℕ) → 0 < length bytes → ¬ (get_or bytes 0 0 ≡ 87) → Differs stop bytes (content_line kinds.Response)
    → NoneStands IsCut cut_text stop bytes
unfolding cut_line
content_refused stop bytes some other d = record {
  refuses = λ cut is. by_cut stop bytes (no_mark stop bytes some other) d.refuses cut;
  line = d.line;
  ends = λ open_. (false, tt, begins_ends (cut_text false) bytes (d.ends open_));
}

-- no byte has come
cut_is_long : (cut : Bool) → 0 < length (cut_text cut)
unfolding cut_line content_line field
cut_is_long true = omega arith
cut_is_long false = omega arith

empty : (bytes : List ℕ) → length bytes ≡ 0 → bytes ≡ []
empty [] none = refl
empty (b ∷ bytes) none = absurd (omega (arith, none))

pub nothing_refused : (bytes : List ℕ) → length bytes ≡ 0 → NoneStands IsCut cut_text Open bytes
nothing_refused bytes none = record {
  refuses = λ cut is after other e. omega (arith, none, cut_is_long cut);
  line = tt;
  ends = λ open_. (
    false,
    tt,
    begins_ends (cut_text false) bytes (record { behind = cut_text false; composed = ap (λ b. b ++ cut_text false) (sym (empty bytes none)); more = cut_is_long false }),
  );
}

-- what stands
pub marked_stands : (bytes behind rest : List ℕ) → bytes ≡ codes "WARC-Truncated: disconnect\r\n" ++ behind → behind ≡ content_line kinds.Response ++ rest
    → bytes ≡ cut_text true ++ rest
unfolding cut_line field
marked_stands bytes behind rest e₁ e₂ = two (cut_line true) (content_line kinds.Response) bytes behind rest e₁ e₂

pub whole_stands : (bytes rest : List ℕ) → bytes ≡ content_line kinds.Response ++ rest → bytes ≡ cut_text false ++ rest
unfolding cut_line
whole_stands bytes rest e = e
