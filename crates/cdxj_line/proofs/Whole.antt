-- A whole line, by its parts.
use Rattle.std.proofs.Common.{◌≡◌, ◌≢◌, ℕ, ◌<◌, Bool, false, List, [], ◌∷◌, ◌++◌, true, not, true≢false, Some, refl, ap, sym, ◌∙◌, arith}
use Rattle.std.specs.Prelude.{All, bytes_eq}
use Rattle.std.proofs.lemmas.List.{append_assoc}
use Rattle.std.proofs.lemmas.List.Elements.{All-weaker}
use Rattle.std.proofs.lemmas.Slice.Eq.{bytes_eq-Decides}
use Rattle.surt_key.specs.Key.{key_of}
use Rattle.surt_key.proofs.SpacelessKeys.{keys_hold_no_space}
use Rattle.time_text.specs.Bytes.{IsDigit}
use Rattle.time_text.specs.Texts.{InRange, time_digits}
use Rattle.time_text.proofs.DateLaws.{time_is_digits}
use Rattle.cdxj_line.specs.Lines.{line_text, object_text}
use Rattle.cdxj_line.specs.steps.Shown.{IsTextOf, Shows, text_of}
use Rattle.cdxj_line.specs.declared.line.Line.{Line}
use Rattle.cdxj_line.specs.declared.members.Members.{Members}
use Rattle.cdxj_line.specs.declared.read.Parts.{Parts}
use Rattle.cdxj_line.proofs.Objects.{object_joined}

above_blank : (b : ℕ) → 32 < b → b ≢ 32
above_blank b above blank = omega arith

pub key_has_no_blank : (url key : List ℕ) → key_of url ≡ Some key → All (λ b. b ≢ 32) key
key_has_no_blank url key is = All-weaker (λ b. 32 < b) (λ b. b ≢ 32) above_blank key (keys_hold_no_space url key is)

digit_is_no_blank : (b : ℕ) → IsDigit b → b ≢ 32
digit_is_no_blank b digit blank = omega arith

pub date_has_no_blank : (date : ℕ) → InRange date → All (λ b. b ≢ 32) (time_digits date)
date_has_no_blank date fits = All-weaker IsDigit (λ b. b ≢ 32) digit_is_no_blank (time_digits date) (time_is_digits date fits)

pub line_parts : (line : Line) (text : List ℕ) → text ≡ line_text line → text ≡ line.key ++ 32 ∷ (time_digits line.date ++ 32 ∷ (object_text false line ++ 10 ∷ []))
unfolding line_text
line_parts line text is = is ∙ simp append_assoc

-- texts that are equal don't differ
pub same_text : (a b : List ℕ) → true ≡ not (bytes_eq a b) → a ≡ b → ⊥
same_text a b differ same =
    let equal : bytes_eq a b ≡ true = (bytes_eq-Decides a b).1 same in
    true≢false (differ ∙ ap not equal)

pub not_differing : (a b : List ℕ) → false ≡ not (bytes_eq a b) → a ≡ b
not_differing a b alike = (bytes_eq-Decides a b).0 (go (bytes_eq a b) alike) where
  go : (t : Bool) → false ≡ not t → t ≡ true
  go true e = refl
  go false e = absurd (true≢false (sym e))

-- a text that was cut into the parts of a line
pub cut_text : (text key rest digits date tail object members : List ℕ) → text ≡ key ++ 32 ∷ rest → rest ≡ digits ++ 32 ∷ tail → digits ≡ date → tail ≡ object ++ 10 ∷ [] → object ≡ members
    → text ≡ key ++ 32 ∷ (date ++ 32 ∷ (members ++ 10 ∷ []))
cut_text text key rest digits date tail object members h1 h2 h3 h4 h5 =
    h1 ∙ ap (λ t. key ++ 32 ∷ t) (h2 ∙ ap (λ t. t ++ 32 ∷ tail) h3 ∙ ap (λ t. date ++ 32 ∷ t) (h4 ∙ ap (λ t. t ++ 10 ∷ []) h5))

shown_object : (line : Line) (members : Members) → Shows line members → text_of members ≡ object_text false line
shown_object line members shows =
    cc (shows.digest, shows.filename, shows.length, shows.method, shows.mime, shows.number, shows.offset, shows.status, shows.url, object_joined line)

-- a text whose parts show the line is the line's
pub shown_text : (line : Line) (parts : Parts) (text : List ℕ) → IsTextOf parts text → parts.key.now ≡ line.key → parts.date ≡ line.date → Shows line parts.members → text ≡ line_text line
shown_text line parts text is key date shows =
    is ∙ ap (λ k. k ++ 32 ∷ (time_digits parts.date ++ 32 ∷ (text_of parts.members ++ 10 ∷ []))) key
    ∙ ap (λ d. line.key ++ 32 ∷ (time_digits d ++ 32 ∷ (text_of parts.members ++ 10 ∷ []))) date
    ∙ ap (λ o. line.key ++ 32 ∷ (time_digits line.date ++ 32 ∷ (o ++ 10 ∷ []))) (shown_object line parts.members shows)
    ∙ sym (line_parts line (line_text line) refl)
