-- Targets at the front of bytes.
use Rattle.std.proofs.Common.{◌≡◌, ℕ, zero, suc, Bool, true, false, ◌&&◌, List, [], ◌∷◌, ◌++◌, drop, get_or, None, is_ok, refl, sym, ap, ◌∙◌, arith}
use Rattle.std.proofs.lemmas.Bool.{and_parts, false≢true}
use Rattle.httparse.specs.Ascii.{crlf_bytes}
use Rattle.url.specs.Parser.{parse_url}
use Rattle.url.specs.Parts.{Parts}
use Rattle.capture.specs.Target.{IsAcceptedAs, authority_of, begins_with_http, is_http_target, is_plain_authority, is_target_byte, is_target_text}
use Rattle.warc_text.specs.Groups.{IsOneLine}
use Rattle.record_opening.specs.Openings.{IsTarget}
use Rattle.record_opening.specs.OpenValues.{IsPartOfTarget}
use Rattle.record_opening.specs.Stops.{NoValueStands}
use Rattle.record_opening.specs.declared.stop.Stop.TheVariants.{Open, Wrong}
use Rattle.record_opening.proofs.LineValues.{ended_line, open_line}
use Rattle.record_opening.proofs.Refusals.{wrong_is_not_open}
use Rattle.record_opening.proofs.Samples.{some_target, some_target_is}

-- ---- a target is one line

return_is_no_target : is_target_byte 13 ≡ false
return_is_no_target = refl

one_line_target : (target : List ℕ) → is_target_text target ≡ true → IsOneLine target
one_line_target [] is k d lt = absurd (omega arith)
one_line_target (b ∷ target) is zero d lt = λ e. false≢true (sym return_is_no_target ∙ ap is_target_byte (sym e) ∙ (and_parts (is_target_byte b) (is_target_text target) is).0)
one_line_target (b ∷ target) is (suc k) d lt = one_line_target target (and_parts (is_target_byte b) (is_target_text target) is).1 k d (omega arith)

pub target_text : (target : List ℕ) → IsTarget target → is_target_text target ≡ true
target_text target is =
    let http = (and_parts (is_http_target target) _ is).0 in
    (and_parts (is_target_text target) (begins_with_http target) (and_parts (is_target_text target && begins_with_http target) (is_plain_authority (authority_of target)) http).0).0

pub target_is_one_line : (target : List ℕ) → IsTarget target → IsOneLine target
target_is_one_line target is = one_line_target target (target_text target is)

-- ---- what came of one are bytes of a target

both_true : (a b : Bool) → a ≡ true → b ≡ true → (a && b) ≡ true
both_true true true p q = refl
both_true true false p q = absurd (false≢true q)
both_true false b p q = absurd (false≢true p)

-- what is accepted as some URL
pub accepted_target : (target : List ℕ) (url : Parts) → IsAcceptedAs target url → IsTarget target
accepted_target target url is = both_true (is_http_target target) (is_ok (parse_url None target)) is.form (ap is_ok is.parses)

text_inside : (bytes line after other : List ℕ) → IsOneLine bytes → bytes ++ after ≡ line ++ (13 ∷ other) → is_target_text line ≡ true → is_target_text bytes ≡ true
text_inside [] line after other one e is = refl
text_inside (b ∷ bytes) [] after other one e is = absurd (one 0 0 (omega arith) (ap (λ (l : List ℕ). get_or l 0 0) e))
text_inside (b ∷ bytes) (c ∷ line) after other one e is =
    let parts = and_parts (is_target_byte c) (is_target_text line) is in
    let first : b ≡ c = ap (λ (l : List ℕ). get_or l 0 0) e in
    both_true (is_target_byte b) (is_target_text bytes) (ap is_target_byte first ∙ parts.0)
    (text_inside bytes line after other (λ k d lt. one (suc k) d (omega arith)) (ap (drop 1) e) parts.1)

pub open_targets : (bytes : List ℕ) → IsOneLine bytes → is_target_text bytes ≡ true → NoValueStands IsTarget (λ uri. uri ++ crlf_bytes) IsPartOfTarget Open bytes
open_targets bytes one is = open_line IsTarget (λ uri. uri) IsPartOfTarget target_is_one_line bytes some_target some_target_is one is

pub no_targets : (bytes : List ℕ) → IsOneLine bytes → is_target_text bytes ≡ false → NoValueStands IsTarget (λ uri. uri ++ crlf_bytes) IsPartOfTarget Wrong bytes
no_targets bytes one other_text = record {
  refuses = λ uri target after other e.
      false≢true (sym other_text ∙ text_inside bytes uri after (10 ∷ other) one (e ∙ ended_line uri other) (target_text uri target));
  line = tt;
  ends = λ is. absurd (wrong_is_not_open Wrong Open refl refl is);
}
