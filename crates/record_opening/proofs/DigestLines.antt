-- The text of a payload's digest, at the front of bytes.
use Rattle.std.proofs.Common.{◌≡◌, ℕ, ◌<◌, ◌≤◌, List, [], ◌++◌, length, take, drop, refl, sym, ap, ◌∙◌, arith}
use Rattle.std.proofs.lemmas.List.{take_at, take-append-drop, take-append-le}
use Rattle.sha1.specs.Sha1.{sha1}
use Rattle.digest32.specs.Base32.{IsDigest, IsDigestText, base32}
use Rattle.digest32.proofs.Texts.{digest_injective, is_digest_text, length-digest_text}
use Rattle.warc_text.proofs.Fronts.{fronts}
use Rattle.record_opening.specs.Stops.{IsFormStop, NoValueStands}
use Rattle.record_opening.specs.Forms.{digest_form}
use Rattle.record_opening.specs.OpenValues.{IsPartOfDigest}
use Rattle.record_opening.specs.declared.stop.Stop.{Stop}
use Rattle.record_opening.specs.declared.stop.Stop.TheVariants.{Open, Wrong}
use Rattle.record_opening.proofs.Forms.{digest_fits, form_stop}
use Rattle.record_opening.proofs.Refusals.{IsTold, wrong_is_not_open}
use Rattle.record_opening.proofs.Samples.{some_digest_is}

-- bytes that are too few
pub digest_stop : (bytes : List ℕ) (stop : Stop) → length bytes < 32 → IsFormStop digest_form bytes stop → NoValueStands IsDigest base32 IsPartOfDigest stop bytes
digest_stop bytes stop short why =
    form_stop IsDigest base32 digest_form bytes
    (λ digest is k lt. digest_fits (base32 digest) (is_digest_text digest (base32 digest) is refl) k (omega (arith, lt, length-digest_text digest is)))
    stop (sha1 []) some_digest_is (omega (arith, length-digest_text (sha1 []) some_digest_is)) short
    (λ digest after other is e. omega (arith, short, length-digest_text digest is)) why

-- enough of them, which are no digest's text
pub no_digest : (bytes text : List ℕ) → 32 ≤ length bytes → text ≡ take 32 bytes → ¬ IsDigestText text → NoValueStands IsDigest base32 IsPartOfDigest Wrong bytes
no_digest bytes text long front none = record {
  refuses = λ digest is after other e.
      let read : text ≡ base32 digest =
      front ∙ sym (take-append-le 32 bytes after long) ∙ ap (take 32) e ∙ take_at (base32 digest) other 32 (length-digest_text digest is) in
      none (is_digest_text digest text is read);
  line = tt;
  ends = λ is. absurd (wrong_is_not_open Wrong Open refl refl is);
}

-- it is told, whatever follows
pub digest_told : (digest : List ℕ) → IsDigest digest → IsTold IsDigest base32 digest
digest_told digest is w x y was e =
    let texts = fronts (base32 digest) (base32 w) x y (length-digest_text digest is ∙ sym (length-digest_text w was)) e in
    (digest_injective digest w is was texts.0, texts.1)

-- a digest that stands
pub digest_stands : (bytes text behind digest : List ℕ) → text ≡ take 32 bytes → behind ≡ drop 32 bytes → text ≡ base32 digest → bytes ≡ base32 digest ++ behind
digest_stands bytes text behind digest front back read =
    sym (take-append-drop 32 bytes) ∙ ap (λ t. t ++ drop 32 bytes) (sym front ∙ read) ∙ ap (λ t. base32 digest ++ t) (sym back)
