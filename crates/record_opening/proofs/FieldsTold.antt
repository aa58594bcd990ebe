-- Fields of records tell their values, whatever follows them.
use Rattle.std.proofs.Common.{◌≡◌, ℕ, List, ◌∷◌, ◌++◌, append_assoc, drop, refl, sym, ap, ◌∙◌}
use Rattle.std.specs.Prelude.{codes}
use Rattle.httparse.specs.Ascii.{crlf_bytes}
use Rattle.digest32.specs.Base32.{IsDigest, base32}
use Rattle.time_text.specs.Texts.{InRange, warc_date}
use Rattle.time_text.proofs.DateLaws.{warc_date_front}
use Rattle.warc_text.specs.Ids.{IsUuid, id_text}
use Rattle.warc_text.specs.Lines.{date_field, date_line, digest_line, field, id_field, refers_date_line, refers_line, refers_target_line, target_line}
use Rattle.warc_text.proofs.Fronts.{field_apart, fronts, refers_target_front, target_front}
use Rattle.warc_text.proofs.IdLaws.{id_told}
use Rattle.warc_text.proofs.LengthLaws.{length-id_text, length-refers_line}
use Rattle.warc_text.proofs.Openings.{field_value}
use Rattle.record_opening.specs.Openings.{IsTarget}
use Rattle.record_opening.proofs.DigestLines.{digest_told}
use Rattle.record_opening.proofs.Refusals.{IsTold, same_behind}
use Rattle.record_opening.proofs.Targets.{target_is_one_line}

date_field_told : (name : List ℕ) (d e : ℕ) (x y : List ℕ) → date_field name d ++ x ≡ date_field name e ++ y → (d ≡ e) × (x ≡ y)
unfolding date_field
date_field_told name d e x y same =
    let front = name ++ codes ": " in
    let apart = sym (field_apart name (warc_date d) x) ∙ same ∙ field_apart name (warc_date e) y in
    let values = fronts front front (warc_date d ++ (13 ∷ (10 ∷ x))) (warc_date e ++ (13 ∷ (10 ∷ y))) refl apart in
    let parts = warc_date_front d e (13 ∷ (10 ∷ x)) (13 ∷ (10 ∷ y)) values.1 in
    (parts.0, ap (drop 2) parts.1)

pub date_line_told : (date : ℕ) → IsTold InRange date_line date
unfolding date_line
date_line_told date w x y was e = date_field_told (codes "WARC-Date") date w x y e

pub refers_date_told : (date : ℕ) → IsTold InRange refers_date_line date
unfolding refers_date_line
refers_date_told date w x y was e = date_field_told (codes "WARC-Refers-To-Date") date w x y e

pub target_told : (uri : List ℕ) → IsTarget uri → IsTold IsTarget target_line uri
target_told uri is w x y was e = target_front uri w x y (target_is_one_line uri is) (target_is_one_line w was) e

pub refers_target_told : (uri : List ℕ) → IsTarget uri → IsTold IsTarget refers_target_line uri
refers_target_told uri is w x y was e = refers_target_front uri w x y (target_is_one_line uri is) (target_is_one_line w was) e

pub refers_told : (id : List ℕ) → IsUuid id → IsTold IsUuid refers_line id
unfolding refers_line id_field
refers_told id is w x y was e =
    let lines = fronts (refers_line id) (refers_line w) x y (length-refers_line id ∙ sym (length-refers_line w)) e in
    (id_told id w is was (field_value (codes "WARC-Refers-To") (id_text id) (id_text w) (length-id_text id ∙ sym (length-id_text w)) lines.0), lines.1)

-- a text that tells a value tells it with more behind
pub told_more : {V : Type 0} (Is : V → Type 0) (text : V → List ℕ) (b : List ℕ) (v : V) → IsTold Is text v → IsTold Is (λ v. text v ++ b) v
told_more Is text b v told w x y was e =
    let first = told w (b ++ x) (b ++ y) was (sym (append_assoc (text v) b x) ∙ e ∙ append_assoc (text w) b y) in
    (first.0, (fronts b b x y refl first.1).1)

-- and with a text before it
pub told_behind : {V : Type 0} (Is : V → Type 0) (text : V → List ℕ) (a : List ℕ) (v : V) → IsTold Is text v → IsTold Is (λ v. a ++ text v) v
told_behind Is text a v told w x y was e = told w x y was (same_behind a (text v) (text w) x y e)

pub digest_line_told : (digest : List ℕ) → IsDigest digest → IsTold IsDigest digest_line digest
unfolding digest_line field
digest_line_told digest is =
    told_more IsDigest (λ d. codes "WARC-Payload-Digest: sha1:" ++ base32 d) crlf_bytes digest
    (told_behind IsDigest base32 (codes "WARC-Payload-Digest: sha1:") digest (digest_told digest is))
