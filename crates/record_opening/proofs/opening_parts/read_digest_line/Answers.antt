use Rattle.std.proofs.Common.{[], inl, inr, refl, arith}
use Rattle.std.specs.Prelude.{codes}
use Rattle.std.proofs.lemmas.Bool.{false≢true}
use Rattle.sha1.specs.Sha1.{sha1}
use Rattle.httparse.specs.Ascii.{crlf_bytes}
use Rattle.digest32.specs.Base32.{IsDigest, base32}
use Rattle.warc_text.specs.Lines.{digest_line, field}
use Rattle.record_opening.specs.OpenValues.{IsPartOfDigest}
use Rattle.record_opening.specs.Stops.{NoneStands}
use Rattle.record_opening.proofs.DigestLines.{digest_stands, digest_stop, digest_told, no_digest}
use Rattle.record_opening.proofs.Exits.{at_exit}
use Rattle.record_opening.proofs.Pieces.{at_value, before_value, behind_value, three}
use Rattle.record_opening.proofs.Samples.{some_digest_is}
use Rattle.record_opening.proofs.opening_parts.read_digest_line.Goals as goal

pub returns-in_err-given-clause-err : goal.returns-in_err-given-clause-err
unfolding digest_line field
returns-in_err-given-clause-err c =
    at_exit (λ s. NoneStands IsDigest digest_line s c.args.bytes.now) _ c.from_residual.result c.from_residual.ensures.1
    (before_value IsDigest base32 _ (codes "WARC-Payload-Digest: sha1:") crlf_bytes c.args.bytes.now (sha1 []) some_digest_is c.in_err-given.ensures.err)

pub returns-then-given-lt-DIGEST_LEN-clause-err : goal.returns-then-given-lt-DIGEST_LEN-clause-err
unfolding digest_line field
returns-then-given-lt-DIGEST_LEN-clause-err c =
    at_value IsDigest base32 _ (codes "WARC-Payload-Digest: sha1:") crlf_bytes c.args.bytes.now IsPartOfDigest c.in_ok-given.given.now (λ part. inr (inr (inl (refl, part)))) c.in_ok-given.ensures.ok
    (digest_stop c.in_ok-given.given.now c.open_form.result (omega arith) c.open_form.ensures)

pub returns-in_default-clause-err : goal.returns-in_default-clause-err
unfolding digest_line field
returns-in_default-clause-err c =
    at_value IsDigest base32 _ (codes "WARC-Payload-Digest: sha1:") crlf_bytes c.args.bytes.now IsPartOfDigest c.in_ok-given.given.now (λ part. inr (inr (inl (refl, part)))) c.in_ok-given.ensures.ok
    (no_digest c.in_ok-given.given.now c.split_at.result.0.now (omega arith) c.split_at.ensures.front (λ is. false≢true (c.in_default.ensures.some.1 is)))

pub returns-in_err-rest-clause-err : goal.returns-in_err-rest-clause-err
unfolding digest_line field
returns-in_err-rest-clause-err c =
    at_exit (λ s. NoneStands IsDigest digest_line s c.args.bytes.now) _ c.from_residual-in_err-rest.result c.from_residual-in_err-rest.ensures.1
    (behind_value IsDigest base32 _ (codes "WARC-Payload-Digest: sha1:") crlf_bytes c.args.bytes.now c.in_ok-given.given.now c.split_at.result.1.now c.in-Some.digest
    c.twenty_bytes.ensures (digest_told c.in-Some.digest c.twenty_bytes.ensures) c.in_ok-given.ensures.ok
    (digest_stands c.in_ok-given.given.now c.split_at.result.0.now c.split_at.result.1.now c.in-Some.digest c.split_at.ensures.front c.split_at.ensures.back c.in-Some.ensures.read)
    c.in_err-rest.ensures.err)

pub returns-clause-ok : goal.returns-clause-ok
unfolding digest_line field
returns-clause-ok c =
    let stands = three (codes "WARC-Payload-Digest: sha1:") (base32 c.in-Some.digest) crlf_bytes c.args.bytes.now c.in_ok-given.given.now c.split_at.result.1.now c.in_ok-rest.rest.now
    c.in_ok-given.ensures.ok
    (digest_stands c.in_ok-given.given.now c.split_at.result.0.now c.split_at.result.1.now c.in-Some.digest c.split_at.ensures.front c.split_at.ensures.back c.in-Some.ensures.read)
    c.in_ok-rest.ensures.ok in
    (c.twenty_bytes.ensures, stands)
