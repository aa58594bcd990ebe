use Rattle.std.proofs.Common.{rules, ℕ, ◌<◌, ◌+◌, ◌-◌, ◌*◌, refl, sym, ap, arith, ◌∙◌, length}
use Rattle.std.proofs.lemmas.List.Elements.{All-replicate, All-same}
use Rattle.std.proofs.lemmas.Slice.{take-put_mid_below, between-put_mid, overwrites}
use Rattle.std.specs.Prelude.{Some, is_some}
use Rattle.std.proofs.lemmas.Bool.{false≢true}
use Rattle.digest32.specs.Base32.{base32, characters}
use Rattle.digest32.proofs.Texts.{more_groups, AreBytes-put_mid, length-digest_text, is_digest_text, digest_injective, group_of_text, whole_text}
use Rattle.digest32.proofs.base32.read_base32.Goals as goal

pub returns-then-text-ne32-clause-reads_back : goal.returns-then-text-ne32-clause-reads_back
returns-then-text-ne32-clause-reads_back c = λ digest is e. absurd (omega (arith, length-digest_text digest is, ap length e))

pub groups-init : goal.groups-init
unfolding base32 characters
groups-init c = (record { length_is = refl; bytes = All-replicate (λ x. x < 256) 20 0 (omega arith) }, refl)

pub groups-preserved : goal.groups-preserved
groups-preserved c =
    let i : ℕ = c.groups.i in
    let is = c.groups.invariant.0 in
    let old = c.groups.digest in
    let bytes = c.copy_from_slice.new.self in
    let copied = c.copy_from_slice.ensures.after in
    let before = take-put_mid_below (5 * i) (5 * i + 5 - 5 * i) old bytes (5 * i) (omega arith) (omega arith) in
    let here = between-put_mid (5 * i) (5 * i + 5 - 5 * i) old bytes (5 * i + 5) (omega arith) (omega arith) in
    let in_range = All-same (λ x. x < 256) _ _ copied c.in_ok-bytes.ensures.0 in (
      record { length_is = search (rules, overwrites); bytes = AreBytes-put_mid _ _ old bytes is.bytes in_range },
      more_groups i _ c.args.text.now (search (rules, overwrites)) (c.groups.invariant.1 ∙ ap base32 (sym before))
          (c.in_ok-bytes.ensures.1 ∙ ap base32 (sym (here ∙ copied))),
    )

pub returns-in_err-bytes-clause-some : goal.returns-in_err-bytes-clause-some
returns-in_err-bytes-clause-some c =
    let none = ap is_some c.from_residual.ensures in
    (λ some. absurd (false≢true (sym none ∙ some)), λ is. absurd (c.in_err-bytes.ensures (group_of_text c.args.text.now c.groups.i is)))

pub returns-in_err-bytes-clause-reads_back : goal.returns-in_err-bytes-clause-reads_back
returns-in_err-bytes-clause-reads_back c = λ digest is e.
    absurd (c.in_err-bytes.ensures (group_of_text c.args.text.now c.groups.i (is_digest_text digest c.args.text.now is e)))

pub returns-clause-some : goal.returns-clause-some
returns-clause-some c =
    let whole = whole_text c.groups.i c.groups.digest c.args.text.now (omega arith) c.groups.invariant.0 c.if-text-ne32.false c.groups.invariant.1 in
    (λ _. is_digest_text c.groups.digest c.args.text.now c.groups.invariant.0 whole, λ _. refl)

pub returns-clause-read : goal.returns-clause-read
returns-clause-read c =
    whole_text c.groups.i c.groups.digest c.args.text.now (omega arith) c.groups.invariant.0 c.if-text-ne32.false c.groups.invariant.1

pub returns-clause-reads_back : goal.returns-clause-reads_back
returns-clause-reads_back c = λ digest is e.
    let whole = whole_text c.groups.i c.groups.digest c.args.text.now (omega arith) c.groups.invariant.0 c.if-text-ne32.false c.groups.invariant.1 in
    ap Some (digest_injective c.groups.digest digest c.groups.invariant.0 is (sym whole ∙ e))
