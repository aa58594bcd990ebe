use Rattle.std.proofs.Common.{◌≡◌, sym, ap, ◌∙◌, arith}
use Rattle.surt_key.specs.Key.{key_of}
use Rattle.archive_volumes.proofs.EntryLaws.{told_so}
use Rattle.archive_volumes.proofs.StatusLaws.{status_to}
use Rattle.archive_volumes.proofs.entry.entry_with.Goals as goal

pub invariant_of-result : goal.invariant_of-result
invariant_of-result c =
    let parsed = c.requires.parsed in
    let uri : c.in_ok-copy.field-0 ≡ c.args.asked.now.uri.now = c.in_ok-copy.ensures in
    record {
      in_range = c.requires.date;
      status_from = omega (arith, parsed.2.status, parsed.2.reads.status);
      status_to = omega (arith, parsed.2.status, status_to parsed.0 parsed.1 parsed.2.reads);
      keyed = ap key_of uri ∙ c.requires.keyed;
    }

pub returns : goal.returns
returns c = λ stored text h is of.
    let uri : c.in_ok-copy.field-0 ≡ c.args.asked.now.uri.now = c.in_ok-copy.ensures in (
      c.args.key,
      ap key_of is.uri_is ∙ c.requires.keyed,
      told_so stored h c.args.at c.args.key c.args.asked.now.date c.in_ok-copy.field-0 _ c.args.head.now.status
          (sym is.date_is) (uri ∙ sym is.uri_is) (c.in_ok-mime_of.ensures stored.kept text h is.revisit_is of) of.status,
    )
