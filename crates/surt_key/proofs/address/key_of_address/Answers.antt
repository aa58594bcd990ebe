-- A text that has a key is of ASCII.
use Rattle.std.proofs.Common.{◌∙◌, ap, sym}
use Rattle.std.proofs.lemmas.Bool.{false≢true}
use Rattle.surt_key.specs.Key.{key_of}
use Rattle.surt_key.proofs.KeyLemmas.{keyed_is_ascii}
use Rattle.surt_key.proofs.address.key_of_address.Goals as goal

pub returns-in-None-clause-not_http : goal.returns-in-None-clause-not_http
returns-in-None-clause-not_http c =
    absurd (false≢true (c.in-None.ensures.ascii.1 (keyed_is_ascii c.in_ok-url.url.items _ (ap key_of (sym c.as_slice.ensures.value) ∙ c.in_ok-key.ensures.key))))
