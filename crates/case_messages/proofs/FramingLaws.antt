-- A length within the limit of bodies is no fault of a head.
use Rattle.std.proofs.Common.{◌≡◌, ℕ, ◌≤◌, None, Ok, refl}
use Rattle.std.specs.Prelude.{Result}
use Rattle.std.proofs.lemmas.Bool.{le-ltb}
use Rattle.capture.specs.First.{fault_at_head}
use Rattle.capture.specs.declared.framing.Framing.{Framing}
use Rattle.capture.specs.declared.framing.Framing.TheVariants.{Length}
use Rattle.capture.specs.declared.framing.FramingFault.{FramingFault}
use Rattle.capture.specs.declared.limits.TheConstants.{BODY_LIMIT}

abbrev told : Framing → Result Framing FramingFault
told framing = Ok framing

pub length_within : (n : ℕ) → n ≤ BODY_LIMIT → fault_at_head (told (Length n)) ≡ None
length_within n h = rw (le-ltb BODY_LIMIT n h) refl
