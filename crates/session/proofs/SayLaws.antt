-- Texts that are written one behind the other.
use Rattle.std.proofs.Common.{◌≡◌, ℕ, List, [], ◌++◌, refl, sym, ◌∙◌, ap, append_assoc}
use Rattle.std.proofs.lemmas.List.{append-nil}
use Rattle.outside.specs.Gate.{heard_of}
use Rattle.outside.specs.Link.{Traffic}
use Rattle.outside.specs.declared.gate.Heard.{Heard}
use Rattle.request_answer.specs.steps.Wire.{Writes}
use Rattle.session.specs.steps.Wire.{Says}

-- nothing was written
pub says_itself : (x : Heard) → Says [] x x
says_itself x = record { written = sym (append-nil x.written); unfailed = refl }

-- a link gave more, and nothing else of its traffic changed
pub nothing_said : (was is : Traffic) (before now : ℕ) → is ≡ record was { given = is.given; ended = is.ended } → Says [] (heard_of was before) (heard_of is now)
nothing_said was is before now e = record {
  written = ap (λ (traffic : Traffic). traffic.taken) e ∙ sym (append-nil was.taken);
  unfailed = ap (λ (traffic : Traffic). traffic.failed_writes) e;
}

-- a text, and then nothing
pub says_same : (text : List ℕ) (x y z : Heard) → Says text x y → Says [] y z → Says text x z
says_same text x y z h k = record {
  written = k.written ∙ append-nil y.written ∙ h.written;
  unfailed = k.unfailed ∙ h.unfailed;
}

-- a text, and then another
pub says_then : (first second : List ℕ) (x y z : Heard) → Says first x y → Writes second y z → Says (first ++ second) x z
says_then first second x y z h w = record {
  written = w.written ∙ ap (λ t. t ++ second) h.written ∙ append_assoc x.written first second;
  unfailed = w.unfailed ∙ h.unfailed;
}

-- nothing, and then a text
pub says_first : (text : List ℕ) (x y z : Heard) → Says [] x y → Writes text y z → Says text x z
says_first text x y z h w = record {
  written = w.written ∙ ap (λ t. t ++ text) (h.written ∙ append-nil x.written);
  unfailed = w.unfailed ∙ h.unfailed;
}
