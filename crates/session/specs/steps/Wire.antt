-- What goes to a client over several texts, and what refusing its bytes leaves.
use Rattle.std.specs.Prelude.{◌≡◌, ◌⊎◌, List, ◌++◌, ℕ}
use Rattle.capture.specs.declared.refusal.Refusal.{Refusal}
use Rattle.outside.specs.declared.gate.Heard.{Heard}
use Rattle.session.specs.declared.served.Served.TheVariants.{Done, ClientBroke, ClientEndedEarly, ClientRefused, WantOfMemory}
use Rattle.session.specs.declared.served.Served.{Served}
use Rattle.request_answer.specs.steps.Wire.{Breaks, Writes}

-- A text was written, and no write failed.
pub record Says (text : List ℕ) (then now : Heard) : Type 0 where
  pub written : now.written ≡ then.written ++ text
  pub unfailed : now.failed_writes ≡ then.failed_writes

-- one of the two
abbrev pub Tries : List ℕ → Heard → Heard → Type 0
Tries text then now = Writes text then now ⊎ Breaks text then now

-- What a refusal of bytes leaves, by how the connection ends with it. No memory is needed for its text.
abbrev pub EndsRefusal : Refusal → List ℕ → Heard → Heard → Served → Type 0
EndsRefusal refusal text then now (ClientRefused told) = (told ≡ refusal) × Writes text then now
EndsRefusal refusal text then now ClientBroke = Breaks text then now
EndsRefusal refusal text then now Done = ⊥
EndsRefusal refusal text then now ClientEndedEarly = ⊥
EndsRefusal refusal text then now WantOfMemory = ⊥
