use Rattle.std.proofs.Common.{refl}
use Rattle.std.proofs.lemmas.Bool.{false≢true}
use Rattle.http_head.proofs.BlankLaws.{blank_at, not_blank_at, front_of-blank, blank_from_front}
use Rattle.http_head.proofs.head_reader.HeadReader.is_blank.Goals as goal

pub returns-in-Before-clause-blank : goal.returns-in-Before-clause-blank
returns-in-Before-clause-blank c = (λ _. blank_at _ _ _ c.self.invariant c.self.view_is c.in-Before.is, λ _. refl)

pub returns-in-Before-clause-front : goal.returns-in-Before-clause-front
returns-in-Before-clause-front c = λ h. (
  λ _. front_of-blank _ h (blank_at _ _ _ c.self.invariant c.self.view_is c.in-Before.is),
  λ _. refl,
)

pub returns-in_default : goal.returns-in_default
returns-in_default c = record {
  blank = (
    λ e. absurd (false≢true e),
    λ e. absurd (not_blank_at _ _ _ c.self.invariant c.self.view_is c.in_default.not-Before e),
  );
  front = λ h. (
    λ e. absurd (false≢true e),
    λ e. absurd (not_blank_at _ _ _ c.self.invariant c.self.view_is c.in_default.not-Before (blank_from_front _ h e)),
  );
}
