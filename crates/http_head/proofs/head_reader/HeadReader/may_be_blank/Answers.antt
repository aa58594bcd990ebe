use Rattle.std.proofs.Common.{refl, inl, inr}
use Rattle.std.proofs.lemmas.Bool.{false≢true}
use Rattle.http_head.proofs.BlankLaws.{blank_at, cr_at, not_blank_at, not_cr_at}
use Rattle.http_head.proofs.head_reader.HeadReader.may_be_blank.Goals as goal

pub returns-in-Before : goal.returns-in-Before
returns-in-Before c = (
  λ _. elim c.in-Before.is [
    | inl before ↦ inl (blank_at _ _ _ c.self.invariant c.self.view_is before)
    | inr cr ↦ inr (cr_at _ _ _ c.self.invariant c.self.view_is cr)
  ],
  λ _. refl,
)

pub returns-in_default : goal.returns-in_default
returns-in_default c = (
  λ e. absurd (false≢true e),
  λ e. elim e [
    | inl blank ↦ absurd (not_blank_at _ _ _ c.self.invariant c.self.view_is c.in_default.not-Before blank)
    | inr cr ↦ absurd (not_cr_at _ _ _ c.self.invariant c.self.view_is c.in_default.not-Before c.in_default.not-BeforeCr cr)
  ],
)
