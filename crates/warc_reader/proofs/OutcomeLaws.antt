-- What a record gives, by its fields and its block.
use Rattle.std.specs.Prelude.{IfNone}
use Rattle.std.proofs.Common.{◌≡◌, ℕ, List, Option, Some, None, sym, subst, ◌∙◌}
use Rattle.capture.specs.Fields.{NamedValue}
use Rattle.warc_reader.specs.Dates.{IsDateText}
use Rattle.warc_reader.specs.Fields.{date_field, first_of}
use Rattle.warc_reader.specs.Imports.{IsDated}

-- what holds of fields and a block holds of those that they are
pub as_read : (P : List NamedValue → List ℕ → Type 0) (fs gs : List NamedValue) (b d : List ℕ) → fs ≡ gs → b ≡ d → P fs b → P gs d
as_read P fs gs b d same alike holds = subst (λ x. P gs x) alike (subst (λ x. P x b) same holds)

-- the one value of a field that is there
pub same_value : (a b : List ℕ) → Some a ≡ Some b → a ≡ b
same_value a b e = cc

pub not_dated : (fields : List NamedValue) (text : List ℕ) → first_of date_field fields ≡ Some text → ((date : ℕ) → ¬ (IsDateText text date))
    → (date : ℕ) → IsDated fields date → ⊥
not_dated fields text there none date dated =
    none date (subst (λ t. IsDateText t date) (same_value dated.0 text (sym dated.1 ∙ there)) dated.2)

pub no_date_field : (fields : List NamedValue) → first_of date_field fields ≡ None → (date : ℕ) → IsDated fields date → ⊥
no_date_field fields none date dated = absurd (none_some dated.0 (sym none ∙ dated.1))
  where
    none_some : (t : List ℕ) → None ≡ Some t → ⊥
    none_some t e = cc

pub if_none : {T : Type 0} (P Q : Type 0) → (P → Q) → (o : Option T) → IfNone o P → IfNone o Q
if_none P Q f None h = f h
if_none P Q f (Some x) h = tt
