-- An address that is written is read back.
use Rattle.std.specs.Prelude.{◌≡◌, ℕ, ◌^◌, ◌<◌, true, List, [], IsSome, ⊤}
use Rattle.time_text.specs.Reading.{IsEarliest}
use Rattle.surt_key.specs.Addresses.{has_scheme}
use Rattle.surt_key.specs.Key.{key_of}
use Rattle.replay_url.specs.Forms.{CanBePut, IsForm, address_text, memento_digits}
use Rattle.replay_url.specs.declared.form.Form.{Form}
use Rattle.replay_url.specs.declared.form.Form.TheVariants.{Memento, Gate, Map, Query, Number, Ship}

-- the URL is read as it stands: it has a scheme, and a key is made of it
pub record StandsAlone (url : List ℕ) : Type 0 where
  pub schemed : has_scheme url ≡ true
  pub keyed : IsSome (key_of url)

-- a memento's time is the earliest that its digits name
pub record NamesItsTime (time digits : ℕ) (url : List ℕ) : Type 0 where
  pub earliest : IsEarliest (memento_digits time digits) time
  pub alone : StandsAlone url

-- the address of the form says all of it
abbrev pub IsTold : Form → Type 0
IsTold (Memento time digits raw url) = NamesItsTime time digits url
IsTold (Gate url) = StandsAlone url
IsTold (Map url) = StandsAlone url
IsTold (Query text) = ⊤
IsTold (Number number) = number < 2 ^ 32
IsTold (Ship number) = number < 2 ^ 32

-- behind a base, the address of a form is read as that form
abbrev pub AddressesAreReadBack : Type 0
AddressesAreReadBack = (form : Form) → CanBePut form → IsTold form → IsForm (address_text [] form) form

-- an address has one form
abbrev pub AddressesHaveOneForm : Type 0
AddressesHaveOneForm = (target : List ℕ) (a b : Form) → IsForm target a → IsForm target b → a ≡ b
