-- The forms of the archive's addresses.
use Rattle.std.specs.Prelude.{◌≡◌, ℕ, ◌^◌, ◌<◌, Bool, List, [], ◌++◌, length, take, codes, decimal, None, IsSome, IsAscii, Contains, ⊤, if◌then◌else◌}
use Rattle.time_text.specs.Texts.{InRange, all_digits}
use Rattle.time_text.specs.Reading.{IsEarliest, Names, lengths}
use Rattle.surt_key.specs.Addresses.{url_of}
use Rattle.surt_key.specs.Key.{key_of}
use Rattle.replay_url.specs.declared.fault.FormFault.{FormFault}
use Rattle.replay_url.specs.declared.fault.FormFault.TheVariants.{NotAForm, BadTime, Memory}
use Rattle.replay_url.specs.declared.form.Form.{Form}
use Rattle.replay_url.specs.declared.form.Form.TheVariants.{Memento, Gate, Map, Query, Number, Ship}
use Rattle.replay_url.specs.Address.{Parts, Numbered, Shipped, Mapped, Queried, Timed, Modified, Open, Outside, parts_at}

-- the URL of an address, which has a key
pub record IsUrl (text url : List ℕ) : Type 0 where
  pub value : url ≡ url_of text
  pub keyed : IsSome (key_of url)

-- no key is made of the URL of an address
abbrev pub IsNoUrl : List ℕ → Type 0
IsNoUrl text = key_of (url_of text) ≡ None

-- a number in decimal, without a sign or leading zeros
pub record IsNumber (text : List ℕ) (number : ℕ) : Type 0 where
  pub fits : number < 2 ^ 32
  pub digits : text ≡ decimal number

-- the form of an address; that of a memento has the time that its digits name, how many these are, and whether it is raw
abbrev pub FormAt : Parts → Form → Type 0
FormAt (Numbered text) (Number number) = IsNumber text number
FormAt (Shipped text) (Ship number) = IsNumber text number
FormAt (Mapped text) (Map url) = IsUrl text url
FormAt (Queried text) (Query asked) = asked ≡ text
FormAt (Timed digits is_raw text) (Memento time count raw url) =
    IsEarliest digits time × (count ≡ length digits) × (raw ≡ is_raw) × IsUrl text url
FormAt (Open text) (Gate url) = IsUrl text url
FormAt (Numbered text) _ = ⊥
FormAt (Shipped text) _ = ⊥
FormAt (Mapped text) _ = ⊥
FormAt (Queried text) _ = ⊥
FormAt (Timed digits is_raw text) _ = ⊥
FormAt Modified form = ⊥
FormAt (Open text) _ = ⊥
FormAt Outside form = ⊥

abbrev pub IsForm : List ℕ → Form → Type 0
IsForm target form = FormAt (parts_at target) form

-- an address that has no form; one with digits that name no time is another fault, and what a query says isn't looked at
abbrev pub NoFormAt : Parts → Type 0
NoFormAt (Numbered text) = (number : ℕ) → IsNumber text number → ⊥
NoFormAt (Shipped text) = (number : ℕ) → IsNumber text number → ⊥
NoFormAt (Mapped text) = IsNoUrl text
NoFormAt (Queried text) = ⊥
NoFormAt (Timed digits raw text) = (time : ℕ) × IsEarliest digits time × IsNoUrl text
NoFormAt Modified = ⊤
NoFormAt (Open text) = IsNoUrl text
NoFormAt Outside = ⊤

-- an address of a memento whose digits name no time
abbrev pub BadTimeAt : Parts → Type 0
BadTimeAt (Timed digits raw text) = (time : ℕ) → Names digits time → ⊥
BadTimeAt _ = ⊥

-- why an address has no form
abbrev pub FaultAt : Parts → FormFault → Type 0
FaultAt parts NotAForm = NoFormAt parts
FaultAt parts BadTime = BadTimeAt parts
FaultAt parts Memory = ⊤

abbrev pub IsFault : List ℕ → FormFault → Type 0
IsFault target fault = FaultAt (parts_at target) fault

-- why an address has no URL
abbrev pub IsUrlFault : List ℕ → FormFault → Type 0
IsUrlFault text NotAForm = IsNoUrl text
IsUrlFault text BadTime = ⊥
IsUrlFault text Memory = ⊤

-- a memento's time has a text in so many digits, and a query is of ASCII
abbrev pub CanBePut : Form → Type 0
CanBePut (Memento time digits raw url) = InRange time × Contains lengths digits
CanBePut (Gate url) = ⊤
CanBePut (Map url) = ⊤
CanBePut (Query text) = IsAscii text
CanBePut (Number number) = ⊤
CanBePut (Ship number) = ⊤

-- a memento's time in so many digits, smaller units dropped
abbrev pub memento_digits : ℕ → ℕ → List ℕ
memento_digits time digits = take digits (all_digits time)

abbrev pub raw_text : Bool → List ℕ
raw_text raw = if raw then codes "id_" else []

-- the address of a memento: digits of its time, and its URL
unfoldable pub memento_address : List ℕ → List ℕ → Bool → List ℕ → List ℕ
memento_address base digits raw url = base ++ codes "/web/" ++ digits ++ raw_text raw ++ codes "/" ++ url

-- the address of a URL's gate
unfoldable pub gate_address : List ℕ → List ℕ → List ℕ
gate_address base url = base ++ codes "/web/" ++ url

-- the address of the list of a URL's captures
unfoldable pub map_address : List ℕ → List ℕ → List ℕ
map_address base url = base ++ codes "/web/timemap/link/" ++ url

-- the address of a query
unfoldable pub query_address : List ℕ → List ℕ → List ℕ
query_address base text = base ++ codes "/web/cdx?" ++ text

-- the address of a capture by its number
unfoldable pub number_address : List ℕ → ℕ → List ℕ
number_address base number = base ++ codes "/web/rec/" ++ decimal number

-- the address of a capture's piece
unfoldable pub piece_address : List ℕ → ℕ → List ℕ
piece_address base number = base ++ codes "/web/ship/" ++ decimal number

-- the whole address of a form, behind the site's base
abbrev pub address_text : List ℕ → Form → List ℕ
address_text base (Memento time digits raw url) = memento_address base (memento_digits time digits) raw url
address_text base (Gate url) = gate_address base url
address_text base (Map url) = map_address base url
address_text base (Query text) = query_address base text
address_text base (Number number) = number_address base number
address_text base (Ship number) = piece_address base number
