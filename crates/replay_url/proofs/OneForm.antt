-- An address has one form.
use Rattle.std.proofs.Common.{◌≡◌, ℕ, Bool, List, sym, ◌∙◌, arith}
use Rattle.std.proofs.lemmas.Fmt.{decimal_injective}
use Rattle.time_text.specs.Reading.{IsEarliest}
use Rattle.replay_url.specs.Address.{Parts, Numbered, Shipped, Mapped, Queried, Timed, Modified, Open, Outside}
use Rattle.replay_url.specs.Forms.{FormAt, IsNumber}
use Rattle.replay_url.specs.ReadBack.{AddressesHaveOneForm}
use Rattle.replay_url.specs.declared.form.Form.{Form}
use Rattle.replay_url.specs.declared.form.Form.TheVariants.{Memento, Gate, Map, Query, Number, Ship}

one_number : (text : List ℕ) (n m : ℕ) → IsNumber text n → IsNumber text m → Number n ≡ Number m
one_number text n m h k =
    let same : n ≡ m = decimal_injective n m (omega (arith, h.fits)) (omega (arith, k.fits)) (sym h.digits ∙ k.digits) in
    cc

one_ship : (text : List ℕ) (n m : ℕ) → IsNumber text n → IsNumber text m → Ship n ≡ Ship m
one_ship text n m h k =
    let same : n ≡ m = decimal_injective n m (omega (arith, h.fits)) (omega (arith, k.fits)) (sym h.digits ∙ k.digits) in
    cc

one_time : (digits : List ℕ) (a b : ℕ) → IsEarliest digits a → IsEarliest digits b → a ≡ b
one_time digits a b h k = omega (arith, h.earliest b k.named, k.earliest a h.named)

one_memento : (digits : List ℕ) (is_raw : Bool) (text : List ℕ) (time count t c : ℕ) (raw r : Bool) (url other : List ℕ)
    → FormAt (Timed digits is_raw text) (Memento time count raw url) → FormAt (Timed digits is_raw text) (Memento t c r other)
    → Memento time count raw url ≡ Memento t c r other
one_memento digits is_raw text time count t c raw r url other h k =
    let times : time ≡ t = one_time digits time t h.0 k.0 in
    let counts : count ≡ c = h.1 ∙ sym k.1 in
    let raws : raw ≡ r = h.2 ∙ sym k.2 in
    let urls : url ≡ other = h.3.value ∙ sym k.3.value in
    cc

one_map : (url other : List ℕ) → url ≡ other → Map url ≡ Map other
one_map url other e = cc

one_query : (asked said : List ℕ) → asked ≡ said → Query asked ≡ Query said
one_query asked said e = cc

one_gate : (url other : List ℕ) → url ≡ other → Gate url ≡ Gate other
one_gate url other e = cc

pub one_form : (parts : Parts) (a b : Form) → FormAt parts a → FormAt parts b → a ≡ b
one_form (Numbered text) (Number n) (Number m) h k = one_number text n m h k
one_form (Shipped text) (Ship n) (Ship m) h k = one_ship text n m h k
one_form (Mapped text) (Map url) (Map other) h k = one_map url other (h.value ∙ sym k.value)
one_form (Queried text) (Query asked) (Query said) h k = one_query asked said (h ∙ sym k)
one_form (Open text) (Gate url) (Gate other) h k = one_gate url other (h.value ∙ sym k.value)
one_form (Timed digits is_raw text) (Memento time count raw url) (Memento t c r other) h k = one_memento digits is_raw text time count t c raw r url other h k
one_form (Numbered text) (Number n) (Ship m) h k = absurd k
one_form (Numbered text) (Number n) (Map other) h k = absurd k
one_form (Numbered text) (Number n) (Query said) h k = absurd k
one_form (Numbered text) (Number n) (Gate other) h k = absurd k
one_form (Numbered text) (Number n) (Memento t c r other) h k = absurd k
one_form (Shipped text) (Ship n) (Number m) h k = absurd k
one_form (Shipped text) (Ship n) (Map other) h k = absurd k
one_form (Shipped text) (Ship n) (Query said) h k = absurd k
one_form (Shipped text) (Ship n) (Gate other) h k = absurd k
one_form (Shipped text) (Ship n) (Memento t c r other) h k = absurd k
one_form (Mapped text) (Map url) (Number m) h k = absurd k
one_form (Mapped text) (Map url) (Ship m) h k = absurd k
one_form (Mapped text) (Map url) (Query said) h k = absurd k
one_form (Mapped text) (Map url) (Gate other) h k = absurd k
one_form (Mapped text) (Map url) (Memento t c r other) h k = absurd k
one_form (Queried text) (Query asked) (Number m) h k = absurd k
one_form (Queried text) (Query asked) (Ship m) h k = absurd k
one_form (Queried text) (Query asked) (Map other) h k = absurd k
one_form (Queried text) (Query asked) (Gate other) h k = absurd k
one_form (Queried text) (Query asked) (Memento t c r other) h k = absurd k
one_form (Open text) (Gate url) (Number m) h k = absurd k
one_form (Open text) (Gate url) (Ship m) h k = absurd k
one_form (Open text) (Gate url) (Map other) h k = absurd k
one_form (Open text) (Gate url) (Query said) h k = absurd k
one_form (Open text) (Gate url) (Memento t c r other) h k = absurd k
one_form (Timed digits is_raw text) (Memento time count raw url) (Number m) h k = absurd k
one_form (Timed digits is_raw text) (Memento time count raw url) (Ship m) h k = absurd k
one_form (Timed digits is_raw text) (Memento time count raw url) (Map other) h k = absurd k
one_form (Timed digits is_raw text) (Memento time count raw url) (Query said) h k = absurd k
one_form (Timed digits is_raw text) (Memento time count raw url) (Gate other) h k = absurd k
one_form (Numbered text) (Ship n) b h k = absurd h
one_form (Numbered text) (Map url) b h k = absurd h
one_form (Numbered text) (Query asked) b h k = absurd h
one_form (Numbered text) (Gate url) b h k = absurd h
one_form (Numbered text) (Memento time count raw url) b h k = absurd h
one_form (Shipped text) (Number n) b h k = absurd h
one_form (Shipped text) (Map url) b h k = absurd h
one_form (Shipped text) (Query asked) b h k = absurd h
one_form (Shipped text) (Gate url) b h k = absurd h
one_form (Shipped text) (Memento time count raw url) b h k = absurd h
one_form (Mapped text) (Number n) b h k = absurd h
one_form (Mapped text) (Ship n) b h k = absurd h
one_form (Mapped text) (Query asked) b h k = absurd h
one_form (Mapped text) (Gate url) b h k = absurd h
one_form (Mapped text) (Memento time count raw url) b h k = absurd h
one_form (Queried text) (Number n) b h k = absurd h
one_form (Queried text) (Ship n) b h k = absurd h
one_form (Queried text) (Map url) b h k = absurd h
one_form (Queried text) (Gate url) b h k = absurd h
one_form (Queried text) (Memento time count raw url) b h k = absurd h
one_form (Open text) (Number n) b h k = absurd h
one_form (Open text) (Ship n) b h k = absurd h
one_form (Open text) (Map url) b h k = absurd h
one_form (Open text) (Query asked) b h k = absurd h
one_form (Open text) (Memento time count raw url) b h k = absurd h
one_form (Timed digits is_raw text) (Number n) b h k = absurd h
one_form (Timed digits is_raw text) (Ship n) b h k = absurd h
one_form (Timed digits is_raw text) (Map url) b h k = absurd h
one_form (Timed digits is_raw text) (Query asked) b h k = absurd h
one_form (Timed digits is_raw text) (Gate url) b h k = absurd h
one_form Modified a b h k = absurd h
one_form Outside a b h k = absurd h

pub addresses_have_one_form : AddressesHaveOneForm
addresses_have_one_form target a b h k = one_form _ a b h k
