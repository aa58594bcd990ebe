-- Forms with the keys of their URLs.
use Rattle.std.specs.Prelude.{◌≡◌, Some, ⊤}
use Rattle.surt_key.specs.Key.{key_of}
use Rattle.surt_key.specs.declared.address.KeyedUrl.{KeyedUrl}
use Rattle.replay_url.specs.declared.form.Form.{Form}
use Rattle.replay_url.specs.declared.form.Form.TheVariants as plain
use Rattle.replay_url.specs.declared.form.KeyedForm.{KeyedForm}
use Rattle.replay_url.specs.declared.form.KeyedForm.TheVariants.{Memento, Gate, Map, Query, Number, Ship}

-- the form without the key
abbrev pub form_of : KeyedForm → Form
form_of (Memento time digits raw of) = plain.Memento time digits raw of.url
form_of (Gate of) = plain.Gate of.url
form_of (Map of) = plain.Map of.url
form_of (Query text) = plain.Query text
form_of (Number number) = plain.Number number
form_of (Ship number) = plain.Ship number

-- the key is that of the URL
abbrev pub HasKey : KeyedUrl → Type 0
HasKey of = key_of of.url ≡ Some of.key

-- the keys are those of the URLs
abbrev pub HasKeys : KeyedForm → Type 0
HasKeys (Memento time digits raw of) = HasKey of
HasKeys (Gate of) = HasKey of
HasKeys (Map of) = HasKey of
HasKeys (Query text) = ⊤
HasKeys (Number number) = ⊤
HasKeys (Ship number) = ⊤
