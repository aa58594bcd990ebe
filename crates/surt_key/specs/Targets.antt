-- What has a key: the targets that a capture may have.
use Rattle.std.specs.Prelude.{◌≢◌, ℕ, List, IsTrue, None}
use Rattle.capture.specs.Target.{is_accepted_uri}
use Rattle.surt_key.specs.Key.{key_of}

-- an accepted target has a key
abbrev pub TargetsHaveKeys : Type 0
TargetsHaveKeys = (uri : List ℕ) → IsTrue (is_accepted_uri uri) → key_of uri ≢ None
