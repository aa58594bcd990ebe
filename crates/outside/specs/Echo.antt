-- The origin that echoes: it answers each request's head with the head's target.
use Rattle.std.specs.Prelude.{ℕ, ◌+◌, ◌==◌, ◌&&◌, nat_eq, if◌then◌else◌, Bool, List, [], ◌∷◌, ◌++◌, length, fold, codes, decimal}
use Rattle.std.specs.List.{before_first, after_first, ends_with}

-- The request target: what stands between the first and the second space of the first line (RFC 9112 section 3).
unfoldable pub target : List ℕ → List ℕ
target head =
    let line = before_first (λ byte. byte == 13) head in
    before_first (λ byte. byte == 32) (after_first (λ byte. byte == 32) line)

-- The answer to a head: its target and LF, as text.
unfoldable pub answer : List ℕ → List ℕ
answer head =
    codes "HTTP/1.1 200 OK\r\nContent-Type: text/plain\r\nContent-Length: "
    ++ decimal (length (target head) + 1) ++ codes "\r\n\r\n" ++ target head ++ codes "\n"

-- The head that has begun, and the answers to those before it.
pub record Echoed : Type 0 where
  pub begun : List ℕ
  pub answers : List ℕ

-- whether the head that has begun is whole with this byte: CR LF CR LF ends it (RFC 9112 section 2.1)
abbrev pub ends_head : List ℕ → ℕ → Bool
ends_head begun byte = byte == 10 && ends_with nat_eq begun (13 ∷ 10 ∷ 13 ∷ [])

-- one byte more: the head is whole and is answered, or it goes on
abbrev pub echo_byte : Echoed → ℕ → Echoed
echo_byte echoed byte =
    if ends_head echoed.begun byte
    then record { begun = []; answers = echoed.answers ++ answer echoed.begun }
    else record { begun = echoed.begun ++ byte ∷ []; answers = echoed.answers }

-- what was answered to these bytes
unfoldable pub echoed : List ℕ → Echoed
echoed bytes = fold echo_byte (record { begun = []; answers = [] }) bytes
