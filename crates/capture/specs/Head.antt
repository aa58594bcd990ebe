-- Where a head stands in a stream: behind line ends that are skipped, up to its first empty line (RFC 9112,
-- sections 2.1 and 2.2). A line ends in CR LF, or in LF alone.
use Rattle.std.specs.Prelude.{ℕ, ◌+◌, ◌-◌, Bool, false, ◌&&◌, ◌==◌, nat_lt, nat_le, List, [], ◌∷◌, take, drop, length, count_by, Option, Some, None, option_map, if◌then◌else◌}
use Rattle.httparse.specs.Ascii.{line_feed, carriage_return}
use Rattle.capture.specs.declared.limits.TheConstants.{HEAD_LIMIT, FIELD_LIMIT}

-- the stream goes on with a LF
abbrev pub begins_with_lf : List ℕ → Bool
begins_with_lf [] = false
begins_with_lf (b ∷ bytes) = b == line_feed

-- how many bytes of line ends stand at the front
abbrev pub line_ends_len : List ℕ → ℕ
line_ends_len [] = 0
line_ends_len (b ∷ []) = if b == line_feed then 1 else 0
line_ends_len (b ∷ c ∷ bytes) =
    if b == line_feed then 1 + line_ends_len (c ∷ bytes)
    else (if b == carriage_return && c == line_feed then 2 + line_ends_len bytes else 0)

-- the stream behind the line ends at its front
abbrev pub after_line_ends : List ℕ → List ℕ
after_line_ends stream = drop (line_ends_len stream) stream

-- the length of an empty line at the front, 0 where there is none
abbrev pub empty_line_len : List ℕ → ℕ
empty_line_len [] = 0
empty_line_len (b ∷ bytes) =
    if b == line_feed then 1 else (if b == carriage_return && begins_with_lf bytes then 2 else 0)

-- how many bytes go up to and with the first empty line, which stands behind a line's LF
abbrev pub head_len : List ℕ → Option ℕ
head_len [] = None
head_len (b ∷ bytes) =
    if b == line_feed && nat_lt 0 (empty_line_len bytes) then Some (1 + empty_line_len bytes)
    else option_map (λ n. 1 + n) (head_len bytes)

-- how many bytes go up to and with the empty line that ends a trailer section, which may be the first line (RFC 9112,
-- section 7.1.2)
abbrev pub section_len : List ℕ → Option ℕ
section_len bytes = if nat_lt 0 (empty_line_len bytes) then Some (empty_line_len bytes) else head_len bytes

-- where the head ends in the stream, skipped line ends among what is counted
abbrev pub head_end : List ℕ → Option ℕ
head_end stream = option_map (λ n. line_ends_len stream + n) (head_len (after_line_ends stream))

-- how many lines a text has, by their LF
abbrev pub line_count : List ℕ → ℕ
line_count text = count_by (λ b. b == line_feed) text

-- how many lines a head has between its first line and its empty line
abbrev pub field_lines : List ℕ → ℕ
field_lines head = line_count head - 2

-- how many lines a trailer section has before its empty line
abbrev pub trailer_lines : List ℕ → ℕ
trailer_lines section = line_count section - 1

-- What the front of a stream is: a head within the limits, with the length of what is skipped before it and its
-- text; more than a head may be; nothing but line ends; or a head that isn't whole yet.
pub data Front : Type 0 where
  Head : (skipped : ℕ) (text : List ℕ) → Front
  TooLong : Front
  Nothing : Front
  More : Front

-- a head that ends there, unless it passes a limit: the length first, then the field lines
abbrev pub front_of_head : List ℕ → ℕ → Front
front_of_head stream end =
    let skipped = line_ends_len stream in
    let text = drop skipped (take end stream) in
    if nat_le end HEAD_LIMIT && nat_le (field_lines text) FIELD_LIMIT then Head skipped text else TooLong

-- the front of a stream that has no whole head, by how much has come
abbrev pub front_without_head : List ℕ → Front
front_without_head stream =
    if nat_lt HEAD_LIMIT (length stream) then TooLong
    else (if line_ends_len stream == length stream then Nothing else More)

-- the front of a stream
abbrev pub front_by : List ℕ → Option ℕ → Front
front_by stream None = front_without_head stream
front_by stream (Some end) = front_of_head stream end

abbrev pub front_of : List ℕ → Front
front_of stream = front_by stream (head_end stream)
