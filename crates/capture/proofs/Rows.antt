-- Worked rows of the definitions: what they say of messages that are written out.
use Rattle.std.proofs.Common.{◌≡◌, ℕ, true, false, List, [], ◌∷◌, ◌++◌, Ok, Err, Some, None, refl, arith}
use Rattle.std.specs.Prelude.{All, codes}
use Rattle.std.specs.Char.{is_ascii_hexdigit}
use Rattle.std.proofs.lemmas.List.Elements.{All-append, All-cons, All-nil}
use Rattle.httparse.specs.Grammar.{trim_ows, ChunkLine, IsChunkLine, print_chunk_line, crlf}
use Rattle.capture.specs.Chunks.{Chunk, InData, IsChunk}
use Rattle.capture.specs.Framing.{framing_of_request, framing_of_response}
use Rattle.capture.specs.Head.{front_of, section_len}
use Rattle.capture.specs.Head as head
use Rattle.capture.specs.Payload.{IsPayload}
use Rattle.capture.specs.declared.framing.Framing.TheVariants.{Empty, Length, Chunked, ToEnd}
use Rattle.capture.specs.declared.framing.FramingFault.TheVariants.{Malformed, CodingRefused}

-- ---- framing

coding_beside_length : framing_of_request 1 ((codes "Transfer-Encoding", codes "chunked") ∷ (codes "Content-Length", codes "1") ∷ []) ≡ Err Malformed
coding_beside_length = refl

coding_of_old_version : framing_of_request 0 ((codes "transfer-encoding", codes "chunked") ∷ []) ≡ Err Malformed
coding_of_old_version = refl

other_coding : framing_of_request 1 ((codes "Transfer-Encoding", codes "gzip, chunked") ∷ []) ≡ Err CodingRefused
other_coding = refl

coding_in_upper_case : framing_of_request 1 ((codes "TRANSFER-ENCODING", codes "CHUNKED") ∷ []) ≡ Ok Chunked
coding_in_upper_case = refl

one_length_twice : framing_of_request 1 ((codes "Content-Length", codes "3, 03") ∷ []) ≡ Ok (Length 3)
unfolding trim_ows
one_length_twice = refl

two_lengths : framing_of_request 1 ((codes "Content-Length", codes "3") ∷ (codes "Content-Length", codes "4") ∷ []) ≡ Err Malformed
unfolding trim_ows
two_lengths = refl

signed_length : framing_of_request 1 ((codes "Content-Length", codes "+3") ∷ []) ≡ Err Malformed
unfolding trim_ows
signed_length = refl

no_length : framing_of_request 1 ((codes "Host", codes "a.test") ∷ []) ≡ Ok Empty
no_length = refl

length_zero : framing_of_request 1 ((codes "Content-Length", codes "0") ∷ []) ≡ Ok (Length 0)
unfolding trim_ows
length_zero = refl

chunked_beside_length : framing_of_response false 1 200 ((codes "Content-Length", codes "x") ∷ (codes "Transfer-Encoding", codes "chunked") ∷ []) ≡ Ok Chunked
chunked_beside_length = refl

up_to_the_end : framing_of_response false 0 200 [] ≡ Ok ToEnd
up_to_the_end = refl

of_head : framing_of_response true 1 200 ((codes "Content-Length", codes "x") ∷ []) ≡ Ok Empty
of_head = refl

not_modified : framing_of_response false 1 304 ((codes "Transfer-Encoding", codes "gzip") ∷ []) ≡ Ok Empty
not_modified = refl

-- ---- fronts

behind_line_ends : front_of (codes "\r\n\nGET / HTTP/1.1\r\n\r\nrest") ≡ head.Head 3 (codes "GET / HTTP/1.1\r\n\r\n")
behind_line_ends = refl

line_ends_alone : front_of (codes "\r\n\n") ≡ head.Nothing
line_ends_alone = refl

lone_cr : front_of (codes "\n\r") ≡ head.More
lone_cr = refl

no_trailer : section_len (codes "\r\nrest") ≡ Some 2
no_trailer = refl

-- ---- payloads

-- a size line of one digit
abbrev line_of : ℕ → ChunkLine
line_of digit = record { digits = digit ∷ []; pad = []; extension = None }

is_line : (digit : ℕ) → is_ascii_hexdigit digit ≡ true → IsChunkLine (line_of digit)
is_line digit is = record {
  digits = (omega arith, omega arith, All-cons (λ b. is_ascii_hexdigit b ≡ true) digit [] is (All-nil _));
  pad = All-nil _;
  extension = tt;
}

-- a chunk with a size line of one digit
abbrev chunk_of : ℕ → List ℕ → Chunk
chunk_of digit text = record { line = line_of digit; data_bytes = text }

-- `he` and `l`
abbrev two_chunks : List Chunk
two_chunks = chunk_of 50 (codes "he") ∷ chunk_of 49 (codes "l") ∷ []

are_chunks : All IsChunk two_chunks
are_chunks =
    All-cons IsChunk (chunk_of 50 (codes "he")) (chunk_of 49 (codes "l") ∷ [])
    (record { line = is_line 50 refl; some = omega arith; size = refl })
    (All-cons IsChunk (chunk_of 49 (codes "l")) [] (record { line = is_line 49 refl; some = omega arith; size = refl }) (All-nil IsChunk))

-- `hello` in three chunks
whole_body : IsPayload false Chunked (codes "2\r\nhe\r\n1\r\nl\r\n2\r\nlo\r\n0\r\n\r\n") (codes "hello")
unfolding print_chunk_line
whole_body = (
  record {
    chunks = two_chunks ++ chunk_of 50 (codes "lo") ∷ [];
    last = line_of 48;
    trailer = [];
    end = crlf;
  },
  record {
    chunks = All-append IsChunk two_chunks (chunk_of 50 (codes "lo") ∷ []) are_chunks
        (All-cons IsChunk (chunk_of 50 (codes "lo")) [] (record { line = is_line 50 refl; some = omega arith; size = refl }) (All-nil IsChunk));
    last = is_line 48 refl;
    zero = refl;
    trailer = All-nil _;
  },
  refl,
  refl,
)

-- it ended behind `hell`
cut_body : IsPayload true Chunked (codes "2\r\nhe\r\n1\r\nl\r\n2\r\nl") (codes "hell")
unfolding print_chunk_line
cut_body = (
  record { chunks = two_chunks; begun = InData (line_of 50) (codes "l") },
  record { chunks = are_chunks; begun = (is_line 50 refl, omega arith) },
  refl,
  refl,
)
