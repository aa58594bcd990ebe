-- A chunked body splits in one way, whole or cut.
use Rattle.std.proofs.Common.{◌≡◌, ℕ, List, [], ◌∷◌, ◌++◌, length, refl, sym, ap, ◌∙◌, arith, append_assoc}
use Rattle.std.proofs.lemmas.List.{append_cancel_left}
use Rattle.std.specs.Prelude.{All}
use Rattle.std.specs.List.{flat_map}
use Rattle.std.proofs.lemmas.List.Elements.{All-head, All-tail}
use Rattle.httparse.specs.Ascii.{crlf_bytes}
use Rattle.httparse.specs.Grammar.{chunk_size, print_chunk_line, ReadsChunkLine}
use Rattle.httparse.proofs.ChunkLemmas.{chunk_line_unique}
use Rattle.capture.specs.Chunks.{Chunk, IsChunk, print_chunk}

-- ---- fronts of one length

head_same : (a b : ℕ) (s t : List ℕ) → a ∷ s ≡ b ∷ t → (a ≡ b) × (s ≡ t)
head_same a b s t e = (cc, cc)

-- equal texts have equal fronts of one length
pub same_fronts : (s t rest other : List ℕ) → length s ≡ length t → s ++ rest ≡ t ++ other → (s ≡ t) × (rest ≡ other)
same_fronts [] [] rest other len e = (refl, e)
same_fronts [] (b ∷ t) rest other len e = absurd (omega (arith, len))
same_fronts (a ∷ s) [] rest other len e = absurd (omega (arith, len))
same_fronts (a ∷ s) (b ∷ t) rest other len e =
    let both = head_same a b (s ++ rest) (t ++ other) e in
    let others = same_fronts s t rest other (omega (arith, len)) both.1 in
    (cc, others.1)

-- ---- chunks

chunk_text : (c : Chunk) (rest : List ℕ)
    → print_chunk c ++ rest ≡ print_chunk_line c.line ++ (c.data_bytes ++ (crlf_bytes ++ rest))
chunk_text c rest = regrouped (print_chunk_line c.line) c.data_bytes crlf_bytes rest
  where
    regrouped : (a b c d : List ℕ) → a ++ b ++ c ++ d ≡ a ++ (b ++ (c ++ d))
    regrouped a b c d = simp append_assoc

-- a size line and the data of a chunk stand at the front, and then rest
pub line_of_chunk : (c : Chunk) (rest text : List ℕ) → IsChunk c → text ≡ print_chunk c ++ rest
    → ReadsChunkLine text c.line (c.data_bytes ++ (crlf_bytes ++ rest))
line_of_chunk c rest text is e = (is.line, e ∙ chunk_text c rest)

pub chunk_unique : (a b : Chunk) (rest other : List ℕ) → IsChunk a → IsChunk b → print_chunk a ++ rest ≡ print_chunk b ++ other
    → (a ≡ b) × (rest ≡ other)
chunk_unique a b rest other is_a is_b e =
    let lines = chunk_line_unique (print_chunk a ++ rest) a.line b.line (a.data_bytes ++ (crlf_bytes ++ rest)) (b.data_bytes ++ (crlf_bytes ++ other))
    (line_of_chunk a rest _ is_a refl) (line_of_chunk b other _ is_b e) in
    let len : length a.data_bytes ≡ length b.data_bytes = is_a.size ∙ ap chunk_size lines.0 ∙ sym is_b.size in
    let datas = same_fronts a.data_bytes b.data_bytes (crlf_bytes ++ rest) (crlf_bytes ++ other) len lines.1 in
    (λ i. record { line = lines.0 i; data_bytes = datas.0 i }, append_cancel_left crlf_bytes rest other datas.1)

-- no chunk stands at the front
pub record HasNoChunk (text : List ℕ) : Type 0 where
  pub none : (c : Chunk) (rest : List ℕ) → IsChunk c → text ≡ print_chunk c ++ rest → ⊥

print_first : (c : Chunk) (chunks : List Chunk) (rest : List ℕ)
    → flat_map print_chunk (c ∷ chunks) ++ rest ≡ print_chunk c ++ (flat_map print_chunk chunks ++ rest)
print_first c chunks rest = append_assoc (print_chunk c) (flat_map print_chunk chunks) rest

pub chunks_unique : (cs ds : List Chunk) (rest other : List ℕ) → All IsChunk cs → All IsChunk ds → HasNoChunk rest → HasNoChunk other
    → flat_map print_chunk cs ++ rest ≡ flat_map print_chunk ds ++ other → (cs ≡ ds) × (rest ≡ other)
chunks_unique [] [] rest other is_a is_b end_a end_b e = (refl, e)
chunks_unique [] (b ∷ ds) rest other is_a is_b end_a end_b e =
    absurd (end_a.none b (flat_map print_chunk ds ++ other) (All-head IsChunk b ds is_b) (e ∙ print_first b ds other))
chunks_unique (a ∷ cs) [] rest other is_a is_b end_a end_b e =
    absurd (end_b.none a (flat_map print_chunk cs ++ rest) (All-head IsChunk a cs is_a) (sym e ∙ print_first a cs rest))
chunks_unique (a ∷ cs) (b ∷ ds) rest other is_a is_b end_a end_b e =
    let first = chunk_unique a b (flat_map print_chunk cs ++ rest) (flat_map print_chunk ds ++ other)
    (All-head IsChunk a cs is_a) (All-head IsChunk b ds is_b) (sym (print_first a cs rest) ∙ e ∙ print_first b ds other) in
    let others = chunks_unique cs ds rest other (All-tail IsChunk a cs is_a) (All-tail IsChunk b ds is_b) end_a end_b first.1 in
    (λ i. first.0 i ∷ others.0 i, others.1)
