-- A text that is split at a byte, and a size line's front.
use Rattle.std.proofs.Common.{◌≡◌, ◌≢◌, ℕ, Bool, true, List, [], ◌∷◌, ◌++◌, Option, Some, None, ◌⊎◌, inl, inr, refl, sym, ap, subst, ◌∙◌, arith, append_assoc, append-nil}
use Rattle.std.specs.Prelude.{All}
use Rattle.std.specs.Char.{is_ascii_hexdigit}
use Rattle.std.proofs.lemmas.List.Elements.{All-nil, All-cons, All-head, All-tail, All-append, All-weaker}
use Rattle.httparse.specs.Ascii.{carriage_return, line_feed}
use Rattle.httparse.specs.Grammar.{ChunkLine, print_chunk_line, print_extension, IsChunkLine, ReadsChunkLine, IsExtension, is_ows, is_extension_byte, AllPass}

pub heads_of : (a b : ℕ) (s t : List ℕ) → a ∷ s ≡ b ∷ t → (a ≡ b) × (s ≡ t)
heads_of a b s t e = (cc, cc)

-- the byte stands behind the first text, or in it
abbrev pub Split : (s t front : List ℕ) (byte : ℕ) (behind : List ℕ) → Type 0
Split s t front byte behind =
    ((come : List ℕ) × (front ≡ s ++ come) × (t ≡ come ++ byte ∷ behind))
    ⊎ ((others : List ℕ) × (s ≡ front ++ byte ∷ others) × (behind ≡ others ++ t))

pub split : (s t front : List ℕ) (byte : ℕ) (behind : List ℕ) → s ++ t ≡ front ++ byte ∷ behind → Split s t front byte behind
split [] t front byte behind e = inl (front, refl, e)
split (a ∷ s) t [] byte behind e =
    let both = heads_of a byte (s ++ t) behind e in
    inr (s, ap (λ b. b ∷ s) both.0, sym both.1)
split (a ∷ s) t (b ∷ front) byte behind e =
    let both = heads_of a b (s ++ t) (front ++ byte ∷ behind) e in
    further both.0 (split s t front byte behind both.1)
  where
    further : a ≡ b → Split s t front byte behind → Split (a ∷ s) t (b ∷ front) byte behind
    further same (inl past) = inl (past.0, (λ i. sym same i ∷ past.1 i), past.2)
    further same (inr inside) = inr (inside.0, (λ i. same i ∷ inside.1 i), inside.2)

pub nothing_left : (come : List ℕ) (byte : ℕ) (behind : List ℕ) → [] ≡ come ++ byte ∷ behind → ⊥
nothing_left [] byte behind e = cc
nothing_left (b ∷ come) byte behind e = cc

-- ---- texts without LF

abbrev pub HasNoLf : List ℕ → Type 0
HasNoLf text = All (λ b. b ≢ line_feed) text

pub no_lf : (front : List ℕ) (byte : ℕ) (behind : List ℕ) → HasNoLf (front ++ byte ∷ behind) → HasNoLf front × (byte ≢ line_feed)
no_lf [] byte behind none = (All-nil (λ b. b ≢ line_feed), All-head (λ b. b ≢ line_feed) byte behind none)
no_lf (b ∷ front) byte behind none =
    let others = no_lf front byte behind (All-tail (λ c. c ≢ line_feed) b (front ++ byte ∷ behind) none) in
    (All-cons (λ c. c ≢ line_feed) b front (All-head (λ c. c ≢ line_feed) b (front ++ byte ∷ behind) none) others.0, others.1)

pub lf_of_no_lf : (front : List ℕ) (byte : ℕ) → HasNoLf front → byte ≢ line_feed → HasNoLf (front ++ byte ∷ [])
lf_of_no_lf front byte none plain =
    All-append (λ b. b ≢ line_feed) front (byte ∷ []) none (All-cons (λ b. b ≢ line_feed) byte [] plain (All-nil (λ b. b ≢ line_feed)))

pass_without_lf : (test : ℕ → Bool) → test line_feed ≢ true → (bytes : List ℕ) → AllPass test bytes → HasNoLf bytes
pass_without_lf test fails bytes pass =
    All-weaker (λ b. test b ≡ true) (λ b. b ≢ line_feed) (λ b passed is. fails (ap test (sym is) ∙ passed)) bytes pass

-- ---- size lines

-- a size line but its LF
abbrev line_body : ChunkLine → List ℕ
line_body line = line.digits ++ line.pad ++ print_extension line.extension ++ carriage_return ∷ []

line_text : (line : ChunkLine) → print_chunk_line line ≡ line_body line ++ line_feed ∷ []
unfolding print_chunk_line
line_text line =
    sym (append_assoc (line.digits ++ line.pad ++ print_extension line.extension) (carriage_return ∷ []) (line_feed ∷ []))

byte_without_lf : (b : ℕ) (text : List ℕ) → b ≢ line_feed → HasNoLf text → HasNoLf (b ∷ text)
byte_without_lf b text plain none = All-cons (λ c. c ≢ line_feed) b text plain none

extension_without_lf : (extension : Option (List ℕ)) → IsExtension extension → HasNoLf (print_extension extension)
extension_without_lf None is = All-nil (λ b. b ≢ line_feed)
extension_without_lf (Some text) is =
    byte_without_lf 59 text (λ e. absurd (omega (arith, e))) (pass_without_lf is_extension_byte (λ e. cc) text is)

line_without_lf : (line : ChunkLine) → IsChunkLine line → HasNoLf (line_body line)
line_without_lf line is =
    let plain : ℕ → Type 0 = λ b. b ≢ line_feed in
    let cr = byte_without_lf 13 [] (λ e. absurd (omega (arith, e))) (All-nil (λ b. b ≢ line_feed)) in
    let digits = pass_without_lf is_ascii_hexdigit (λ e. cc) line.digits is.digits.2 in
    let pad = pass_without_lf is_ows (λ e. cc) line.pad is.pad in
    let before = All-append plain line.digits line.pad digits pad in
    let with_extension = All-append plain (line.digits ++ line.pad) (print_extension line.extension) before
    (extension_without_lf line.extension is.extension) in
    All-append plain (line.digits ++ line.pad ++ print_extension line.extension) (carriage_return ∷ []) with_extension cr

-- the byte stands before the line's LF, or is the LF
abbrev pub LineFront : ChunkLine → (front : List ℕ) (byte : ℕ) (behind : List ℕ) → Type 0
LineFront line front byte behind =
    (HasNoLf front × (byte ≢ line_feed)) ⊎ (HasNoLf front × (byte ≡ line_feed) × (behind ≡ []))

pub line_front : (line : ChunkLine) (front : List ℕ) (byte : ℕ) (behind : List ℕ) → IsChunkLine line
    → print_chunk_line line ≡ front ++ byte ∷ behind → LineFront line front byte behind
line_front line front byte behind is text =
    by_place (split (line_body line) (line_feed ∷ []) front byte behind (sym (line_text line) ∙ text))
  where
    last : (come : List ℕ) → front ≡ line_body line ++ come → line_feed ∷ [] ≡ come ++ byte ∷ behind → LineFront line front byte behind
    last [] is_front e =
        let both = heads_of line_feed byte [] behind e in
        inr (subst HasNoLf (sym (is_front ∙ append-nil (line_body line))) (line_without_lf line is), sym both.0, sym both.1)
    last (b ∷ come) is_front e = absurd (nothing_left come byte behind (heads_of line_feed b [] (come ++ byte ∷ behind) e).1)

    by_place : Split (line_body line) (line_feed ∷ []) front byte behind → LineFront line front byte behind
    by_place (inl past) = last past.0 past.1 past.2
    by_place (inr inside) = inl (no_lf front byte inside.0 (subst HasNoLf inside.1 (line_without_lf line is)))

-- a text without LF is no size line
pub no_line_without_lf : (text : List ℕ) (line : ChunkLine) (rest : List ℕ) → HasNoLf text → ReadsChunkLine text line rest → ⊥
no_line_without_lf text line rest none reads =
    let whole : text ≡ line_body line ++ line_feed ∷ rest =
    reads.1 ∙ ap (λ t. t ++ rest) (line_text line) ∙ append_assoc (line_body line) (line_feed ∷ []) rest in
    (no_lf (line_body line) line_feed rest (subst HasNoLf whole none)).1 refl
