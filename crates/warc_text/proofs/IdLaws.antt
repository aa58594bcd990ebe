-- Ids that are written alike are the same.
use Rattle.std.proofs.Common.{◌≡◌, ℕ, zero, suc, ◌*◌, ◌%◌, ◌<◌, ◌≤◌, List, [], ◌++◌, length, length-append, length-set, take, unwrap_or, Option, Some, refl, sym, ap, ◌∙◌, inl, arith}
use Rattle.std.specs.Prelude.{All, codes, slice_index}
use Rattle.std.specs.Int.{byte_at, bytes_high_first}
use Rattle.std.proofs.lemmas.List.{length-take-le}
use Rattle.std.proofs.lemmas.List.Elements.{All-nil, All-cons, All-append, All-set, All-take}
use Rattle.sha1.specs.Sha1.{sha1, digest_bytes}
use Rattle.uuid.specs.Text.{lower, parsed_hyphenated}
use Rattle.uuid.proofs.RoundTrips.{parses_hyphenated_text}
use Rattle.warc_text.specs.declared.id.IdKind.{IdKind}
use Rattle.warc_text.specs.Ids.{IsUuid, id_name, id_of, name_based, id_text, uuid_text}
use Rattle.warc_text.proofs.Fronts.{fronts}
use Rattle.warc_text.proofs.LengthLaws.{length-uuid_text}

abbrev AreSmall : List ℕ → Type 0
AreSmall xs = All (λ b. b < 256) xs

remainder_small : (m : ℕ) → m % 256 < 256
remainder_small m = omega arith

byte_small : (i n : ℕ) → byte_at i n < 256
byte_small zero n = remainder_small n
byte_small (suc i) n = remainder_small _

word_small : (k n : ℕ) → AreSmall (bytes_high_first k n)
word_small zero n = All-nil (λ b. b < 256)
word_small (suc k) n = All-cons (λ b. b < 256) (byte_at k n) (bytes_high_first k n) (byte_small k n) (word_small k n)

word_length : (k n : ℕ) → length (bytes_high_first k n) ≡ k
word_length zero n = refl
word_length (suc k) n = ap suc (word_length k n)

digest_small : (h : List ℕ) (n : ℕ) → AreSmall (digest_bytes h n)
unfolding digest_bytes
digest_small h zero = All-nil (λ b. b < 256)
digest_small h (suc n) = All-append (λ b. b < 256) (digest_bytes h n) (bytes_high_first 4 (slice_index h n)) (digest_small h n) (word_small 4 (slice_index h n))

digest_length : (h : List ℕ) (n : ℕ) → length (digest_bytes h n) ≡ 4 * n
unfolding digest_bytes
digest_length h zero = refl
digest_length h (suc n) =
    length-append (digest_bytes h n) (bytes_high_first 4 (slice_index h n)) ∙ omega (arith, digest_length h n, word_length 4 (slice_index h n))

pub sha1_length : (m : List ℕ) → length (sha1 m) ≡ 20
unfolding sha1
sha1_length m = digest_length _ 5

pub sha1_small : (m : List ℕ) → AreSmall (sha1 m)
unfolding sha1
sha1_small m = digest_small _ 5

name_based_length : (namespace name : List ℕ) → length (name_based namespace name) ≡ 16
unfolding name_based
name_based_length namespace name =
    let hash = sha1 (namespace ++ name) in
    let long : 16 ≤ length hash = omega (arith, sha1_length (namespace ++ name)) in
    simp length-set (length-take-le 16 hash long)

name_based_small : (namespace name : List ℕ) → AreSmall (name_based namespace name)
unfolding name_based
name_based_small namespace name =
    let hash = sha1 (namespace ++ name) in
    let small : AreSmall (take 16 hash) = All-take (λ b. b < 256) 16 hash (sha1_small (namespace ++ name)) in
    All-set (λ b. b < 256) _ 6 _ (omega arith) (All-set (λ b. b < 256) (take 16 hash) 8 _ (omega arith) small)

pub uuid_text_told : (a b : List ℕ) → length a ≡ 16 → length b ≡ 16 → AreSmall a → AreSmall b → uuid_text a ≡ uuid_text b → a ≡ b
unfolding uuid_text
uuid_text_told a b long long₂ small small₂ same =
    let parsed : Some a ≡ Some b = parses_hyphenated_text lower a (inl refl) long small ∙ ap parsed_hyphenated same ∙ sym (parses_hyphenated_text lower b (inl refl) long₂ small₂) in
    ap (λ (o : Option (List ℕ)). unwrap_or o []) parsed

id_text_told : (a b : List ℕ) → id_text a ≡ id_text b → uuid_text a ≡ uuid_text b
unfolding id_text
id_text_told a b same =
    let front = codes "<urn:uuid:" in
    let closed = fronts (front ++ uuid_text a) (front ++ uuid_text b) (codes ">") (codes ">") (omega (arith, length-append front (uuid_text a), length-append front (uuid_text b), length-uuid_text a, length-uuid_text b)) same in
    (fronts front front (uuid_text a) (uuid_text b) refl closed.0).1

-- UUIDs that are written alike as ids
pub id_told : (a b : List ℕ) → IsUuid a → IsUuid b → id_text a ≡ id_text b → a ≡ b
id_told a b is is₂ same = uuid_text_told a b is.length_is is₂.length_is is.bytes is₂.bytes (id_text_told a b same)

-- the ids of records are UUIDs
pub id_is_uuid : (namespace : List ℕ) (kind : IdKind) (number : ℕ) → IsUuid (id_of namespace kind number)
unfolding id_of
id_is_uuid namespace kind number = record {
  length_is = name_based_length namespace (id_name kind number);
  bytes = name_based_small namespace (id_name kind number);
}
