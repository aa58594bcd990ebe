-- A group of a sound book is one that a scan finds.
use Rattle.std.proofs.Common.{◌≡◌, ◌<◌, ◌≤◌, ℕ, ◌+◌, ◌-◌, ◌^◌, List, length, refl, sym, ap, subst, ◌∙◌, arith, length-append}
use Rattle.std.specs.Prelude.{Option, Some, None, slice_get}
use Rattle.std.proofs.lemmas.List.Elements.{All-get_or}
use Rattle.std.proofs.lemmas.Option.{get_or_from_slice_get, slice_get_within}
use Rattle.sha1.specs.Sha1.{sha1}
use Rattle.digest32.specs.Base32.{IsDigest}
use Rattle.time_text.specs.Texts.{InRange}
use Rattle.capture.specs.Captures.{IsPayloadBy, captures, taken_back}
use Rattle.capture.specs.Soundness.{IsSoundBy}
use Rattle.capture.specs.declared.book.Book.{Book}
use Rattle.capture.specs.declared.captured.Kept.{Kept}
use Rattle.capture.specs.declared.captured.Kept.TheVariants.{Wire, Same, Cut}
use Rattle.capture.specs.declared.captured.Stored.{Stored}
use Rattle.capture.specs.declared.captured.Taken.{Taken}
use Rattle.warc_scan.specs.Groups.{HasPayloadLen, IsAnswer, IsGroup, reference_in, unknown_number}
use Rattle.warc_scan.specs.declared.group.Group.{Group}
use Rattle.warc_scan.specs.declared.group.Revisited.{Revisited}
use Rattle.warc_text.specs.Books.{IsGroupText, RefersBy, same_of}
use Rattle.warc_text.specs.Groups.{answer_block}
use Rattle.warc_text.specs.Ids.{id_of}
use Rattle.warc_text.specs.Records.{answer_text, group_text}
use Rattle.warc_text.specs.References.{Reference, reference_of, reference_to}
use Rattle.warc_text.specs.Sound.{IsSound}
use Rattle.warc_text.specs.declared.id.IdKind.TheVariants as ids
use Rattle.warc_text.specs.declared.same_of.SameOf.{SameOf}
use Rattle.warc_text.proofs.IdLaws.{id_is_uuid, sha1_length, sha1_small}
use Rattle.warc_text.proofs.LengthLaws.{length-response_text, length-revisit_text}

pub digest_is : (payload : List ℕ) → IsDigest (sha1 payload)
digest_is payload = record { length_is = sha1_length payload; bytes = sha1_small payload }

-- the record that a revisit refers to, as it is found
abbrev pub revisited_of : List ℕ → Option SameOf → Option Revisited
revisited_of namespace None = None
revisited_of namespace (Some s) = Some (record { id = id_of namespace ids.Response s.number; uri = s.uri; date = s.date })

reference_found : (namespace : List ℕ) (same : Option SameOf) → reference_in (revisited_of namespace same) ≡ reference_of namespace same
reference_found namespace None = refl
reference_found namespace (Some s) = refl

-- what is kept, as it is found
abbrev pub kept_found : Kept → Kept
kept_found (Wire wire) = Wire wire
kept_found (Same number) = Same unknown_number
kept_found (Cut wire) = Cut wire

abbrev pub as_found : Stored → Stored
as_found stored = record stored { kept = kept_found stored.kept }

taken_by : (stored : Stored) (kept : Kept) → taken_back (record stored { kept = kept_found kept }) ≡ taken_back (record stored { kept = kept })
taken_by stored (Wire wire) = refl
taken_by stored (Same number) = refl
taken_by stored (Cut wire) = refl

taken_found : (stored : Stored) → taken_back (as_found stored) ≡ taken_back stored
taken_found stored = taken_by stored stored.kept

-- the length of its payload
abbrev pub len_found : Kept → List ℕ → ℕ
len_found (Wire wire) payload = length payload
len_found (Same number) payload = 0
len_found (Cut wire) payload = length payload

has_len : (book : Book) (stored : Stored) (kept : Kept) (payload : List ℕ) → IsPayloadBy book stored kept payload
    → HasPayloadLen stored.method stored.head (kept_found kept) (len_found kept payload)
has_len book stored (Wire wire) payload has = (payload, has, refl)
has_len book stored (Same number) payload has = refl
has_len book stored (Cut wire) payload has = (payload, has, refl)

-- a block and the line ends behind it stand in a record
block_within : (id : List ℕ) (taken : Taken) (digest : List ℕ) (same : Option Reference) → IsDigest digest
    → length (answer_block taken same) + 4 ≤ length (answer_text id taken digest same)
unfolding answer_text
block_within id taken digest None is = omega (arith, length-response_text id taken digest is, length-append taken.head taken.wire)
block_within id taken digest (Some reference) is = omega (arith, length-revisit_text id taken digest reference is)

module _ (book : Book) (sound : IsSound book) where
  date_at : (number : ℕ) (stored : Stored) → slice_get (captures book) number ≡ Some stored → InRange stored.date
  date_at number stored placed =
      subst (λ (s : Stored). InRange s.date) (get_or_from_slice_get (captures book) number stored stored placed)
      (All-get_or (λ (s : Stored). InRange s.date) (captures book) number stored (slice_get_within (captures book) number stored placed) sound.dates)

  answer_found : (number : ℕ) (stored : Stored) (kept : Kept) (same : Option SameOf) (payload : List ℕ) → IsSoundBy book number stored kept
      → RefersBy book kept same → IsPayloadBy book stored kept payload
      → IsAnswer stored.method stored.head (sha1 payload) (reference_in (revisited_of book.namespace same)) (kept_found kept)
  answer_found number stored (Wire wire) same payload is refers has =
      (ap (λ (o : Option SameOf). reference_in (revisited_of book.namespace o)) refers, record { responds = is; payload = payload; has = has; digest_is = refl })
  answer_found number stored (Same first) same payload is refers has =
      let s = same_of first refers.0 in (
        refl,
        record {
          parsed = is.head.parsed;
          framing = is.head.framing;
          tells = is.head.tells;
          digest_is = digest_is payload;
          reference = reference_to book.namespace s;
          refers = ap (λ (o : Option SameOf). reference_in (revisited_of book.namespace o)) refers.2;
          is = record {
            id_is = id_is_uuid book.namespace ids.Response first;
            target = (sound.sound.each first refers.0 refers.1).target;
            date_is = date_at first refers.0 refers.1;
          };
        },
      )
  answer_found number stored (Cut wire) same payload is refers has =
      (ap (λ (o : Option SameOf). reference_in (revisited_of book.namespace o)) refers, record { responds = is; payload = payload; has = has; digest_is = refl })

  module _ (number : ℕ) (text : List ℕ) (g : IsGroupText book number text) (short : length text < 2 ^ 63) where
    abbrev first_text : List ℕ
    first_text = answer_text (id_of book.namespace ids.Response number) (taken_back (as_found g.stored)) (sha1 g.payload) (reference_in (revisited_of book.namespace g.same))

    abbrev block : List ℕ
    block = answer_block (taken_back (as_found g.stored)) (reference_in (revisited_of book.namespace g.same))

    abbrev pub group_found : Group
    group_found = record {
      number = number;
      stored = as_found g.stored;
      digest = sha1 g.payload;
      payload_len = len_found g.stored.kept g.payload;
      same = revisited_of book.namespace g.same;
      head_at = length first_text - (length block + 4);
      body_at = length first_text - (length block + 4) + length g.stored.head;
      first_len = length first_text;
      len = length text;
    }

    pub group_is_found : IsGroup book.namespace number text group_found
    group_is_found =
        let well = sound.sound.each number g.stored g.placed in
        record {
          number_is = refl;
          composed = g.composed ∙ sym (λ i. group_text book.namespace number (taken_found g.stored i) (sha1 g.payload) (reference_found book.namespace g.same i));
          short = short;
          target = well.target;
          date = date_at number g.stored g.placed;
          request = well.request;
          answer = answer_found number g.stored g.stored.kept g.same g.payload well.kept g.refers g.payload_is;
          payload_len = has_len book g.stored g.stored.kept g.payload g.payload_is;
          places = record {
            len = refl;
            first_len = refl;
            head = omega (arith, block_within (id_of book.namespace ids.Response number) (taken_back (as_found g.stored)) (sha1 g.payload) (reference_in (revisited_of book.namespace g.same)) (digest_is g.payload));
            body = refl;
          };
        }
