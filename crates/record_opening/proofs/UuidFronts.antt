-- The text of a UUID at the front of bytes.
use Rattle.std.proofs.Common.{◌≡◌, ℕ, ◌<◌, ◌≤◌, inl, inr, List, [], ◌++◌, length, length-append, take, get_or, Option, Some, unwrap_or, refl, sym, ap, subst, ◌∙◌, arith}
use Rattle.std.specs.Prelude.{IsTrue}
use Rattle.std.proofs.Math.ListN.{get_or-append}
use Rattle.std.proofs.lemmas.List.{take_at, take-append-le}
use Rattle.uuid.specs.Text.{lower, parsed}
use Rattle.uuid.proofs.RoundTrips.{parses_hyphenated}
use Rattle.warc_text.specs.Ids.{IsUuid, id_of, uuid_text}
use Rattle.warc_text.specs.declared.id.IdKind.TheVariants.{Info}
use Rattle.warc_text.proofs.IdLaws.{uuid_text_told}
use Rattle.warc_text.proofs.Fronts.{fronts}
use Rattle.warc_text.proofs.LengthLaws.{length-uuid_text}
use Rattle.record_opening.specs.Stops.{IsFormStop, NoValueStands}
use Rattle.record_opening.specs.Forms.{fits, uuid_form}
use Rattle.record_opening.specs.OpenValues.{IsPartOfUuid, Begins}
use Rattle.record_opening.specs.declared.stop.Stop.{Stop}
use Rattle.record_opening.specs.declared.stop.Stop.TheVariants.{Open, Wrong}
use Rattle.record_opening.proofs.Forms.{form_stop, uuid_fits}
use Rattle.record_opening.proofs.Refusals.{IsTold, wrong_is_not_open}
use Rattle.record_opening.proofs.Samples.{some_id_is}

pub uuid_front : (bytes after other id : List ℕ) → 36 ≤ length bytes → bytes ++ after ≡ uuid_text id ++ other → take 36 bytes ≡ uuid_text id
uuid_front bytes after other id long e =
    sym (take-append-le 36 bytes after long) ∙ ap (take 36) e ∙ take_at (uuid_text id) other 36 (length-uuid_text id)

-- it is parsed
pub uuid_parsed : (id : List ℕ) → IsUuid id → parsed (uuid_text id) ≡ Some id
unfolding uuid_text
uuid_parsed id is = sym (parses_hyphenated lower id (inl refl) is.length_is is.bytes)

-- and told
pub uuid_told : (id : List ℕ) → IsUuid id → IsTold IsUuid uuid_text id
uuid_told id is w x y was e =
    let texts = fronts (uuid_text id) (uuid_text w) x y (length-uuid_text id ∙ sym (length-uuid_text w)) e in
    (uuid_text_told id w is.length_is was.length_is is.bytes was.bytes texts.0, texts.1)

-- bytes that are too few
pub uuid_stop : (bytes : List ℕ) (stop : Stop) → length bytes < 36 → IsFormStop uuid_form bytes stop → NoValueStands IsUuid uuid_text IsPartOfUuid stop bytes
uuid_stop bytes stop short why =
    form_stop IsUuid uuid_text uuid_form bytes (λ id is k lt. uuid_fits id k (omega (arith, lt, length-uuid_text id))) stop (id_of [] Info 0) some_id_is
    (omega (arith, length-uuid_text (id_of [] Info 0))) short (λ id after other was e. omega (arith, short, length-uuid_text id)) why

-- what begins one may be a part of one
begun_uuid : (bytes id : List ℕ) → Begins (uuid_text id) bytes → IsPartOfUuid bytes
begun_uuid bytes id is =
    let longer : length bytes < 36 = omega (arith, is.more, ap length is.composed, length-append bytes is.behind, length-uuid_text id) in
    record {
      short = longer;
      each = λ k lt.
          let byte : get_or (uuid_text id) k 0 ≡ get_or bytes k 0 = ap (λ (l : List ℕ). get_or l k 0) is.composed ∙ get_or-append bytes is.behind 0 k lt in
          subst (λ b. IsTrue (fits (get_or uuid_form k 0) b)) byte (uuid_fits id k (omega (arith, lt, longer)));
    }

pub part_of_uuid : (bytes : List ℕ) (stop : Stop) → NoValueStands IsUuid uuid_text IsPartOfUuid stop bytes → stop ≡ Open → IsPartOfUuid bytes
part_of_uuid bytes stop none open_ =
    let some = none.ends open_ in
    elim some.2 [
      | inl begins ↦ begun_uuid bytes some.0 begins
      | inr part ↦ part.0
    ]

-- ---- thirty-six bytes that are no UUID's text

same_uuid : (a b : List ℕ) → Some a ≡ Some b → a ≡ b
same_uuid a b e = ap (λ (o : Option (List ℕ)). unwrap_or o []) e

-- they aren't parsed
pub not_parsed : (bytes text : List ℕ) → 36 ≤ length bytes → text ≡ take 36 bytes → ((id : List ℕ) → ¬ (parsed text ≡ Some id))
    → NoValueStands IsUuid uuid_text IsPartOfUuid Wrong bytes
not_parsed bytes text long front none = record {
  refuses = λ id is after other e. none id (ap parsed (front ∙ uuid_front bytes after other id long e) ∙ uuid_parsed id is);
  line = tt;
  ends = λ is. absurd (wrong_is_not_open Wrong Open refl refl is);
}

-- they are in another form
pub other_form : (bytes text written id : List ℕ) → 36 ≤ length bytes → text ≡ take 36 bytes → Some id ≡ parsed text → written ≡ uuid_text id
    → ¬ (written ≡ text) → NoValueStands IsUuid uuid_text IsPartOfUuid Wrong bytes
other_form bytes text written id long front read writes differs = record {
  refuses = λ value is after other e.
      let here : text ≡ uuid_text value = front ∙ uuid_front bytes after other value long e in
      let same : id ≡ value = same_uuid id value (read ∙ ap parsed here ∙ uuid_parsed value is) in
      differs (writes ∙ ap uuid_text same ∙ sym here);
  line = tt;
  ends = λ is. absurd (wrong_is_not_open Wrong Open refl refl is);
}
