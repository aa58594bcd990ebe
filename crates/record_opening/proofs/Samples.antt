-- Values of which there are some.
use Rattle.std.proofs.Common.{ℕ, false, List, [], None, refl, ◌≡◌, ◌<◌, ◌∷◌, length, drop, arith}
use Rattle.std.specs.Prelude.{codes}
use Rattle.sha1.specs.Sha1.{sha1}
use Rattle.url.proofs.OnLiterals.{url_on_literals}
use Rattle.digest32.specs.Base32.{IsDigest}
use Rattle.warc_text.specs.Ids.{IsUuid, id_of}
use Rattle.warc_text.specs.declared.id.IdKind.TheVariants.{Info}
use Rattle.warc_text.proofs.IdLaws.{id_is_uuid, sha1_length, sha1_small}
use Rattle.warc_text.specs.Lines.{field, opening, type_line, version_line}
use Rattle.warc_text.specs.Records.{response_opening}
use Rattle.record_opening.specs.Openings.{IsTarget, Opening, IsOpening, opening_by}

abbrev pub some_target : List ℕ
some_target = codes "http://a/"

pub some_target_is : IsTarget some_target
unfolding url_on_literals
some_target_is = refl

pub some_id_is : IsUuid (id_of [] Info 0)
some_id_is = id_is_uuid [] Info 0

pub some_digest_is : IsDigest (sha1 [])
some_digest_is = record { length_is = sha1_length []; bytes = sha1_small [] }

-- an opening with these values, one of which came
abbrev pub opening_with : ℕ → List ℕ → List ℕ → Opening
opening_with date uri digest = record { date = date; uri = uri; digest = digest; cut = false; same = None }

-- an opening of which there is one
abbrev pub some_opening : Opening
some_opening = opening_with 0 some_target (sha1 [])

pub some_opening_is : IsOpening some_opening
some_opening_is = record { date_is = omega arith; target = some_target_is; digest_is = some_digest_is; refers = tt; whole = tt }

-- its text
abbrev pub some_text : List ℕ → List ℕ
some_text id = opening_by id some_opening None

pub some_text_begins : (id : List ℕ) → some_text id ≡ 87 ∷ drop 1 (some_text id)
unfolding response_opening opening version_line type_line field
some_text_begins id = refl

pub some_text_goes_on : (id : List ℕ) → 0 < length (drop 1 (some_text id))
unfolding response_opening opening version_line type_line field
some_text_goes_on id = omega arith
