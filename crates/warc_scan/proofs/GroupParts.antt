-- The parts of a group's text, and what its opening says.
use Rattle.std.proofs.Common.{◌≡◌, ℕ, false, List, ◌++◌, Some, None, refl, sym, subst, ◌∙◌, ap}
use Rattle.std.specs.Prelude.{Option, IfSome}
use Rattle.sha1.specs.Sha1.{sha1}
use Rattle.digest32.specs.Base32.{IsDigest}
use Rattle.capture.specs.Captures.{taken_back}
use Rattle.capture.specs.declared.captured.Kept.{Kept}
use Rattle.capture.specs.declared.captured.Kept.TheVariants.{Wire, Same, Cut}
use Rattle.capture.specs.declared.captured.Taken.{Taken}
use Rattle.warc_text.specs.Groups.{answer_block, answer_cut}
use Rattle.warc_text.specs.Ids.{id_of}
use Rattle.warc_text.specs.Lines.{ended}
use Rattle.warc_text.specs.Records.{answer_text, group_text, request_opening, request_text, response_text, revisit_text}
use Rattle.warc_text.specs.References.{Reference}
use Rattle.warc_text.specs.declared.id.IdKind.TheVariants as ids
use Rattle.warc_text.proofs.IdLaws.{sha1_length, sha1_small}
use Rattle.record_opening.specs.Openings.{IsOpening, IsRevisited, Opening, opening_text}
use Rattle.warc_scan.specs.Groups.{IsAnswer, IsGroup, reference_in}
use Rattle.warc_scan.specs.declared.group.Group.{Group}

-- what the opening says
abbrev pub opening_in : Taken → List ℕ → Option Reference → Opening
opening_in taken digest same = record { date = taken.date; uri = taken.uri; digest = digest; cut = answer_cut taken same; same = same }

-- the first record is its opening and its block
pub first_record_is : (id : List ℕ) (taken : Taken) (digest : List ℕ) (same : Option Reference)
    → answer_text id taken digest same ≡ opening_text id (opening_in taken digest same) ++ ended (answer_block taken same)
unfolding answer_text response_text revisit_text
first_record_is id taken digest None = refl
first_record_is id taken digest (Some reference) = refl

-- and so is the second
pub second_record_is : (id answer_id : List ℕ) (taken : Taken) → request_text id answer_id taken ≡ request_opening id answer_id taken.date taken.uri ++ ended taken.request
unfolding request_text
second_record_is id answer_id taken = refl

pub group_is : (namespace : List ℕ) (number : ℕ) (taken : Taken) (digest : List ℕ) (same : Option Reference)
    → group_text namespace number taken digest same
    ≡ (opening_text (id_of namespace ids.Response number) (opening_in taken digest same) ++ ended (answer_block taken same))
    ++ (request_opening (id_of namespace ids.Request number) (id_of namespace ids.Response number) taken.date taken.uri ++ ended taken.request)
unfolding group_text
group_is namespace number taken digest same =
    ap (λ t. t ++ request_text (id_of namespace ids.Request number) (id_of namespace ids.Response number) taken)
    (first_record_is (id_of namespace ids.Response number) taken digest same)
    ∙ ap (λ t. (opening_text (id_of namespace ids.Response number) (opening_in taken digest same) ++ ended (answer_block taken same)) ++ t)
    (second_record_is (id_of namespace ids.Request number) (id_of namespace ids.Response number) taken)

-- ---- a group that is right has an opening that is right

hash_is_digest : (payload : List ℕ) → IsDigest (sha1 payload)
hash_is_digest payload = record { length_is = sha1_length payload; bytes = sha1_small payload }

pub record Told (digest : List ℕ) (same : Option Reference) : Type 0 where
  pub digest_is : IsDigest digest
  pub refers : IfSome same IsRevisited

pub told_by_answer : (method head digest : List ℕ) (same : Option Reference) (kept : Kept) → IsAnswer method head digest same kept → Told digest same
told_by_answer method head digest same (Wire wire) answer = record {
  digest_is = subst IsDigest (sym answer.1.digest_is) (hash_is_digest answer.1.payload);
  refers = subst (λ (o : Option Reference). IfSome o IsRevisited) (sym answer.0) tt;
}
told_by_answer method head digest same (Same number) answer = record {
  digest_is = answer.1.digest_is;
  refers = subst (λ (o : Option Reference). IfSome o IsRevisited) (sym answer.1.refers) answer.1.is;
}
told_by_answer method head digest same (Cut wire) answer = record {
  digest_is = subst IsDigest (sym answer.1.digest_is) (hash_is_digest answer.1.payload);
  refers = subst (λ (o : Option Reference). IfSome o IsRevisited) (sym answer.0) tt;
}

uncut : (taken : Taken) (same : Option Reference) → IfSome same (λ reference. answer_cut taken same ≡ false)
uncut taken None = tt
uncut taken (Some reference) = refl

pub opening_is_right : (namespace : List ℕ) (number : ℕ) (text : List ℕ) (group : Group) → IsGroup namespace number text group
    → IsOpening (opening_in (taken_back group.stored) group.digest (reference_in group.same))
opening_is_right namespace number text group is =
    let told = told_by_answer group.stored.method group.stored.head group.digest (reference_in group.same) group.stored.kept is.answer in
    record {
      date_is = is.date;
      target = is.target;
      digest_is = told.digest_is;
      refers = told.refers;
      whole = uncut (taken_back group.stored) (reference_in group.same);
    }
