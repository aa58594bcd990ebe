-- A group that a scan finds is one that tells its capture.
use Rattle.std.proofs.Common.{◌≡◌, ◌<◌, ℕ, ◌^◌, List, [], ◌∷◌, length, refl, sym, ap, subst, ◌∙◌, arith}
use Rattle.std.specs.Prelude.{IfSome, IsTrue, Option, Some, None, true, false, ◌&&◌}
use Rattle.std.proofs.lemmas.Bool.{and_parts, false≢true}
use Rattle.std.proofs.lemmas.List.Elements.{All-cons, All-nil}
use Rattle.digest32.specs.Base32.{IsDigest}
use Rattle.capture.specs.Captures.{kept_wire, taken_back}
use Rattle.capture.specs.Target.{authority_of, begins_with_http, is_accepted_uri, is_http_target, is_plain_authority, is_target_byte, is_target_text}
use Rattle.capture.specs.declared.captured.Kept.{Kept}
use Rattle.capture.specs.declared.captured.Kept.TheVariants.{Wire, Same, Cut}
use Rattle.capture.specs.declared.captured.Stored.{Stored}
use Rattle.warc_scan.specs.Groups.{IsAnswer, IsGroup, reference_in}
use Rattle.warc_scan.specs.declared.group.Group.{Group}
use Rattle.warc_text.specs.Groups.{IsOneLine, IsReference, IsWritable}
use Rattle.warc_text.specs.Records.{group_text}
use Rattle.warc_text.specs.References.{Reference}
use Rattle.warc_text.proofs.LengthLaws.{response_group_length, revisit_group_length}
use Rattle.warc_scan.proofs.FoundGroups.{digest_is}

-- an accepted target is one line
return_is_no_target : is_target_byte 13 ≡ false
return_is_no_target = refl

one_line_target : (target : List ℕ) → is_target_text target ≡ true → IsOneLine target
one_line_target [] is = All-nil (λ byte. byte ≡ 13 → ⊥)
one_line_target (b ∷ target) is =
    let parts = and_parts (is_target_byte b) (is_target_text target) is in
    All-cons (λ byte. byte ≡ 13 → ⊥) b target
    (λ e. false≢true (sym return_is_no_target ∙ ap is_target_byte (sym e) ∙ parts.0)) (one_line_target target parts.1)

accepted_is_one_line : (target : List ℕ) → IsTrue (is_accepted_uri target) → IsOneLine target
accepted_is_one_line target is =
    let http = (and_parts (is_http_target target) _ is).0 in
    one_line_target target (and_parts (is_target_text target) (begins_with_http target) (and_parts (is_target_text target && begins_with_http target) (is_plain_authority (authority_of target)) http).0).0

-- what is known of a group by what it keeps
record Kinds (kept : Kept) (digest : List ℕ) (same : Option Reference) : Type 0 where
  digest_right : IsDigest digest
  refers : IfSome same IsReference
  no_wire : IfSome same (λ reference. length (kept_wire kept) ≡ 0)

kinds_by : (method head digest : List ℕ) (same : Option Reference) (kept : Kept) → IsAnswer method head digest same kept → Kinds kept digest same
kinds_by method head digest same (Wire wire) is = record {
  digest_right = subst IsDigest (sym is.1.digest_is) (digest_is is.1.payload);
  refers = subst (λ (o : Option Reference). IfSome o IsReference) (sym is.0) tt;
  no_wire = subst (λ (o : Option Reference). IfSome o (λ reference. length wire ≡ 0)) (sym is.0) tt;
}
kinds_by method head digest same (Same number) is = record {
  digest_right = is.1.digest_is;
  refers = subst (λ (o : Option Reference). IfSome o IsReference) (sym is.1.refers) (record {
    id = is.1.is.id_is;
    uri = accepted_is_one_line is.1.reference.uri is.1.is.target;
  });
  no_wire = subst (λ (o : Option Reference). IfSome o (λ reference. length (kept_wire (Same number)) ≡ 0)) (sym is.1.refers) refl;
}
kinds_by method head digest same (Cut wire) is = record {
  digest_right = subst IsDigest (sym is.1.digest_is) (digest_is is.1.payload);
  refers = subst (λ (o : Option Reference). IfSome o IsReference) (sym is.0) tt;
  no_wire = subst (λ (o : Option Reference). IfSome o (λ reference. length wire ≡ 0)) (sym is.0) tt;
}

writable_by : (namespace : List ℕ) (number : ℕ) (stored : Stored) (digest : List ℕ) (same : Option Reference) → Kinds stored.kept digest same
    → length (group_text namespace number (taken_back stored) digest same) < 2 ^ 63 → IsOneLine stored.uri → IsWritable (taken_back stored) digest same
writable_by namespace number stored digest None kinds short target =
    let long = response_group_length namespace number (taken_back stored) digest kinds.digest_right in
    record {
      target = target;
      payload_digest = kinds.digest_right;
      head = omega (arith, long, short);
      wire = omega (arith, long, short);
      request = omega (arith, long, short);
      refers_to = tt;
    }
writable_by namespace number stored digest (Some reference) kinds short target =
    let long = revisit_group_length namespace number (taken_back stored) digest reference kinds.digest_right in
    record {
      target = target;
      payload_digest = kinds.digest_right;
      head = omega (arith, long, short);
      wire = omega (arith, kinds.no_wire);
      request = omega (arith, long, short);
      refers_to = kinds.refers;
    }

pub found_writable : (namespace : List ℕ) (number : ℕ) (text : List ℕ) (group : Group) → IsGroup namespace number text group
    → IsWritable (taken_back group.stored) group.digest (reference_in group.same)
found_writable namespace number text group is =
    writable_by namespace number group.stored group.digest (reference_in group.same)
    (kinds_by group.stored.method group.stored.head group.digest (reference_in group.same) group.stored.kept is.answer)
    (subst (λ (l : List ℕ). length l < 2 ^ 63) is.composed is.short)
    (accepted_is_one_line group.stored.uri is.target)
