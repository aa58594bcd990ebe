-- Each wire has one payload, and so has each capture.
use Rattle.std.proofs.Common.{◌≡◌, ℕ, Bool, true, false, List, Result, Ok, refl, sym, ap, subst, ◌∙◌, append-nil}
use Rattle.std.proofs.lemmas.Option.{same_Some}
use Rattle.httparse.proofs.GrammarLemmas.{response_unique}
use Rattle.capture.specs.BodyLaws.{WiresHaveOnePayload, BodiesHaveAPayload, CutWiresHaveAPayload, CapturesHaveOnePayload}
use Rattle.capture.specs.Captures.{HasPayload, KeepsPayload, IsPayloadBy}
use Rattle.capture.specs.Chunks.{ChunkedBody, print_chunked, joined_data, cut_data}
use Rattle.capture.specs.Framing.{response_framing}
use Rattle.capture.specs.Methods.{asks_for_head}
use Rattle.capture.specs.Payload.{IsPayload, IsJoined, IsCutJoined}
use Rattle.capture.specs.declared.book.Book.{Book}
use Rattle.capture.specs.declared.captured.Kept.{Kept}
use Rattle.capture.specs.declared.captured.Kept.TheVariants.{Wire, Same, Cut}
use Rattle.capture.specs.declared.captured.Stored.{Stored}
use Rattle.capture.specs.declared.framing.Framing.{Framing}
use Rattle.capture.specs.declared.framing.Framing.TheVariants.{Empty, Length, Chunked, ToEnd}
use Rattle.capture.proofs.CutLaws.{cut_unique, whole_unique}

whole_whole : (wire p q : List ℕ) → IsJoined wire p → IsJoined wire q → p ≡ q
whole_whole wire p q a b =
    let text = append-nil (print_chunked a.0) ∙ sym a.2 ∙ b.2 ∙ sym (append-nil (print_chunked b.0)) in
    let same = whole_unique a.0 b.0 _ _ a.1 b.1 text in
    a.3 ∙ ap (λ (c : ChunkedBody). joined_data c.chunks) same.0 ∙ sym b.3

cut_cut : (wire p q : List ℕ) → IsCutJoined wire p → IsCutJoined wire q → p ≡ q
cut_cut wire p q a b = a.3 ∙ ap cut_data (cut_unique a.0 b.0 a.1 b.1 (sym a.2 ∙ b.2)) ∙ sym b.3

chunked_payload : (cut : Bool) (wire p q : List ℕ) → IsPayload cut Chunked wire p → IsPayload cut Chunked wire q → p ≡ q
chunked_payload false wire p q a b = whole_whole wire p q a b
chunked_payload true wire p q a b = cut_cut wire p q a b

pub one_payload : WiresHaveOnePayload
one_payload cut Empty wire p q a b = a ∙ sym b
one_payload cut (Length n) wire p q a b = a ∙ sym b
one_payload cut Chunked wire p q a b = chunked_payload cut wire p q a b
one_payload cut ToEnd wire p q a b = a ∙ sym b

pub body_has_payload : BodiesHaveAPayload
body_has_payload Empty wire is = (wire, refl)
body_has_payload (Length n) wire is = (wire, refl)
body_has_payload Chunked wire is = (joined_data is.0.chunks, (is.0, is.1, is.2, refl))
body_has_payload ToEnd wire is = (wire, refl)

pub cut_has_payload : CutWiresHaveAPayload
cut_has_payload Empty wire is = absurd is
cut_has_payload (Length n) wire is = (wire, refl)
cut_has_payload Chunked wire is = (cut_data is.0, (is.0, is.1, is.3, refl))
cut_has_payload ToEnd wire is = absurd is

-- ---- captures

same_framing : {E : Type 0} (a b : Framing) → ◌≡◌ {A = Result Framing E} (Ok a) (Ok b) → a ≡ b
same_framing a b e = cc

payload_of_wire : (cut : Bool) (method head wire p q : List ℕ) → HasPayload cut method head wire p → HasPayload cut method head wire q → p ≡ q
payload_of_wire cut method head wire p q a b =
    let parsed = response_unique head a.parsed b.parsed _ _ a.whole.reads b.whole.reads in
    let framing = same_framing a.framing b.framing
    (sym a.framed ∙ ap (response_framing (asks_for_head method)) parsed.0 ∙ b.framed) in
    one_payload cut b.framing wire p q (subst (λ (f : Framing). IsPayload cut f wire p) framing a.decoded) b.decoded

same_wire : (x y : Stored) (wire other : List ℕ) → x.kept ≡ Wire wire → y.kept ≡ Wire other → x ≡ y → wire ≡ other
same_wire x y wire other a b e = let kept : Wire wire ≡ Wire other = sym a ∙ ap (λ (s : Stored). s.kept) e ∙ b in cc

-- a capture that keeps its wire is one, with one wire and one payload
payload_of_original : (book : Book) (number : ℕ) (x y : Stored) (wire other p q : List ℕ) → KeepsPayload book number x wire p
    → KeepsPayload book number y other q → p ≡ q
payload_of_original book number x y wire other p q a b =
    let one = same_Some x y (sym a.placed ∙ b.placed) in
    let wires = same_wire x y wire other a.kept b.kept one in
    let has : HasPayload false y.method y.head other p =
    subst (λ (w : List ℕ). HasPayload false y.method y.head w p) wires (subst (λ (s : Stored). HasPayload false s.method s.head wire p) one a.has) in
    payload_of_wire false y.method y.head other p q has b.has

payload_by_kept : (book : Book) (stored : Stored) (kept : Kept) (p q : List ℕ) → IsPayloadBy book stored kept p → IsPayloadBy book stored kept q → p ≡ q
payload_by_kept book stored (Wire wire) p q a b = payload_of_wire false stored.method stored.head wire p q a b
payload_by_kept book stored (Same first) p q a b = payload_of_original book first a.0 b.0 a.1 b.1 p q a.2 b.2
payload_by_kept book stored (Cut wire) p q a b = payload_of_wire true stored.method stored.head wire p q a b

pub captures_have_one : CapturesHaveOnePayload
captures_have_one book number p q a b =
    let one = same_Some a.stored b.stored (sym a.placed ∙ b.placed) in
    payload_by_kept book b.stored b.stored.kept p q (subst (λ (s : Stored). IsPayloadBy book s s.kept p) one a.by_kept) b.by_kept
